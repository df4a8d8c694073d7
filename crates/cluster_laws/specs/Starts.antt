-- Two alike clusters that begin a replay. Own: "Alike clusters", "The order of a replay's refusals".
use Rattle.std.specs.Prelude.{Option, ◌≡◌, ℕ, Ok}
use Rattle.rmgr_hooks.specs.Custom.{Extension}
use Rattle.alike_clusters.specs.Clusters.{AlikeClusters}
use Rattle.cluster_tree.specs.Contents.{Contents}
use Rattle.cluster_tree.specs.PathValue.{PathValue}
use Rattle.replay_start.specs.Checked.{Start, start_of}

-- the other cluster passes every check too, and what it begins from says the same: its control file, its label and its log's records
pub record StartsAs (custom : Option Extension) (d : Contents) (other : PathValue) (s : Start) : Type 0 where
  pub start : Start
  pub passes : start_of custom d other ≡ Ok start
  pub control : start.control ≡ s.control
  pub label : start.label ≡ s.label
  pub records : start.records ≡ s.records

-- where one of two alike clusters passes, so does the other
abbrev pub StartAlike : Type 0
StartAlike = (custom : Option Extension) (per_file : ℕ) (c d : Contents) (root other : PathValue) (s : Start) → AlikeClusters per_file c root d other → start_of custom c root ≡ Ok s → StartsAs custom d other s
