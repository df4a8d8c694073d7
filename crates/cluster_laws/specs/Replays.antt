-- Two clusters that are replayed: PostgreSQL 16, src/backend/access/transam/xlogrecovery.c, PerformWalRecovery. Own: "Alike clusters", "A replay, in order".
use Rattle.std.specs.Prelude.{◌≡◌, ℕ, List, Option, Ok}
use Rattle.rmgr_hooks.specs.Custom.{Extension, IsSound}
use Rattle.alike_clusters.specs.Clusters.{AlikeClusters}
use Rattle.block_refs.specs.declared.names.BlockName.{BlockName}
use Rattle.cluster_compare.specs.Same.{IsSameCluster}
use Rattle.cluster_laws.specs.Kinds.{HasKinds}
use Rattle.cluster_tree.specs.Contents.{Contents}
use Rattle.cluster_tree.specs.PathValue.{PathValue}
use Rattle.replay_core.specs.Replayed.{After, after_replay, first_world}
use Rattle.replay_laws.specs.Log.{HoldsBytes}
use Rattle.replay_laws.specs.Refusals.{SomeLacksLayout}
use Rattle.replay_start.specs.Checked.{Start, start_of}
use Rattle.cluster_laws.specs.Converging.{IsBased}

-- the replay of a cluster ends, and leaves the same cluster as this one
pub record EndsAs (custom : Option Extension) (per_file : ℕ) (left : Contents) (root : PathValue) (d : Contents) (other : PathValue) : Type 0 where
  pub after : After
  pub ends : after_replay custom d other ≡ Ok after
  pub same : IsSameCluster per_file left root after.files other

-- Of two alike clusters whose blocks fit one base under the log, or are of relations that aren't logged: where the replay of the one ends, so
-- does that of the other, and they leave the same cluster.
abbrev pub Convergence : Type 0
Convergence = (custom : Option Extension) → IsSound custom → (base : BlockName → Option (List ℕ)) (redo : ℕ) (c d : Contents) (root other : PathValue) (s : Start) (after : After)
    → AlikeClusters s.control.relseg c root d other → HoldsBytes c root → start_of custom c root ≡ Ok s → ¬ (SomeLacksLayout s.records)
    → IsBased custom base redo s.records root s.control.relseg (first_world c root s) → IsBased custom base redo s.records other s.control.relseg (first_world d other s)
    → after_replay custom c root ≡ Ok after → EndsAs custom s.control.relseg after.files root d other

-- Where moreover each entry of the one is of the kind that servers leave at its place, both replays end.
pub record BothEnd (custom : Option Extension) (c : Contents) (root : PathValue) (d : Contents) (other : PathValue) (s : Start) : Type 0 where
  pub after : After
  pub ends : after_replay custom c root ≡ Ok after
  pub alike : EndsAs custom s.control.relseg after.files root d other

abbrev pub BothReplay : Type 0
BothReplay = (custom : Option Extension) → IsSound custom → (base : BlockName → Option (List ℕ)) (redo : ℕ) (c d : Contents) (root other : PathValue) (s : Start)
    → AlikeClusters s.control.relseg c root d other → HoldsBytes c root → HasKinds root c → start_of custom c root ≡ Ok s → ¬ (SomeLacksLayout s.records)
    → IsBased custom base redo s.records root s.control.relseg (first_world c root s) → IsBased custom base redo s.records other s.control.relseg (first_world d other s)
    → BothEnd custom c root d other s
