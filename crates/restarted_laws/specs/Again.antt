-- A log that is replayed again over a cluster in which a replay of it was stopped: PostgreSQL 16,
-- src/backend/access/transam/xlogrecovery.c, PerformWalRecovery. Own: "A replay that is begun again".
use Rattle.std.specs.Prelude.{◌≡◌, ◌⊎◌, ℕ, List, Option, Result, Ok, Err}
use Rattle.rmgr_hooks.specs.Custom.{Extension}
use Rattle.alike_clusters.specs.Clusters.{AlikeClusters}
use Rattle.block_refs.specs.declared.names.BlockName.{BlockName}
use Rattle.block_replay.specs.declared.faults.RecordFault.{RecordFault}
use Rattle.cluster_laws.specs.Alike.{AlikeWorlds}
use Rattle.cluster_tree.specs.Contents.{Contents}
use Rattle.cluster_tree.specs.PathValue.{PathValue}
use Rattle.replay_core.specs.Replayed.{After, after_replay}
use Rattle.replay_law.specs.Stage.{BeginsAnew}
use Rattle.replay_laws.specs.Converging.{Begins}
use Rattle.replay_laws.specs.Held.{IsMainBlock, is_among}
use Rattle.replay_laws.specs.Log.{steps}
use Rattle.replay_world.specs.World.{World}
use Rattle.storage_laws.specs.States.{page_in}
use Rattle.wal_records.specs.Reading.{LogRecord}

-- a block has the same page in both, or the log makes it anew: its first effect on the block is an image, a page that is
-- made, or that the block is gone
abbrev pub IsAgain : Option Extension → (root other : PathValue) → (per_file : ℕ) → List LogRecord → World → World → BlockName → Type 0
IsAgain custom root other per_file records w x name =
    (page_in root per_file name w.files ≡ page_in other per_file name x.files) ⊎ BeginsAnew (steps custom name records)

-- two worlds before a log, of which the one is what a replay of it that was stopped left of the other, but for what the log makes anew
pub record AreAgain (custom : Option Extension) (root : PathValue) (other : PathValue) (per_file : ℕ) (records : List LogRecord) (w : World) (x : World) : Type 0 where
  pub begins : Begins root per_file w
  pub other_begins : Begins other per_file x
  pub blocks : (name : BlockName) → IsMainBlock name → IsAgain custom root other per_file records w x name

-- worlds that are alike, with the same page of each block, and with the same changes skipped
pub record AreSame (root : PathValue) (other : PathValue) (per_file : ℕ) (v : World) (y : World) : Type 0 where
  pub alike : AlikeWorlds root other per_file v y
  pub pages : (name : BlockName) → IsMainBlock name → page_in root per_file name v.files ≡ page_in other per_file name y.files
  pub skips : (name : BlockName) → IsMainBlock name → is_among name v.skipped ≡ is_among name y.skipped

-- both replays end, with the same pages, or neither ends
abbrev pub EndTheSame : (root other : PathValue) → (per_file : ℕ) → Result World RecordFault → Result World RecordFault → Type 0
EndTheSame root other per_file (Ok v) (Ok y) = AreSame root other per_file v y
EndTheSame root other per_file (Ok v) (Err fault) = ⊥
EndTheSame root other per_file (Err fault) (Ok y) = ⊥
EndTheSame root other per_file (Err fault) (Err other_fault) = Unit {0}

-- the replay of a cluster ends too, and tells the same as this one; what it leaves is alike, with the same page of each block
pub record EndsTheSame (custom : Option Extension) (per_file : ℕ) (after : After) (root : PathValue) (d : Contents) (other : PathValue) : Type 0 where
  pub left : After
  pub ends : after_replay custom d other ≡ Ok left
  pub records : left.records ≡ after.records
  pub end : left.end ≡ after.end
  pub tli : left.tli ≡ after.tli
  pub files : AlikeClusters per_file after.files root left.files other
  pub pages : (name : BlockName) → IsMainBlock name → page_in root per_file name after.files ≡ page_in other per_file name left.files
