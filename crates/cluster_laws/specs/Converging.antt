-- Two clusters that replay one log, block by block and file by file: PostgreSQL 16, src/backend/access/transam/xlogrecovery.c, PerformWalRecovery.
-- Own: "Alike clusters", "The law of one block", "Relations that aren't logged".
use Rattle.std.specs.Prelude.{◌≡◌, ℕ, true, false, List, [], map, Option, Result, Ok, Err}
use Rattle.rmgr_hooks.specs.Custom.{Extension, IsSound}
use Rattle.block_effects.specs.Lives.{IsLife}
use Rattle.block_refs.specs.declared.names.BlockName.{BlockName}
use Rattle.block_replay.specs.declared.faults.RecordFault.{RecordFault}
use Rattle.block_replay.specs.declared.faults.RecordFault.TheVariants.{RedoFailed, File}
use Rattle.cluster_compare.specs.Same.{has_init}
use Rattle.cluster_tree.specs.PathValue.{PathValue}
use Rattle.file_edits.specs.Alike.{moved}
use Rattle.page_masks.specs.Law.{view}
use Rattle.record_effects.specs.Managers.{rules_of}
use Rattle.replay_law.specs.Premises.{HasNoChange}
use Rattle.replay_law.specs.Stage.{Matches}
use Rattle.replay_laws.specs.Converging.{Begins, FitsBase}
use Rattle.replay_laws.specs.Held.{IsMainBlock}
use Rattle.replay_laws.specs.Log.{AreTaken, split_of, steps}
use Rattle.replay_laws.specs.Refusals.{SomeLacksLayout}
use Rattle.replay_world.specs.Records.{records_after}
use Rattle.replay_world.specs.World.{World}
use Rattle.storage_laws.specs.States.{page_in}
use Rattle.wal_records.specs.Reading.{LogRecord}
use Rattle.cluster_laws.specs.Alike.{AlikeWorlds}

-- a cluster before it replays a log: each of its blocks fits the base under the log, which is a life of the block from this redo position on; but
-- of a relation that isn't logged, as its init fork tells, no record changes a block
pub record IsBased (custom : Option Extension) (base : BlockName → Option (List ℕ)) (redo : ℕ) (records : List LogRecord) (root : PathValue) (per_file : ℕ) (w : World) : Type 0 where
  pub begins : Begins root per_file w
  pub life : (name : BlockName) → IsMainBlock name → has_init w.files root name.rel ≡ false → IsLife (rules_of custom) name redo (base name) (map split_of records)
  pub fits : (name : BlockName) → IsMainBlock name → has_init w.files root name.rel ≡ false → FitsBase custom root per_file name (base name) records w
  pub unchanged : (name : BlockName) → IsMainBlock name → has_init w.files root name.rel ≡ true → HasNoChange (steps custom name records)

-- the worlds that are left are alike, no change of a block was skipped in either, and a block's pages match, but where its relation has an init fork
pub record AreConverged (root : PathValue) (other : PathValue) (per_file : ℕ) (v : World) (y : World) : Type 0 where
  pub alike : AlikeWorlds root other per_file v y
  pub none : v.skipped ≡ []
  pub other_none : y.skipped ≡ []
  pub pages : (name : BlockName) → IsMainBlock name → has_init v.files root name.rel ≡ false → Matches (view name.block) (page_in root per_file name v.files) (page_in other per_file name y.files)

-- both replays end, or both are refused by the same file of theirs; at a block neither is
abbrev pub EndAlike : (root other : PathValue) → (per_file : ℕ) → Result World RecordFault → Result World RecordFault → Type 0
EndAlike root other per_file (Ok v) (Ok y) = AreConverged root other per_file v y
EndAlike root other per_file (Ok v) (Err fault) = ⊥
EndAlike root other per_file (Err (RedoFailed start name why)) answer = ⊥
EndAlike root other per_file (Err (File e)) (Ok y) = ⊥
EndAlike root other per_file (Err (File e)) (Err (RedoFailed start name why)) = ⊥
EndAlike root other per_file (Err (File e)) (Err (File f)) = f ≡ moved root other e

-- So alike clusters of which this holds of one base converge under a log whose records say enough.
abbrev pub RecordsConverge : Type 0
RecordsConverge = (custom : Option Extension) → IsSound custom → (base : BlockName → Option (List ℕ)) (start redo : ℕ) (records : List LogRecord) (root other : PathValue) (per_file : ℕ) (w x : World)
    → AreTaken custom start records → ¬ (SomeLacksLayout records) → AlikeWorlds root other per_file w x
    → IsBased custom base redo records root per_file w → IsBased custom base redo records other per_file x
    → EndAlike root other per_file (records_after custom root per_file records w) (records_after custom other per_file records x)
