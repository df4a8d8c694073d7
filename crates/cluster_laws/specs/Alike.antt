-- Two clusters that replay the same records: PostgreSQL 16, src/backend/access/transam/xlogrecovery.c, ApplyWalRecord. Own: "Alike clusters".
use Rattle.std.specs.Prelude.{Option, ◌≡◌, ℕ, ◌<◌, List}
use Rattle.rmgr_hooks.specs.Custom.{Extension, IsSound}
use Rattle.alike_clusters.specs.Clusters.{AlikeClusters}
use Rattle.block_refs.specs.Parts.{PartsView}
use Rattle.cluster_tree.specs.PathValue.{PathValue}
use Rattle.replay_laws.specs.Log.{AreTaken, IsTaken}
use Rattle.replay_laws.specs.Whole.{AreWhole}
use Rattle.replay_world.specs.Records.{record_after, records_after}
use Rattle.replay_world.specs.World.{World}
use Rattle.wal_records.specs.Reading.{LogRecord}
use Rattle.cluster_laws.specs.Agree.{AgreeOn}

-- their files are alike and whole, and their control files are to be written the same; which changes were skipped is no matter
pub record AlikeWorlds (root : PathValue) (other : PathValue) (per_file : ℕ) (w : World) (x : World) : Type 0 where
  pub files : AlikeClusters per_file w.files root x.files other
  pub whole : AreWhole root per_file w.files
  pub other_whole : AreWhole other per_file x.files
  pub control : w.control ≡ x.control

-- one record leaves them so
abbrev pub RecordAlike : Type 0
RecordAlike = (custom : Option Extension) → IsSound custom → (root other : PathValue) (per_file : ℕ) (rec : LogRecord) (parts : PartsView) (w x : World)
    → 0 < per_file → IsTaken custom rec parts → AlikeWorlds root other per_file w x
    → AgreeOn (AlikeWorlds root other per_file) root other (record_after custom root per_file rec parts w) (record_after custom other per_file rec parts x)

-- and so do the records of a log
abbrev pub LogAlike : Type 0
LogAlike = (custom : Option Extension) → IsSound custom → (root other : PathValue) (per_file start : ℕ) (records : List LogRecord) (w x : World)
    → 0 < per_file → AreTaken custom start records → AlikeWorlds root other per_file w x
    → AgreeOn (AlikeWorlds root other per_file) root other (records_after custom root per_file records w) (records_after custom other per_file records x)
