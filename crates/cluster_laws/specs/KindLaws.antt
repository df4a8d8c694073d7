-- What follows from the definitions, for callers.
use Rattle.std.specs.Prelude.{Option, ℕ, List, Result, Ok, Err}
use Rattle.rmgr_hooks.specs.Custom.{Extension}
use Rattle.block_refs.specs.Parts.{PartsView}
use Rattle.block_replay.specs.declared.faults.RecordFault.{RecordFault}
use Rattle.block_replay.specs.declared.faults.RecordFault.TheVariants.{RedoFailed, File}
use Rattle.cluster_tree.specs.PathValue.{PathValue}
use Rattle.replay_world.specs.Records.{record_after, records_after}
use Rattle.replay_world.specs.World.{World}
use Rattle.wal_records.specs.Reading.{LogRecord}
use Rattle.cluster_laws.specs.Kinds.{HasKinds}

-- a cluster of the kinds that servers leave is left, or a refusal at a block, which no entry's kind is the reason of
abbrev pub FindsKinds : PathValue → Result World RecordFault → Type 0
FindsKinds root (Ok w) = HasKinds root w.files
FindsKinds root (Err (RedoFailed start name why)) = Unit {0}
FindsKinds root (Err (File e)) = ⊥

abbrev pub RecordFindsKinds : Type 0
RecordFindsKinds = (custom : Option Extension) (root : PathValue) (per_file : ℕ) (rec : LogRecord) (parts : PartsView) (w : World) → HasKinds root w.files → FindsKinds root (record_after custom root per_file rec parts w)

abbrev pub LogFindsKinds : Type 0
LogFindsKinds = (custom : Option Extension) (root : PathValue) (per_file : ℕ) (records : List LogRecord) (w : World) → HasKinds root w.files → FindsKinds root (records_after custom root per_file records w)
