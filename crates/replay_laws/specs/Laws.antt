-- Replay of a log over a cluster, seen on one block. Own: "A replay, seen on one block".
use Rattle.std.specs.Prelude.{Option, ◌≡◌, ℕ, ◌<◌, List, Ok}
use Rattle.rmgr_hooks.specs.Custom.{Extension, IsSound}
use Rattle.block_refs.specs.Parts.{PartsView}
use Rattle.block_refs.specs.declared.names.BlockName.{BlockName}
use Rattle.cluster_tree.specs.Contents.{Contents}
use Rattle.cluster_tree.specs.PathValue.{PathValue}
use Rattle.page_masks.specs.Law.{view}
use Rattle.record_effects.specs.Managers.{effect_on}
use Rattle.replay_law.specs.Replay.{replay_block, replay_step}
use Rattle.replay_start.specs.Checked.{Start, start_of}
use Rattle.replay_world.specs.Records.{record_after, records_after}
use Rattle.replay_world.specs.World.{World}
use Rattle.wal_records.specs.Reading.{LogRecord}
use Rattle.replay_laws.specs.Held.{IsMainBlock, held}
use Rattle.replay_laws.specs.Log.{AreTaken, HoldsBytes, IsTaken, steps}
use Rattle.replay_laws.specs.Whole.{AreWhole}

-- what a record leaves of a block is what its effect on the block makes of what was held
abbrev pub Projects : Type 0
Projects = (custom : Option Extension) → IsSound custom → (root : PathValue) (per_file : ℕ) (rec : LogRecord) (parts : PartsView) (name : BlockName) (w v : World)
    → 0 < per_file → IsTaken custom rec parts → IsMainBlock name → AreWhole root per_file w.files
    → record_after custom root per_file rec parts w ≡ Ok v
    → replay_step (view name.block) (held root per_file w name) rec.end (effect_on custom rec parts name) ≡ Ok (held root per_file v name)

-- a record leaves files as whole as they were
abbrev pub StaysWhole : Type 0
StaysWhole = (custom : Option Extension) → IsSound custom → (root : PathValue) (per_file : ℕ) (rec : LogRecord) (parts : PartsView) (w v : World)
    → 0 < per_file → IsTaken custom rec parts → AreWhole root per_file w.files
    → record_after custom root per_file rec parts w ≡ Ok v → AreWhole root per_file v.files

-- what a log leaves of a block is the run of the log's effects on it, from what was held
abbrev pub Runs : Type 0
Runs = (custom : Option Extension) → IsSound custom → (root : PathValue) (per_file start : ℕ) (records : List LogRecord) (name : BlockName) (w v : World)
    → 0 < per_file → AreTaken custom start records → IsMainBlock name → AreWhole root per_file w.files
    → records_after custom root per_file records w ≡ Ok v
    → replay_block (view name.block) (held root per_file w name) (steps custom name records) ≡ Ok (held root per_file v name)

-- and a log leaves files as whole as they were
abbrev pub RunsWhole : Type 0
RunsWhole = (custom : Option Extension) → IsSound custom → (root : PathValue) (per_file start : ℕ) (records : List LogRecord) (w v : World)
    → 0 < per_file → AreTaken custom start records → AreWhole root per_file w.files
    → records_after custom root per_file records w ≡ Ok v → AreWhole root per_file v.files

-- the log of a cluster that passes every check before a replay is one of records that replay takes
abbrev pub StartIsTaken : Type 0
StartIsTaken = (custom : Option Extension) (c : Contents) (root : PathValue) (start : Start)
    → HoldsBytes c root → start_of custom c root ≡ Ok start → AreTaken custom start.label.start.0 start.records
