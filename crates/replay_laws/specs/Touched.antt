-- A record changes the bytes of a block of a main fork only where it has an effect on it. Own: "Calls that spare bytes".
use Rattle.std.specs.Prelude.{◌≡◌, ℕ, false, List, [], ◌∷◌, Option, Ok}
use Rattle.block_refs.specs.Parts.{PartsView}
use Rattle.block_refs.specs.declared.names.BlockName.{BlockName}
use Rattle.cluster_tree.specs.Contents.{Contents}
use Rattle.cluster_tree.specs.PathValue.{PathValue}
use Rattle.record_effects.specs.Managers.{effect_on}
use Rattle.replay_law.specs.Effect.{Nothing, Step, At}
use Rattle.replay_start.specs.Checked.{Start, start_of}
use Rattle.replay_world.specs.Touched.{touched_by, touches}
use Rattle.rmgr_hooks.specs.Custom.{Extension}
use Rattle.wal_records.specs.Reading.{LogRecord}
use Rattle.replay_laws.specs.Held.{IsMainBlock}
use Rattle.replay_laws.specs.Log.{AreTaken, HoldsBytes, IsTaken, steps}

-- a record that replay takes
abbrev pub TouchesByEffect : Type 0
TouchesByEffect = (custom : Option Extension) (rec : LogRecord) (parts : PartsView) (name : BlockName)
    → IsTaken custom rec parts → IsMainBlock name → effect_on custom rec parts name ≡ Nothing → touches custom rec parts name ≡ false

-- none of some steps has an effect
abbrev pub HaveNoEffect : List Step → Type 0
HaveNoEffect [] = Unit {0}
HaveNoEffect (At end doing ∷ more) = (doing ≡ Nothing) × HaveNoEffect more

-- and a log of such records
abbrev pub LogTouchesByEffect : Type 0
LogTouchesByEffect = (custom : Option Extension) (start : ℕ) (records : List LogRecord) (name : BlockName)
    → AreTaken custom start records → IsMainBlock name → HaveNoEffect (steps custom name records) → touched_by custom records name ≡ false

-- so does the log of a cluster that passes every check before a replay, where the files of its log hold bytes
abbrev pub StartTouchesByEffect : Type 0
StartTouchesByEffect = (custom : Option Extension) (c : Contents) (root : PathValue) (start : Start) (name : BlockName)
    → HoldsBytes c root → start_of custom c root ≡ Ok start → IsMainBlock name → HaveNoEffect (steps custom name start.records) → touched_by custom start.records name ≡ false
