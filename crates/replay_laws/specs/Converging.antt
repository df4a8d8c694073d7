-- Two clusters that replay one log, seen on one block. Own: "The law of one block", "A replay, seen on one block".
use Rattle.std.specs.Prelude.{◌≡◌, ◌⊎◌, ℕ, ◌<◌, List, [], length, map, Option, Ok}
use Rattle.rmgr_hooks.specs.Custom.{Extension, IsSound}
use Rattle.block_effects.specs.Lives.{IsLife}
use Rattle.block_refs.specs.declared.names.BlockName.{BlockName}
use Rattle.cluster_tree.specs.PathValue.{PathValue}
use Rattle.page_masks.specs.Law.{view}
use Rattle.record_effects.specs.Managers.{rules_of}
use Rattle.replay_law.specs.Law.{AreAlike}
use Rattle.replay_law.specs.Premises.{HasNoChange}
use Rattle.replay_law.specs.Replay.{found}
use Rattle.replay_law.specs.Stage.{Fits, stage}
use Rattle.replay_world.specs.Records.{records_after}
use Rattle.replay_world.specs.World.{World}
use Rattle.storage_laws.specs.States.{page_in}
use Rattle.wal_records.specs.Reading.{LogRecord}
use Rattle.replay_laws.specs.Held.{IsMainBlock, held}
use Rattle.replay_laws.specs.Log.{AreTaken, split_of, steps}
use Rattle.replay_laws.specs.Whole.{AreWhole}

-- a cluster before it replays a log: whole files, and no skipped change yet
pub record Begins (root : PathValue) (per_file : ℕ) (w : World) : Type 0 where
  pub some : 0 < per_file
  pub whole : AreWhole root per_file w.files
  pub none : w.skipped ≡ []

-- the state of a block in its files fits a base under the log
abbrev pub FitsBase : Option Extension → PathValue → (per_file : ℕ) → BlockName → (base : Option (List ℕ)) → List LogRecord → World → Type 0
FitsBase custom root per_file name base records w = Fits (view name.block) base (page_in root per_file name w.files) (steps custom name records)

-- a block as a replay is to find it: its state fits a base under the log, which is a life of it; or no record changes it
abbrev pub IsFit : Option Extension → PathValue → (per_file redo : ℕ) → BlockName → (base : Option (List ℕ)) → List LogRecord → World → Type 0
IsFit custom root per_file redo name base records w =
    (IsLife (rules_of custom) name redo base (map split_of records) × FitsBase custom root per_file name base records w) ⊎ HasNoChange (steps custom name records)

-- Of two clusters whose states of a block fit one base, replays of one log that aren't refused leave no skipped change of
-- the block, and pages of it that match.
abbrev pub BlocksConverge : Type 0
BlocksConverge = (custom : Option Extension) → IsSound custom → (name : BlockName) (start redo : ℕ) (base : Option (List ℕ)) (records : List LogRecord)
    (root other : PathValue) (per_file per_other : ℕ) (w v x y : World)
    → IsMainBlock name → AreTaken custom start records → IsLife (rules_of custom) name redo base (map split_of records)
    → Begins root per_file w → FitsBase custom root per_file name base records w
    → Begins other per_other x → FitsBase custom other per_other name base records x
    → records_after custom root per_file records w ≡ Ok v → records_after custom other per_other records x ≡ Ok y
    → AreAlike (view name.block) (Ok (held root per_file v name)) (Ok (held other per_other y name))

-- Of a block that no record changes a replay that isn't refused leaves the last stage from the block's own state, and no skipped change.
abbrev pub UnchangedEnds : Type 0
UnchangedEnds = (custom : Option Extension) → IsSound custom → (name : BlockName) (start : ℕ) (records : List LogRecord) (root : PathValue) (per_file : ℕ) (w v : World)
    → IsMainBlock name → AreTaken custom start records → HasNoChange (steps custom name records) → Begins root per_file w
    → records_after custom root per_file records w ≡ Ok v
    → held root per_file v name ≡ found (stage (page_in root per_file name w.files) (steps custom name records) (length (steps custom name records)))
