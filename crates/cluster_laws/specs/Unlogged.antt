-- Relations that aren't logged, by their init forks, in a replay: PostgreSQL 16, the manual's section "The Initialization Fork";
-- src/backend/storage/smgr/md.c, mdunlink. Own: "Relations that aren't logged".
use Rattle.std.specs.Prelude.{◌≡◌, ℕ, true, false, List, length, Option, Ok}
use Rattle.rmgr_hooks.specs.Custom.{Extension, IsSound}
use Rattle.block_refs.specs.Parts.{PartsView}
use Rattle.block_refs.specs.declared.names.BlockName.{BlockName}
use Rattle.block_refs.specs.declared.names.RelName.{RelName}
use Rattle.cluster_compare.specs.Same.{has_init}
use Rattle.cluster_tree.specs.Contents.{Contents}
use Rattle.cluster_tree.specs.PathValue.{PathValue}
use Rattle.page_masks.specs.Law.{view}
use Rattle.record_effects.specs.Managers.{effect_on}
use Rattle.replay_law.specs.Effect.{Gone}
use Rattle.replay_law.specs.Law.{AreAlike}
use Rattle.replay_law.specs.Premises.{HasNoChange}
use Rattle.replay_law.specs.Stage.{stage}
use Rattle.replay_laws.specs.Converging.{Begins}
use Rattle.replay_laws.specs.Held.{IsMainBlock, held}
use Rattle.replay_laws.specs.Log.{AreTaken, IsTaken, steps}
use Rattle.replay_world.specs.Records.{record_after, records_after}
use Rattle.replay_world.specs.World.{World}
use Rattle.wal_records.specs.Reading.{LogRecord}

-- a relation's init fork stands, and then doesn't
pub record LosesInit (root : PathValue) (rel : RelName) (c : Contents) (d : Contents) : Type 0 where
  pub had : has_init c root rel ≡ true
  pub lost : has_init d root rel ≡ false

-- a record takes the init fork of a relation away only with each block of its main fork
abbrev pub InitGoesWhole : Type 0
InitGoesWhole = (custom : Option Extension) (root : PathValue) (per_file : ℕ) (rec : LogRecord) (parts : PartsView) (name : BlockName) (w v : World)
    → IsTaken custom rec parts → IsMainBlock name → record_after custom root per_file rec parts w ≡ Ok v
    → LosesInit root name.rel w.files v.files
    → effect_on custom rec parts name ≡ Gone

-- so what a log leaves of the block by which the init fork is gone doesn't hang on what stood there
abbrev pub GoneForgets : Type 0
GoneForgets = (custom : Option Extension) (root : PathValue) (per_file start : ℕ) (records : List LogRecord) (name : BlockName) (w v : World) (a b : Option (List ℕ))
    → AreTaken custom start records → IsMainBlock name → records_after custom root per_file records w ≡ Ok v
    → LosesInit root name.rel w.files v.files
    → stage a (steps custom name records) (length (steps custom name records)) ≡ stage b (steps custom name records) (length (steps custom name records))

-- and of two clusters, of which no record changes the block, replays that aren't refused leave no skipped change of it, and pages that match
abbrev pub UnloggedConverge : Type 0
UnloggedConverge = (custom : Option Extension) → IsSound custom → (name : BlockName) (start : ℕ) (records : List LogRecord) (root other : PathValue) (per_file per_other : ℕ) (w v x y : World)
    → IsMainBlock name → AreTaken custom start records → HasNoChange (steps custom name records)
    → Begins root per_file w → Begins other per_other x
    → LosesInit root name.rel w.files v.files
    → records_after custom root per_file records w ≡ Ok v → records_after custom other per_other records x ≡ Ok y
    → AreAlike (view name.block) (Ok (held root per_file v name)) (Ok (held other per_other y name))
