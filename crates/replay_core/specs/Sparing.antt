-- What a replay leaves of a block that no record touches. Own: "Calls that spare bytes", "What a stop may leave".
use Rattle.std.specs.Prelude.{◌≡◌, ℕ, false, List, Option, Some}
use Rattle.block_refs.specs.declared.names.BlockName.{BlockName}
use Rattle.cluster_tree.specs.Contents.{Contents}
use Rattle.cluster_tree.specs.PathValue.{PathValue}
use Rattle.cluster_tree.specs.Run.{Moment}
use Rattle.cluster_tree.specs.Stops.{MayBeLeft, LeavesOnly}
use Rattle.file_effects.specs.Touched.{IsOfMain}
use Rattle.replay_start.specs.Checked.{Start}
use Rattle.replay_world.specs.Touched.{touched_by}
use Rattle.rmgr_hooks.specs.Custom.{Extension}
use Rattle.storage_laws.specs.States.{block_in}

-- a block has this page in its file
abbrev pub HasPage : PathValue → (per_file : ℕ) → BlockName → List ℕ → Contents → Type 0
HasPage root per_file name page c = block_in root per_file name c ≡ Some page

-- in the contents of a moment, and in all that a stop may leave then
pub record StandsThere (root : PathValue) (per_file : ℕ) (name : BlockName) (page : List ℕ) (moment : Moment) : Type 0 where
  pub now : HasPage root per_file name page moment.state.contents
  pub left : (c : Contents) → MayBeLeft moment.stops c → HasPage root per_file name page c

-- in the contents of a later moment, and in all that a stop at any moment up to it might have left
pub record StaysThrough (root : PathValue) (per_file : ℕ) (name : BlockName) (page : List ℕ) (first last : Moment) : Type 0 where
  pub now : HasPage root per_file name page last.state.contents
  pub at_any_stop : LeavesOnly (HasPage root per_file name page) first.stops last.stops

-- each block of a main fork that no record of the log touches: the page that stands there at the first moment does so through to the last
abbrev pub LeavesUntouched : Option Extension → PathValue → Start → (first last : Moment) → Type 0
LeavesUntouched custom root start first last = (name : BlockName) (page : List ℕ) → IsOfMain name → touched_by custom start.records name ≡ false
    → StandsThere root start.control.relseg name page first → StaysThrough root start.control.relseg name page first last
