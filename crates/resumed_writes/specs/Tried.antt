-- Changes that are tried in turn, also where the target refuses one. Own: "A rewind that is resumed".
use Rattle.std.specs.Prelude.{◌≡◌, ◌≢◌, true, IsTrue, List, ◌∷◌, ◌++◌, None, Result, Err}
use Rattle.cluster_tree.specs.Change.{Change, first_refusal, is_on, refusal_of}
use Rattle.cluster_tree.specs.PathValue.{PathValue}
use Rattle.cluster_tree.specs.Run.{State, state_by}
use Rattle.cluster_tree.specs.declared.tree.Tree.{Ghosts}
use Rattle.marked_runs.specs.Runs.{Runs, is_done}
use Rattle.resumed_writes.specs.declared.faults.StoredPerformFault.{StoredPerformFault}
use Rattle.resumed_writes.specs.declared.faults.StoredPerformFault.TheVariants as stored

-- The changes before one at this path ran, all of them, and what they left refuses that one.
pub record IsRefusedAt (path : PathValue) (changes : List Change) (old new : State) : Type 0 where
  pub before : List Change
  pub change : Change
  pub rest : List Change
  pub split : changes ≡ before ++ change ∷ rest
  pub here : is_on path change ≡ true
  pub ran : Runs before old.calls new.calls old.contents new.contents true
  pub unrefused : first_refusal old.contents before ≡ None
  pub refused : refusal_of new.contents change ≢ None

-- These changes ran in turn: all of them, and none is refused, where it is done, else the first ones. `TargetDiffers` comes only at
-- the first one that is refused, and `Changed` never.
pub record Tried (changes : List Change) (old new : State) (result : Result (Unit {0}) StoredPerformFault) : Type 0 where
  pub runs : Runs changes old.calls new.calls old.contents new.contents (is_done result)
  pub done : is_done result ≡ true → first_refusal old.contents changes ≡ None
  pub differs : (path : PathValue) → result ≡ Err (stored.TargetDiffers path) → IsRefusedAt path changes old new
  pub agreed : (path : PathValue) → result ≢ Err (stored.Changed path)

-- so it is where the tree tells; F.Tree is the record of the members of F
abbrev pub Tries : {F : Type 0} → Ghosts F → List Change → F → F → Result (Unit {0}) StoredPerformFault → Type 0
Tries tree changes old new result =
    IsTrue tree.tells → Tried changes (state_by tree.contents tree.calls old) (state_by tree.contents tree.calls new) result
