-- The same of changes whose fault has the path that it is about. Own: "Changes under a mark".
use Rattle.std.specs.Prelude.{◌≡◌, ◌≢◌, IsTrue, List, None, Result, Err}
use Rattle.cluster_tree.specs.Change.{Change, first_refusal}
use Rattle.cluster_tree.specs.PathValue.{PathValue}
use Rattle.cluster_tree.specs.Run.{State, state_by}
use Rattle.cluster_tree.specs.declared.tree.Tree.{Ghosts}
use Rattle.marked_runs.specs.Runs.{Runs, is_done}
use Rattle.marked_runs.specs.declared.faults.PerformFault.{PerformFault}
use Rattle.marked_runs.specs.declared.faults.PerformFault.TheVariants as perform
use Rattle.marked_runs.specs.declared.faults.StepFault.{StepFault}
use Rattle.marked_runs.specs.declared.faults.StepFault.TheVariants as step

-- why a step about a path broke off
abbrev pub about : StepFault → PathValue → PerformFault
about step.ReadFault path = perform.ReadFault
about step.WriteFault path = perform.WriteFault
about step.Contradicted path = perform.Changed path

-- these changes ran, and the tree contradicted nothing
pub record Performed (changes : List Change) (old new : State) (result : Result (Unit {0}) PerformFault) : Type 0 where
  pub runs : Runs changes old.calls new.calls old.contents new.contents (is_done result)
  pub agreed : (path : PathValue) → result ≢ Err (perform.Changed path)

-- so it is where the tree tells and would refuse none of them in its turn
abbrev pub Performs : {F : Type 0} → Ghosts F → List Change → F → F → Result (Unit {0}) PerformFault → Type 0
Performs tree changes old new result =
    IsTrue tree.tells → first_refusal (tree.contents old) changes ≡ None
    → Performed changes (state_by tree.contents tree.calls old) (state_by tree.contents tree.calls new) result
