-- What a step of changes does and answers, where nothing is to refuse them. Own: "Changes under a mark".
use Rattle.std.specs.Prelude.{◌≡◌, ◌≢◌, IsTrue, List, None, Result, Err}
use Rattle.cluster_tree.specs.Change.{Change, first_refusal}
use Rattle.cluster_tree.specs.Run.{State, state_by}
use Rattle.cluster_tree.specs.declared.tree.Tree.{Ghosts}
use Rattle.marked_runs.specs.Runs.{Runs, is_done}
use Rattle.marked_runs.specs.declared.faults.StepFault.{StepFault}
use Rattle.marked_runs.specs.declared.faults.StepFault.TheVariants as step

-- these changes ran, and the tree contradicted nothing
pub record Carried (changes : List Change) (old new : State) (result : Result (Unit {0}) StepFault) : Type 0 where
  pub runs : Runs changes old.calls new.calls old.contents new.contents (is_done result)
  pub agreed : result ≢ Err step.Contradicted

-- so it is where the tree tells and would refuse none of them in its turn; F.Tree is the record of the members of F
abbrev pub Carries : {F : Type 0} → Ghosts F → List Change → F → F → Result (Unit {0}) StepFault → Type 0
Carries tree changes old new result =
    IsTrue tree.tells → first_refusal (tree.contents old) changes ≡ None
    → Carried changes (state_by tree.contents tree.calls old) (state_by tree.contents tree.calls new) result
