-- What steps do to a tree that holds what they read. Own: "The plan of a rewind".
use Rattle.std.specs.Prelude.{◌≡◌, ℕ, false, IsTrue, List, [], ◌∷◌, ◌++◌, None, OnOk, Result}
use Rattle.std.specs.List.{list_any}
use Rattle.cluster_tree.specs.Change.{all_changed, first_refusal, is_on}
use Rattle.cluster_tree.specs.Contents.{Contents, entry_at}
use Rattle.cluster_tree.specs.Frame.{moment_of}
use Rattle.cluster_tree.specs.Stops.{LeavesOnly}
use Rattle.cluster_tree.specs.declared.tree.Tree.{Ghosts}
use Rattle.marked_runs.specs.Moments.{StandsSynced}
use Rattle.marked_runs.specs.Performed.{Performs}
use Rattle.marked_runs.specs.Runs.{ended}
use Rattle.marked_runs.specs.declared.faults.PerformFault.{PerformFault}
use Rattle.gated_marks.specs.Left.{IsUnderToEnd, with_mark}
use Rattle.rewind_writes.specs.Plan.{body_changes, closing_changes}
use Rattle.rewind_writes.specs.Steps.{FindAll, Finds, changes_of, steps_changes}
use Rattle.rewind_writes.specs.declared.plan.FileBytes.{FileBytes}
use Rattle.rewind_writes.specs.declared.plan.Plan.{Plan}
use Rattle.rewind_writes.specs.declared.step.Step.{Step}
use Rattle.rewind_writes.specs.declared.step.Step.TheVariants.{Folder, Whole, Cut, Range, Remove}

-- the file that a step reads is as it was found
abbrev pub IsAsFound : (found now : Contents) → Step → Type 0
IsAsFound c d (Folder path) = Unit {0}
IsAsFound c d (Whole from to size) = entry_at d from ≡ entry_at c from
IsAsFound c d (Cut path size) = Unit {0}
IsAsFound c d (Range from to at size) = entry_at d from ≡ entry_at c from
IsAsFound c d (Remove path) = Unit {0}

-- and so are those of all
abbrev pub AllAreAsFound : (found now : Contents) → List Step → Type 0
AllAreAsFound c d [] = Unit {0}
AllAreAsFound c d (step ∷ steps) = IsAsFound c d step × AllAreAsFound c d steps

-- a step is carried out where what it reads is as it was found; F.Tree is the record of the members of F
abbrev pub Takes : {F : Type 0} → Ghosts F → Contents → Step → F → F → Result (Unit {0}) PerformFault → Type 0
Takes tree c step old new result = Finds c (changes_of c step) step → IsAsFound c (tree.contents old) step → Performs tree (changes_of c step) old new result

-- and so are steps
abbrev pub TakesAll : {F : Type 0} → Ghosts F → Contents → List Step → F → F → Result (Unit {0}) PerformFault → Type 0
TakesAll tree c steps old new result = FindAll c (steps_changes c steps) steps → AllAreAsFound c (tree.contents old) steps → Performs tree (steps_changes c steps) old new result

-- all that is changed under the mark
abbrev pub TakesBody : {F : Type 0} → Ghosts F → Contents → List Step → (label control : FileBytes) → F → F → Result (Unit {0}) PerformFault → Type 0
TakesBody tree c steps label control old new result =
    FindAll c (steps_changes c steps ++ closing_changes label control) steps → AllAreAsFound c (tree.contents old) steps
    → Performs tree (steps_changes c steps ++ closing_changes label control) old new result

-- all that a plan changes behind the making of its mark
abbrev pub TakesMarked : {F : Type 0} → Ghosts F → Contents → Plan → F → F → Result (Unit {0}) PerformFault → Type 0
TakesMarked tree c plan old new result =
    FindAll c (body_changes c plan ++ ended plan.mark) plan.steps.items → AllAreAsFound c (tree.contents old) plan.steps.items
    → Performs tree (body_changes c plan ++ ended plan.mark) old new result

-- and where that mark stands synced and the changes under it are off it, a stop at any moment of them leaves what is under it, or all
-- that was to be
abbrev pub EndsMarked : {F : Type 0} → Ghosts F → Contents → Plan → F → F → Type 0
EndsMarked tree c plan old new =
    IsTrue tree.tells → FindAll c (body_changes c plan ++ ended plan.mark) plan.steps.items → AllAreAsFound c (tree.contents old) plan.steps.items
    → first_refusal (tree.contents old) (body_changes c plan ++ ended plan.mark) ≡ None → list_any (is_on plan.mark) (body_changes c plan) ≡ false
    → (before : Contents) (bytes : List ℕ) → StandsSynced (with_mark before plan.mark bytes) (moment_of tree old)
    → LeavesOnly (IsUnderToEnd before plan.mark bytes (body_changes c plan) (all_changed (with_mark before plan.mark bytes) (body_changes c plan ++ ended plan.mark))) (tree.stops old) (tree.stops new)

-- and once all are done, whatever they are on, a stop leaves what stands
abbrev pub SyncsMarked : {F : Type 0} → Ghosts F → Contents → Plan → F → F → Result (Unit {0}) PerformFault → Type 0
SyncsMarked tree c plan old new result =
    IsTrue tree.tells → FindAll c (body_changes c plan ++ ended plan.mark) plan.steps.items → AllAreAsFound c (tree.contents old) plan.steps.items
    → first_refusal (tree.contents old) (body_changes c plan ++ ended plan.mark) ≡ None
    → OnOk result (StandsSynced (tree.contents new) (moment_of tree new))
