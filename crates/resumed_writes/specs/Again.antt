-- What is done again of a rewind, where the files that its steps read are there. Own: "A rewind that is resumed".
use Rattle.std.specs.Prelude.{◌≡◌, ◌⊎◌, false, IsTrue, List, ◌++◌, None, OnOk, Result, Err}
use Rattle.std.specs.List.{list_any}
use Rattle.cluster_tree.specs.Change.{all_changed, first_refusal, is_on}
use Rattle.cluster_tree.specs.Contents.{Contents}
use Rattle.cluster_tree.specs.Frame.{moment_of}
use Rattle.cluster_tree.specs.PathValue.{PathValue}
use Rattle.cluster_tree.specs.Run.{Moment}
use Rattle.cluster_tree.specs.Stops.{LeavesOnly, MayBeLeft}
use Rattle.cluster_tree.specs.declared.tree.Tree.{Ghosts}
use Rattle.marked_runs.specs.Moments.{IsEnded, IsMarked, IsSafe, StandsMarked, StandsSynced}
use Rattle.marked_runs.specs.Runs.{ended}
use Rattle.rewind_writes.specs.Plan.{body_changes}
use Rattle.rewind_writes.specs.Steps.{FindAll, Finds}
use Rattle.rewind_writes.specs.declared.plan.FileBytes.{FileBytes}
use Rattle.rewind_writes.specs.declared.plan.Plan.{Plan}
use Rattle.rewind_writes.specs.declared.step.Step.{Step}
use Rattle.resumed_laws.specs.Between.{IsBetween}
use Rattle.resumed_laws.specs.Resumed.{resumed_body, resumed_changes, resumed_closing, resumed_of, resumed_steps}
use Rattle.resumed_laws.specs.Sound.{IsPlanSound}
use Rattle.resumed_writes.specs.Tried.{Tries}
use Rattle.resumed_writes.specs.declared.faults.StoredPerformFault.{StoredPerformFault}
use Rattle.resumed_writes.specs.declared.faults.StoredPerformFault.TheVariants as stored

-- a step is done again by what stands just before it
abbrev pub TakesAgain : {F : Type 0} → Ghosts F → Step → F → F → Result (Unit {0}) StoredPerformFault → Type 0
TakesAgain tree step old new result = Finds (tree.contents old) (resumed_of (tree.contents old) step) step → Tries tree (resumed_of (tree.contents old) step) old new result

-- what the steps read is there, and no change of a step that is done again is on it
abbrev pub AreReadable : Contents → List Step → Type 0
AreReadable c steps = FindAll c (resumed_steps c steps) steps

-- the steps are done again in their turn
abbrev pub TakesAllAgain : {F : Type 0} → Ghosts F → List Step → F → F → Result (Unit {0}) StoredPerformFault → Type 0
TakesAllAgain tree steps old new result = AreReadable (tree.contents old) steps → Tries tree (resumed_steps (tree.contents old) steps) old new result

-- and then the label and the control file
abbrev pub TakesBodyAgain : {F : Type 0} → Ghosts F → List Step → (label control : FileBytes) → F → F → Result (Unit {0}) StoredPerformFault → Type 0
TakesBodyAgain tree steps label control old new result =
    AreReadable (tree.contents old) steps
    → Tries tree (resumed_steps (tree.contents old) steps ++ resumed_closing (all_changed (tree.contents old) (resumed_steps (tree.contents old) steps)) label control) old new result

-- A rewind that may be resumed, by what was found before its first run and what stood once its mark was made: its plan is sound, the
-- mark stands and nothing that is done under it is on it, nothing refuses its end, and what stands now and all that a stop
-- may leave is between start and end.
pub record IsResumable (found c : Contents) (plan : Plan) (moment : Moment) : Type 0 where
  pub sound : IsPlanSound found c plan
  pub marked : IsMarked plan.mark c
  pub apart : list_any (is_on plan.mark) (body_changes found plan) ≡ false
  pub unrefused : first_refusal c (body_changes found plan ++ ended plan.mark) ≡ None
  pub now : IsBetween c plan moment.state.contents
  pub left : (d : Contents) → MayBeLeft moment.stops d → IsBetween c plan d

-- what the first run would have left
abbrev pub finished_of : (found c : Contents) → Plan → Contents
finished_of found c plan = all_changed c (body_changes found plan ++ ended plan.mark)

-- what a stop may leave of it: what is between start and end and has the mark, or what the first run would have left
abbrev pub IsOnWayOrFinished : (found c : Contents) → Plan → Contents → Type 0
IsOnWayOrFinished found c plan d = (IsBetween c plan d × IsMarked plan.mark d) ⊎ (d ≡ finished_of found c plan)

-- all that is changed again once what the stop left is synced
abbrev pub TakesSynced : {F : Type 0} → Ghosts F → Plan → F → F → Result (Unit {0}) StoredPerformFault → Type 0
TakesSynced tree plan old new result = AreReadable (tree.contents old) plan.steps.items → Tries tree (resumed_body (tree.contents old) plan ++ ended plan.mark) old new result

-- from synced contents between start and end, a stop at any moment leaves what is on its way or finished
abbrev pub StopsSynced : {F : Type 0} → Ghosts F → Plan → F → F → Type 0
StopsSynced tree plan old new =
    IsTrue tree.tells → (found c : Contents) → IsResumable found c plan (moment_of tree old) → StandsSynced (tree.contents old) (moment_of tree old)
    → LeavesOnly (IsOnWayOrFinished found c plan) (tree.stops old) (tree.stops new)

-- and once it is done, what is finished
abbrev pub SyncsAgain : {F : Type 0} → Ghosts F → Plan → F → F → Result (Unit {0}) StoredPerformFault → Type 0
SyncsAgain tree plan old new result =
    IsTrue tree.tells → (found c : Contents) → IsResumable found c plan (moment_of tree old) → OnOk result (StandsSynced (finished_of found c plan) (moment_of tree new))

-- all that the resume makes, by what stands at its start
abbrev pub resumed_end : Contents → Plan → Contents
resumed_end c plan = all_changed c (resumed_changes c plan)

-- what is said where no more is known than that the mark stands: what the steps read is there, and no change under the mark is on it
abbrev pub UnderMark : {F : Type 0} → Ghosts F → Plan → F → Type 0 → Type 0
UnderMark tree plan old said =
    IsTrue tree.tells → AreReadable (tree.contents old) plan.steps.items → IsMarked plan.mark (tree.contents old) → list_any (is_on plan.mark) (resumed_body (tree.contents old) plan) ≡ false → said

-- a stop at any moment leaves what one could have left at the start, the mark, or all that the resume makes
abbrev pub StopsMarked : {F : Type 0} → Ghosts F → Plan → F → F → Type 0
StopsMarked tree plan old new = UnderMark tree plan old (LeavesOnly (IsSafe plan.mark (moment_of tree old) (resumed_end (tree.contents old) plan)) (tree.stops old) (tree.stops new))

-- and where the mark stands on the disk too, the mark or all that the resume makes
abbrev pub EndsMarked : {F : Type 0} → Ghosts F → Plan → F → F → Type 0
EndsMarked tree plan old new =
    UnderMark tree plan old (StandsMarked plan.mark (moment_of tree old) → LeavesOnly (IsEnded plan.mark (resumed_end (tree.contents old) plan)) (tree.stops old) (tree.stops new))

-- once it is done, a stop leaves all that the resume makes, and nothing else
abbrev pub SyncsMarked : {F : Type 0} → Ghosts F → Plan → F → F → Result (Unit {0}) StoredPerformFault → Type 0
SyncsMarked tree plan old new result = UnderMark tree plan old (OnOk result (StandsSynced (resumed_end (tree.contents old) plan) (moment_of tree new)))

-- where the target refuses a change, the mark stands
abbrev pub StaysMarked : {F : Type 0} → Ghosts F → Plan → F → F → Result (Unit {0}) StoredPerformFault → Type 0
StaysMarked tree plan old new result = UnderMark tree plan old ((path : PathValue) → result ≡ Err (stored.TargetDiffers path) → IsMarked plan.mark (tree.contents new))
