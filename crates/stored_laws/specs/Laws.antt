-- That what a stopped rewind left is resumed. Own: "A rewind that is resumed".
use Rattle.std.specs.Prelude.{◌≡◌, ◌⊎◌, ℤ, false, None, Some, Ok}
use Rattle.std.specs.List.{list_any}
use Rattle.cluster_tree.specs.Apart.{AreApart}
use Rattle.cluster_tree.specs.Change.{all_changed, first_refusal, is_on}
use Rattle.cluster_tree.specs.Contents.{Contents}
use Rattle.cluster_tree.specs.PathValue.{PathValue}
use Rattle.cluster_tree.specs.Run.{Moment}
use Rattle.cluster_tree.specs.Tree.{bytes_at}
use Rattle.gated_marks.specs.Gates.{IsComplete}
use Rattle.marked_runs.specs.Moments.{StandsSynced}
use Rattle.plan_text.specs.Laws.{IsSaid}
use Rattle.plan_text.specs.Stored.{IsPlacedAt}
use Rattle.plan_text.specs.Text.{said_by}
use Rattle.plan_text.specs.declared.stored.StoredPlan.{StoredPlan}
use Rattle.rewind_writes.specs.Plan.{IsResumable, mark_gate, mark_head}
use Rattle.resumed_laws.specs.Between.{IsBetween}
use Rattle.resumed_laws.specs.Resumed.{resumed_body, resumed_changes}
use Rattle.resumed_laws.specs.Sound.{with_whole_mark}
use Rattle.resumed_writes.specs.Again.{AreReadable, IsOnWayOrFinished}
use Rattle.resumed_writes.specs.Again.{IsResumable as MayBeResumed}
use Rattle.rewind_core.specs.Fits.{IsPlanFor, IsRewound}
use Rattle.rewind_core.specs.Planned.{Needing, Needs, planned_of}
use Rattle.rewind_core.specs.Text.{saying, sum_at}
use Rattle.rewind_core.specs.declared.outcome.Plan.{Plan}
use Rattle.rewind_paths.specs.Laws.{AreOf}
use Rattle.resume_core.specs.Source.{source_difference}
use Rattle.resume_core.specs.Stored.{IsStoredBetween, stored_of}

-- A rewind that was needed from these contents on, by a plan that its text says, was stopped, and then perhaps resumes of it. Its first run left
-- these, or what stands is on its way from the whole mark to the end, as what a stop of a resume leaves that began on synced such; the mark reads as complete.
pub record IsStopped (c : Contents) (target source : PathValue) (now : ℤ) (n : Needing) (plan : Plan) (i : Contents) : Type 0 where
  pub needed : planned_of c target source now ≡ Ok (Needs n)
  pub for : IsPlanFor c n plan
  pub said : IsSaid target source (saying (sum_at c source) plan)
  pub left : IsResumable c plan.text plan.writes i ⊎ IsBetween (with_whole_mark c plan.text plan.writes) plan.writes i
  pub complete : IsComplete mark_head mark_gate (bytes_at i plan.writes.mark)

-- then what the mark holds is that plan, and nothing refuses it
abbrev pub StoppedRewindsAreStored : Type 0
StoppedRewindsAreStored = (c : Contents) (target source : PathValue) (now : ℤ) (n : Needing) (plan : Plan) (i : Contents) →
    IsStopped c target source now n plan i → stored_of i target source ≡ Ok (Some (saying (sum_at c source) plan))

-- what a plan so read does again: its files can be read, none of its changes is refused, and they end with the rewound tree
pub record IsResumed (c i : Contents) (n : Needing) (stored : StoredPlan) : Type 0 where
  pub readable : AreReadable i stored.plan.steps.items
  pub unrefused : first_refusal i (resumed_changes i stored.plan) ≡ None
  pub rewound : IsRewound c n (all_changed i (resumed_changes i stored.plan))

abbrev pub StoppedRewindsAreResumed : Type 0
StoppedRewindsAreResumed = (c : Contents) (target source : PathValue) (now : ℤ) (n : Needing) (plan : Plan) (i : Contents) (stored : StoredPlan) →
    IsStopped c target source now n plan i → IsPlacedAt target stored.plan → said_by stored ≡ saying (sum_at c source) plan → IsResumed c i n stored

-- What a stop of a resume of it leaves: that rewind, stopped again, which the next resume takes up; or the rewound tree.
abbrev pub IsStoppedAgain : Contents → (target source : PathValue) → ℤ → Needing → Plan → Contents → Type 0
IsStoppedAgain c target source now n plan d = IsStopped c target source now n plan d ⊎ IsRewound c n d

-- where it begins on what the stop left, synced, with a plan that was so read
abbrev pub StoppedResumesAreResumed : Type 0
StoppedResumesAreResumed = (c : Contents) (target source : PathValue) (now : ℤ) (n : Needing) (plan : Plan) (i : Contents) (stored : StoredPlan) (moment : Moment) →
    IsStopped c target source now n plan i → IsPlacedAt target stored.plan → said_by stored ≡ saying (sum_at c source) plan → StandsSynced i moment →
    MayBeResumed c (with_whole_mark c plan.text stored.plan) stored.plan moment
    × ((d : Contents) → IsOnWayOrFinished c (with_whole_mark c plan.text stored.plan) stored.plan d → IsStoppedAgain c target source now n plan d)

-- ---- of any plan that a mark holds

-- A plan between two roots that lie apart, at the target's: all that a resume changes by it is of the target, whatever stands there.
abbrev pub StoredPlansStayInTheTarget : Type 0
StoredPlansStayInTheTarget = (c : Contents) (target source : PathValue) (stored : StoredPlan) →
    IsStoredBetween target source stored → AreOf target (resumed_changes c stored.plan)

-- none of it is on its mark before that is ended
abbrev pub StoredPlansKeepTheMark : Type 0
StoredPlansKeepTheMark = (c : Contents) (target source : PathValue) (stored : StoredPlan) →
    IsStoredBetween target source stored → list_any (is_on stored.plan.mark) (resumed_body c stored.plan) ≡ false

-- and where no file of the source differs from what it says, its steps can be done again
abbrev pub StoredPlansAreReadable : Type 0
StoredPlansAreReadable = (c : Contents) (target source : PathValue) (stored : StoredPlan) → AreApart target source →
    IsStoredBetween target source stored → source_difference c source (said_by stored) ≡ None → AreReadable c stored.plan.steps.items
