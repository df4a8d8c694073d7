-- What is known of a plan over a mark that isn't whole, and of one where none stands.
use Rattle.std.proofs.Common.{◌≡◌, true, false, cond, List, None, Result, Ok, Err, OnOk, refl, ap, sym, subst, ◌∙◌, inl, inr, ⊎_elim}
use Rattle.std.specs.FinMap.{remove}
use Rattle.std.specs.List.{list_any}
use Rattle.cluster_tree.specs.Change.{all_changed, first_refusal, is_on}
use Rattle.cluster_tree.specs.Contents.{Contents, entry_at, is_file}
use Rattle.cluster_tree.specs.Marks.{marks_of}
use Rattle.cluster_tree.specs.PathValue.{PathValue, below}
use Rattle.cluster_tree.specs.Run.{Moment}
use Rattle.cluster_tree.specs.Stops.{LeavesOnly, Stops}
use Rattle.cluster_tree.specs.Tree.{bytes_at}
use Rattle.cluster_tree.specs.declared.tree.ChangeCall.{ChangeCall}
use Rattle.gated_marks.specs.Gates.{IsComplete}
use Rattle.marked_runs.specs.Moments.{IsMarked, IsSafe}
use Rattle.marked_runs.specs.Runs.{Runs, is_done}
use Rattle.marked_runs.specs.declared.faults.PerformFault.{PerformFault}
use Rattle.marked_runs.proofs.StopLemmas.{leaves_weaker}
use Rattle.rewind_writes.specs.Plan.{IsFound, IsResumable, body_changes, mark_gate, mark_head, plan_changes}
use Rattle.rewind_plan.specs.Sides.{mark_parts}
use Rattle.rewind_core.specs.Fits.{IsPlanFor, IsRewound}
use Rattle.rewind_core.specs.Over.{IsPlanOver, without_own}
use Rattle.rewind_core.specs.Planned.{Needing}
use Rattle.rewind_core.specs.Stops.{IsLeftBy}
use Rattle.rewind_core.specs.declared.outcome.Plan.{Plan}
use Rattle.rewind_core.proofs.OverLemmas.{end-same, found-same, resumable-same, unmarked-same, unrefused-same}
use Rattle.rewind_core.proofs.PerformLemmas.{found, left-by, unbegun, unmarked, unrefused}
use Rattle.without_file.specs.Without.{without_file}

-- where no mark stands all is seen
pub plan-over : (c : Contents) (n : Needing) (plan : Plan) → IsPlanFor c n plan → IsPlanOver c c n plan
plan-over c n plan is =
    let bare = ap (entry_at c) is.writes.mark ∙ is.sides.marks_target mark_parts refl in
    record { for = is; without = ap (λ o. cond (is_file o) (remove c plan.writes.mark) c) (sym bare); incomplete = unbegun c n plan is }

-- and where the mark of the target isn't whole, all but that
pub own-over : (c : Contents) (target : PathValue) (n : Needing) (plan : Plan) → n.aim.between.target ≡ target → IsPlanFor (without_own c target) n plan
    → (IsComplete mark_head mark_gate (bytes_at c (marks_of target).rewind) → ⊥) → IsPlanOver (without_own c target) c n plan
own-over c target n plan root is shut =
    let at : plan.writes.mark ≡ (marks_of target).rewind = is.writes.mark ∙ ap (λ r. below r mark_parts) root in
    record { for = is; without = ap (without_file c) (sym at); incomplete = subst (λ p. IsComplete mark_head mark_gate (bytes_at c p) → ⊥) (sym at) shut }

module _ (seen c : Contents) (n : Needing) (plan : Plan) (is : IsPlanOver seen c n plan) where
  -- a file stands at the mark, or none is there to be passed over
  split : (P : Contents → Type 0) → (is_file (entry_at c plan.writes.mark) ≡ true → IsPlanFor (remove c plan.writes.mark) n plan → P (remove c plan.writes.mark)) → (IsPlanFor c n plan → P c) → P seen
  split P there bare = subst P (sym is.without) (elim (is_file (entry_at c plan.writes.mark)) as (λ b. is_file (entry_at c plan.writes.mark) ≡ b → IsPlanFor (cond b (remove c plan.writes.mark) c) n plan → P (cond b (remove c plan.writes.mark) c)) [
    | true ↦ λ e for. there e for
    | false ↦ λ e for. bare for
  ] refl (subst (λ d. IsPlanFor d n plan) is.without is.for))

  gone : IsPlanFor (remove c plan.writes.mark) n plan → entry_at (remove c plan.writes.mark) plan.writes.mark ≡ None
  gone for = ap (entry_at (remove c plan.writes.mark)) for.writes.mark ∙ for.sides.marks_target mark_parts refl

  pub found-over : IsFound c plan.text plan.writes
  found-over = split (λ d. IsFound c plan.text plan.writes)
      (λ e for. found-same c plan.writes plan.text e (gone for) (unmarked (remove c plan.writes.mark) n plan for) (found (remove c plan.writes.mark) n plan for))
      (λ for. found c n plan for)

  pub unrefused-over : first_refusal c (plan_changes c plan.text plan.writes) ≡ None
  unrefused-over = split (λ d. first_refusal c (plan_changes c plan.text plan.writes) ≡ None)
      (λ e for. unrefused-same c plan.writes plan.text e (gone for) (unmarked (remove c plan.writes.mark) n plan for) (found (remove c plan.writes.mark) n plan for) (unrefused (remove c plan.writes.mark) n plan for))
      (λ for. unrefused c n plan for)

  pub unmarked-over : list_any (is_on plan.writes.mark) (body_changes c plan.writes) ≡ false
  unmarked-over = split (λ d. list_any (is_on plan.writes.mark) (body_changes c plan.writes) ≡ false)
      (λ e for. unmarked-same c plan.writes plan.text e (gone for) (unmarked (remove c plan.writes.mark) n plan for) (found (remove c plan.writes.mark) n plan for))
      (λ for. unmarked c n plan for)

  pub left-over : (c' : Contents) → c' ≡ all_changed c (plan_changes c plan.text plan.writes) → IsRewound seen n c'
  left-over c' after = split (λ d. IsRewound d n c')
      (λ e for. left-by (remove c plan.writes.mark) n plan for c' (after ∙ end-same c plan.writes plan.text e (gone for) (unmarked (remove c plan.writes.mark) n plan for) (found (remove c plan.writes.mark) n plan for)))
      (λ for. left-by c n plan for c' after)

  pub rewound-over : {k l : List ChangeCall} {c' : Contents} (r : Result (Unit {0}) PerformFault) → Runs (plan_changes c plan.text plan.writes) k l c c' (is_done r) → OnOk r (IsRewound seen n c')
  rewound-over (Ok u) runs = left-over _ (runs.after refl)
  rewound-over (Err e) runs = tt

  -- what a stop leaves from synced contents on is what it leaves from those that are seen
  pub resumable-over : (i : Contents) → IsResumable c plan.text plan.writes i → IsResumable seen plan.text plan.writes i
  resumable-over i left = split (λ d. IsResumable d plan.text plan.writes i)
      (λ e for. resumable-same c plan.writes plan.text e (gone for) (unmarked (remove c plan.writes.mark) n plan for) (found (remove c plan.writes.mark) n plan for) is.incomplete i left)
      (λ for. left)

pub performs-over : (seen : Contents) (first : Moment) (s : Stops) (n : Needing) (plan : Plan) → IsPlanOver seen first.state.contents n plan
    → LeavesOnly (IsSafe plan.writes.mark first (all_changed first.state.contents (plan_changes first.state.contents plan.text plan.writes))) first.stops s → LeavesOnly (IsLeftBy seen n first) first.stops s
performs-over seen first s n plan is left =
    leaves_weaker (IsSafe plan.writes.mark first (all_changed first.state.contents (plan_changes first.state.contents plan.text plan.writes))) (IsLeftBy seen n first) first.stops s
    (λ c. ⊎_elim (λ untouched. inl untouched) (λ other. inr (⊎_elim (λ marked. inl (subst (λ p. IsMarked p c) is.for.writes.mark marked)) (λ done. inr (left-over seen first.state.contents n plan is c done)) other))) left

pub resumes-over : (seen c : Contents) (a b : Stops) (n : Needing) (plan : Plan) → IsPlanOver seen c n plan → LeavesOnly (IsResumable c plan.text plan.writes) a b → LeavesOnly (IsResumable seen plan.text plan.writes) a b
resumes-over seen c a b n plan is left = leaves_weaker (IsResumable c plan.text plan.writes) (IsResumable seen plan.text plan.writes) a b (resumable-over seen c n plan is) left
