-- Whole runs: under their mark, from moment to moment, and a resume with its sync and the end of its mark.
use Rattle.std.proofs.Common.{◌≡◌, ℕ, Bool, false, List, ◌++◌, None, inl, refl, sym, ap, ◌∙◌, subst, arith}
use Rattle.std.specs.FinMap.{get}
use Rattle.std.specs.List.{list_any}
use Rattle.cluster_tree.specs.Change.{Change, all_changed, first_refusal, is_on}
use Rattle.cluster_tree.specs.Contents.{Contents}
use Rattle.cluster_tree.specs.PathValue.{PathValue}
use Rattle.cluster_tree.specs.Run.{Course, Moment}
use Rattle.cluster_tree.specs.Stops.{LeavesOnly}
use Rattle.cluster_tree.proofs.ChangeLemmas.{changed-elsewhere, changed-in_turn}
use Rattle.cluster_tree.proofs.Images.{HoldsSince, holds_first, holds_run, leaves_only}
use Rattle.marked_runs.specs.Moments.{StandsSynced}
use Rattle.marked_runs.specs.Runs.{Runs, ended}
use Rattle.marked_runs.proofs.CarriedLemmas.{both_unrefused, unrefused-both}
use Rattle.gated_marks.proofs.BeginLemmas.{begun-after}
use Rattle.rewind_writes.specs.Plan.{IsFound, body_changes, mark_gate, mark_head, mark_laid, plan_changes}
use Rattle.rewind_writes.specs.Steps.{FindAll}
use Rattle.rewind_writes.specs.Taken.{AllAreAsFound}
use Rattle.rewind_writes.specs.declared.plan.Plan.{Plan}
use Rattle.rewind_writes.proofs.StepLemmas.{all-found, find-both, in-parts, parts-unrefused, stay-found}
use Rattle.resumed_laws.specs.Between.{IsBetween}
use Rattle.resumed_laws.specs.Groups.{Untouched, group_in}
use Rattle.resumed_laws.specs.Resumed.{resumed_body, resumed_changes, resumed_steps}
use Rattle.resumed_laws.specs.Sound.{IsInGroups, IsPlanSound, with_whole_mark}
use Rattle.resumed_laws.proofs.GroupLemmas.{Mays}
use Rattle.resumed_laws.proofs.ReadLemmas.{off-one, resumed_body-off, untouched-same}
use Rattle.resumed_laws.proofs.ResumeLemmas.{plan-same, plan-unrefused}
use Rattle.resumed_laws.specs.Stopped.{IsLeft, FirstStop, NextStop}
use Rattle.resumed_laws.proofs.StopLemmas.{body-may, made-keep, resumed_body-may, resumed_stops-between, stops-between}

-- ---- under a mark

pub marked-after : (c : Contents) (text : List ℕ) (plan : Plan) → all_changed c (mark_laid c text plan) ≡ with_whole_mark c text plan
marked-after c text plan = begun-after c plan.mark mark_head mark_gate text (omega arith)

pub marked-rest : (c : Contents) (text : List ℕ) (plan : Plan) → first_refusal c (plan_changes c text plan) ≡ None → first_refusal (with_whole_mark c text plan) (body_changes c plan ++ ended plan.mark) ≡ None
marked-rest c text plan none = ap (λ d. first_refusal d (body_changes c plan ++ ended plan.mark)) (sym (marked-after c text plan)) ∙ (parts-unrefused c text plan none).1

pub marked-finished : (c : Contents) (text : List ℕ) (plan : Plan) → all_changed (with_whole_mark c text plan) (body_changes c plan ++ ended plan.mark) ≡ all_changed c (plan_changes c text plan)
marked-finished c text plan =
    let rest = body_changes c plan ++ ended plan.mark in
    ap (λ d. all_changed d rest) (sym (marked-after c text plan)) ∙ sym (changed-in_turn c (mark_laid c text plan) rest) ∙ ap (all_changed c) (sym (in-parts c text plan))

pub marked-sound : (c : Contents) (text : List ℕ) (plan : Plan) → IsInGroups plan → IsFound c text plan → first_refusal c (plan_changes c text plan) ≡ None → IsPlanSound c (with_whole_mark c text plan) plan
marked-sound c text plan groups reads none =
    let first = mark_laid c text plan in
    let after = body_changes c plan ++ ended plan.mark in
    let found = find-both c first after plan.steps.items (subst (λ l. FindAll c l plan.steps.items) (in-parts c text plan) reads) in
    let body = find-both c (body_changes c plan) (ended plan.mark) plan.steps.items found.1 in
    record {
      groups = groups;
      unrefused = (both_unrefused (with_whole_mark c text plan) (body_changes c plan) (ended plan.mark) (marked-rest c text plan none)).0;
      reads = body.0;
      as_found = subst (λ d. AllAreAsFound c d plan.steps.items) (marked-after c text plan)
          (stay-found c c (all_changed c first) first plan.steps.items (λ p off. changed-elsewhere c first p off) found.0 (all-found c plan.steps.items));
    }

-- ---- from moment to moment

module _ (found c : Contents) (plan : Plan) (sound : IsPlanSound found c plan) where
  stay-between : (start : Contents) (changes : List Change) (a b : Moment) (done : Bool) → Mays plan.steps.items plan.label plan.control changes → IsBetween c plan start → StandsSynced start a → Course a b
      → Runs changes a.state.calls b.state.calls a.state.contents b.state.contents done → IsBetween c plan b.state.contents × LeavesOnly (IsBetween c plan) a.stops b.stops
  stay-between start changes a b done may between synced course ran =
      let Q : Contents → Type 0 = IsBetween c plan in
      let first : HoldsSince Q Q a a = holds_first Q Q a (subst Q (sym synced.now) between) (λ d left. subst Q (sym (synced.left d left)) between) in
      let h : HoldsSince Q Q a b = holds_run Q Q a a b ran.made first (λ d q. q) course ran.grew (made-keep found c plan sound ran.made ran.rest changes ran.joins may) in
      (h.now, leaves_only Q Q a b h (λ d q. q))

  pub runs-between : (a b : Moment) (done : Bool) → StandsSynced c a → Course a b → Runs (body_changes found plan) a.state.calls b.state.calls a.state.contents b.state.contents done
      → IsBetween c plan b.state.contents × LeavesOnly (IsBetween c plan) a.stops b.stops
  runs-between a b done synced course ran = stay-between c (body_changes found plan) a b done (body-may found c plan sound) (λ p. inl refl) synced course ran

  pub resumes-between : (i : Contents) (a b : Moment) (done : Bool) → IsBetween c plan i → StandsSynced i a → Course a b → Runs (resumed_body i plan) a.state.calls b.state.calls a.state.contents b.state.contents done
      → IsBetween c plan b.state.contents × LeavesOnly (IsBetween c plan) a.stops b.stops
  resumes-between i a b done between synced course ran = stay-between i (resumed_body i plan) a b done (resumed_body-may found c plan sound i) between synced course ran

  -- ---- other paths, and the whole resume

  module _ (i : Contents) (between : IsBetween c plan i) where
    pub path-stays : (path : PathValue) → list_any (is_on path) (body_changes found plan) ≡ false → (get i path ≡ get c path) × (list_any (is_on path) (resumed_body i plan) ≡ false)
    path-stays path off =
        let untouched : group_in plan.steps.items plan.label plan.control path ≡ Untouched = off-one found plan.label plan.control plan.steps.items sound.reads sound.groups.proper path off in (
          untouched-same c i plan.steps.items plan.label plan.control path between untouched,
          resumed_body-off i (all_changed i (resumed_steps i plan.steps.items)) plan.steps.items plan.label plan.control path untouched,
        )

    pub whole-resume : first_refusal c (body_changes found plan ++ ended plan.mark) ≡ None
        → (first_refusal i (resumed_changes i plan) ≡ None) × (all_changed i (resumed_changes i plan) ≡ all_changed c (body_changes found plan ++ ended plan.mark))
    whole-resume none =
        let same = plan-same found c i plan sound between in
        let last = (both_unrefused c (body_changes found plan) (ended plan.mark) none).1 in (
          unrefused-both i (resumed_body i plan) (ended plan.mark) (plan-unrefused found c i plan sound between) (ap (λ d. first_refusal d (ended plan.mark)) same ∙ last),
          changed-in_turn i (resumed_body i plan) (ended plan.mark) ∙ ap (λ d. all_changed d (ended plan.mark)) same ∙ sym (changed-in_turn c (body_changes found plan) (ended plan.mark)),
        )

  -- ---- however often it was stopped

  pub left-between : (i : Contents) → IsLeft found c plan i → IsBetween c plan i
  left-between i (FirstStop stop) = stops-between found c plan sound i stop
  left-between i (NextStop {i = before} left stop) = resumed_stops-between found c plan sound before i (left-between before left) stop
