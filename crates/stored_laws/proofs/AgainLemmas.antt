-- A resume that is stopped leaves what is on its way again, or the rewound tree.
use Rattle.std.proofs.Common.{◌≡◌, ℕ, ℤ, List, Option, true, cond, is_some, inl, inr, length, nat_lt, ⊎_elim, sym, ap, ◌∙◌, subst}
use Rattle.cluster_tree.specs.Change.{all_changed}
use Rattle.cluster_tree.specs.Contents.{Contents, Entry, FileEntry, entry_at}
use Rattle.cluster_tree.specs.PathOrder.{path_eq}
use Rattle.cluster_tree.specs.Tree.{bytes_in}
use Rattle.gated_marks.specs.Gates.{IsComplete}
use Rattle.cluster_tree.specs.PathValue.{PathValue}
use Rattle.cluster_tree.proofs.ChangeLemmas.{changed-in_turn}
use Rattle.cluster_tree.proofs.ContentsLemmas.{entry-put}
use Rattle.gated_marks.specs.Left.{with_mark}
use Rattle.marked_runs.specs.Runs.{ended}
use Rattle.rewind_writes.specs.Plan.{body_changes, mark_bytes, mark_gate, mark_head}
use Rattle.rewind_writes.specs.declared.plan.FileBytes.{FileBytes}
use Rattle.rewind_writes.specs.declared.plan.Plan.{Plan}
use Rattle.rewind_writes.specs.declared.step.Step.{Step}
use Rattle.rewind_plan.specs.PlanOf.{IsPlanOf}
use Rattle.rewind_plan.proofs.OffLemmas.{plan-unmarked}
use Rattle.resumed_laws.specs.Between.{IsBetween, IsMixed, IsOnWay}
use Rattle.resumed_laws.specs.Groups.{Controlled, Copied, Gone, Group, Labelled, Made, Mixed, Untouched, group_at, group_in}
use Rattle.resumed_laws.specs.Resumed.{resumed_body, resumed_changes}
use Rattle.resumed_laws.specs.Sound.{IsPlanSound, with_whole_mark}
use Rattle.resumed_laws.proofs.ResumeLemmas.{plan-same as ends-same}
use Rattle.resumed_writes.specs.Again.{finished_of}
use Rattle.resumable_plans.proofs.PlanLemmas.{plan-rest, plan-sound}
use Rattle.rewind_core.specs.Fits.{IsRewound}
use Rattle.rewind_core.specs.Planned.{Needing}
use Rattle.rewind_core.specs.Text.{sum_at}
use Rattle.rewind_core.specs.declared.outcome.Plan.{Plan as RewindPlan}
use Rattle.stored_laws.specs.Laws.{IsStopped, StoppedResumesAreResumed}
use Rattle.stored_laws.proofs.AimLemmas.{needed-aimed}
use Rattle.stored_laws.proofs.LeftLemmas.{mark-stays, stopped-between}
use Rattle.stored_laws.proofs.ResumeLemmas.{IsSame, plan-same, stopped-resumed}

-- ---- between start and end, by plans that say the same

by-control : (steps : List Step) (one other : FileBytes) (path : PathValue) (g : Group) (before now : Option Entry) → one.bytes.items ≡ other.bytes.items → IsOnWay steps one path g before now → IsOnWay steps other path g before now
by-control steps one other path Untouched before now same way = way
by-control steps one other path Made before now same way = way
by-control steps one other path Copied before now same way = way
by-control steps one other path Mixed before now same way = way
by-control steps one other path Gone before now same way = way
by-control steps one other path Labelled before now same way = way
by-control steps one other path Controlled before now same way = subst (λ bytes. IsMixed (λ k. true) (λ k. nat_lt k (length bytes)) before now) same way

between-same : (c i : Contents) (one other : Plan) → IsSame one other → IsBetween c one i → IsBetween c other i
between-same c i one other same between path =
    let group : group_in one.steps.items one.label one.control path ≡ group_in other.steps.items other.label other.control path
    = λ k. cond (path_eq path (same.label_at k)) Labelled (cond (path_eq path (same.control_at k)) Controlled (group_at path (same.steps k))) in
    ⊎_elim (λ stays. inl stays) (λ way. inr (
    by-control other.steps.items one.control other.control path (group_in other.steps.items other.label other.control path) (entry_at c path) (entry_at i path) same.control_says
    (subst (λ steps. IsOnWay steps one.control path (group_in other.steps.items other.label other.control path) (entry_at c path) (entry_at i path)) same.steps
    (subst (λ g. IsOnWay one.steps.items one.control path g (entry_at c path) (entry_at i path)) group way)))) (between path)

back : (one other : Plan) → IsSame one other → IsSame other one
back one other same = record {
  mark = sym same.mark;
  steps = sym same.steps;
  label_at = sym same.label_at;
  label_says = sym same.label_says;
  control_at = sym same.control_at;
  control_says = sym same.control_says;
}

mark-same : (c : Contents) (text : List ℕ) (one other : Plan) → IsSame one other → with_whole_mark c text one ≡ with_whole_mark c text other
mark-same c text one other same = ap (λ m. with_mark c m (mark_bytes text)) same.mark

-- ---- what the resume makes is what the first run would have

finished-is : (found c i : Contents) (plan : Plan) → IsPlanSound found c plan → IsBetween c plan i → finished_of found c plan ≡ all_changed i (resumed_changes i plan)
finished-is found c i plan sound between =
    changed-in_turn c (body_changes found plan) (ended plan.mark) ∙ ap (λ d. all_changed d (ended plan.mark)) (sym (ends-same found c i plan sound between))
    ∙ sym (changed-in_turn i (resumed_body i plan) (ended plan.mark))

-- what is on its way is such a rewind, stopped again
still-stopped : (c : Contents) (target source : PathValue) (now : ℤ) (n : Needing) (plan : RewindPlan) (i d : Contents) → IsStopped c target source now n plan i
    → IsBetween (with_whole_mark c plan.text plan.writes) plan.writes d → IsStopped c target source now n plan d
still-stopped c target source now n plan i d stop between =
    let for = stop.for in
    let first = stopped-between c i plan.text n.aim.between n.pairs n.aim.control n.aim.label plan.writes for.sides for.writes stop.left stop.complete in
    let here = mark-stays c i plan.text n.aim.between n.pairs n.aim.control n.aim.label plan.writes for.sides for.writes first in
    let there = mark-stays c d plan.text n.aim.between n.pairs n.aim.control n.aim.label plan.writes for.sides for.writes between in
    record {
      needed = stop.needed;
      for = for;
      said = stop.said;
      left = inr between;
      complete = subst (IsComplete mark_head mark_gate) (ap bytes_in here ∙ sym (ap bytes_in there)) stop.complete;
    }

pub stopped-again : StoppedResumesAreResumed
stopped-again c target source now n plan i stored moment stop placed said stands =
    let for = stop.for in
    let aimed = needed-aimed c target source now n stop.needed in
    let same = plan-same target (sum_at c source) n plan stored for.writes aimed.target_is placed said in
    let of : IsPlanOf n.aim.between n.pairs n.aim.control n.aim.label stored.plan = record {
      mark = same.mark ∙ for.writes.mark;
      steps = same.steps ∙ for.writes.steps;
      label_at = same.label_at ∙ for.writes.label_at;
      label_says = same.label_says ∙ for.writes.label_says;
      control_at = same.control_at ∙ for.writes.control_at;
      control_says = same.control_says ∙ for.writes.control_says;
      control_long = for.writes.control_long;
    } in
    let whole = with_whole_mark c plan.text stored.plan in
    let mark = mark-same c plan.text stored.plan plan.writes same in
    let first = stopped-between c i plan.text n.aim.between n.pairs n.aim.control n.aim.label plan.writes for.sides for.writes stop.left stop.complete in
    let here : IsBetween whole stored.plan i = between-same whole i plan.writes stored.plan (back stored.plan plan.writes same) (subst (λ w. IsBetween w plan.writes i) (sym mark) first) in
    let sound = plan-sound c n.aim.between n.pairs for.sides n.aim.control n.aim.label stored.plan of plan.text in (
      record {
        sound = sound;
        marked = ap is_some (entry-put c stored.plan.mark (FileEntry (mark_bytes plan.text)));
        apart = plan-unmarked c n.aim.between n.pairs n.aim.control n.aim.label stored.plan for.sides of;
        unrefused = plan-rest c n.aim.between n.pairs for.sides n.aim.control n.aim.label stored.plan of plan.text;
        now = subst (IsBetween whole stored.plan) (sym stands.now) here;
        left = λ d left. subst (IsBetween whole stored.plan) (sym (stands.left d left)) here;
      },
      λ d. ⊎_elim
          (λ way. inl (still-stopped c target source now n plan i d stop (subst (λ w. IsBetween w plan.writes d) mark (between-same whole d stored.plan plan.writes same way.0))))
          (λ done. inr (subst (IsRewound c n) (sym (done ∙ finished-is c whole i stored.plan sound here)) (stopped-resumed c target source now n plan i stored stop placed said).rewound)),
    )
