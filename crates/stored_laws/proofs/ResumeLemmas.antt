-- What is read from the mark that a stop left is done again, and ends with the rewound tree.
use Rattle.std.proofs.Common.{◌≡◌, ℕ, List, [], ◌∷◌, ◌++◌, None, sym, ap, ◌∙◌, subst}
use Rattle.cluster_tree.specs.Change.{Change, Syncs, Writes, all_changed, first_refusal}
use Rattle.cluster_tree.specs.Contents.{Contents}
use Rattle.cluster_tree.specs.PathValue.{PathValue, below}
use Rattle.cluster_tree.proofs.ChangeLemmas.{changed-elsewhere}
use Rattle.marked_runs.specs.Runs.{ended}
use Rattle.plan_text.specs.Stored.{IsPlacedAt}
use Rattle.plan_text.specs.Text.{Saying, said_by}
use Rattle.plan_text.specs.declared.stored.StoredPlan.{StoredPlan}
use Rattle.rewind_writes.specs.Steps.{FindAll, opened}
use Rattle.rewind_writes.specs.declared.plan.Plan.{Plan}
use Rattle.rewind_writes.specs.declared.step.Step.{Step}
use Rattle.rewind_writes.proofs.StepLemmas.{find-both}
use Rattle.rewind_plan.specs.PlanOf.{IsPlanOf}
use Rattle.rewind_plan.specs.Sides.{control_parts, label_parts, mark_parts}
use Rattle.resumed_laws.specs.Between.{IsBetween}
use Rattle.resumed_laws.specs.Resumed.{resumed_body, resumed_changes, resumed_closing, resumed_steps}
use Rattle.resumed_laws.specs.Sound.{with_whole_mark}
use Rattle.resumed_laws.proofs.ResumeLemmas.{plan-finds}
use Rattle.resumed_writes.specs.Again.{AreReadable}
use Rattle.resumable_plans.proofs.MarkLemmas.{resumes-rewind}
use Rattle.resumable_plans.proofs.OutsideLemmas.{outside-stays}
use Rattle.resumable_plans.proofs.PlanLemmas.{plan-sound}
use Rattle.rewind_core.specs.Fits.{IsPlanFor, IsRewound}
use Rattle.rewind_core.specs.Planned.{Needing}
use Rattle.rewind_core.specs.Text.{saying, sum_at}
use Rattle.rewind_core.specs.declared.outcome.Plan.{Plan as RewindPlan}
use Rattle.stored_laws.specs.Laws.{StoppedRewindsAreResumed}
use Rattle.stored_laws.proofs.LeftLemmas.{stopped-between}
use Rattle.stored_laws.proofs.AimLemmas.{needed-aimed}

-- ---- plans that say the same

-- what a resume reads of a plan
pub record IsSame (one other : Plan) : Type 0 where
  pub mark : one.mark ≡ other.mark
  pub steps : one.steps.items ≡ other.steps.items
  pub label_at : one.label.path ≡ other.label.path
  pub label_says : one.label.bytes.items ≡ other.label.bytes.items
  pub control_at : one.control.path ≡ other.control.path
  pub control_says : one.control.bytes.items ≡ other.control.bytes.items

abbrev again : Contents → (mark : PathValue) (steps : List Step) (label : PathValue) (label_says : List ℕ) (control : PathValue) (control_says : List ℕ) → List Change
again c mark steps label label_says control control_says =
    Syncs ∷ (resumed_steps c steps ++ opened (all_changed c (resumed_steps c steps)) label ∷ Writes label 0 label_says ∷ Writes control 0 control_says ∷ []) ++ ended mark

changes-same : (c : Contents) (one other : Plan) → IsSame one other → resumed_changes c one ≡ resumed_changes c other
changes-same c one other same = λ k. again c (same.mark k) (same.steps k) (same.label_at k) (same.label_says k) (same.control_at k) (same.control_says k)

-- one that says the same as the plan of a rewind, and has its files at the same root
pub plan-same : (target : PathValue) (sum : ℕ) (n : Needing) (plan : RewindPlan) (stored : StoredPlan) → IsPlanOf n.aim.between n.pairs n.aim.control n.aim.label plan.writes → n.aim.between.target ≡ target
    → IsPlacedAt target stored.plan → said_by stored ≡ saying sum plan → IsSame stored.plan plan.writes
plan-same target sum n plan stored of root placed said = record {
  mark = placed.mark ∙ ap (λ r. below r mark_parts) (sym root) ∙ sym of.mark;
  steps = ap (λ (s : Saying). s.steps) said;
  label_at = placed.label ∙ ap (λ r. below r label_parts) (sym root) ∙ sym of.label_at;
  label_says = ap (λ (s : Saying). s.label) said;
  control_at = placed.control ∙ ap (λ r. below r control_parts) (sym root) ∙ sym of.control_at;
  control_says = ap (λ (s : Saying). s.control) said;
}

-- ---- from what stops left on

module _ (c i : Contents) (n : Needing) (plan : RewindPlan) (for : IsPlanFor c n plan) (between : IsBetween (with_whole_mark c plan.text plan.writes) plan.writes i) where
  readable : AreReadable i plan.writes.steps.items
  readable =
      let steps = plan.writes.steps.items in
      let sound = plan-sound c n.aim.between n.pairs for.sides n.aim.control n.aim.label plan.writes for.writes plan.text in
      let found : FindAll i (resumed_body i plan.writes) steps = plan-finds c (with_whole_mark c plan.text plan.writes) i plan.writes sound between in
      (find-both i (resumed_steps i steps) (resumed_closing (all_changed i (resumed_steps i steps)) plan.writes.label plan.writes.control) steps found).0

  rewound : (first_refusal i (resumed_changes i plan.writes) ≡ None) × IsRewound c n (all_changed i (resumed_changes i plan.writes))
  rewound =
      let ends = resumes-rewind c i plan.text n.aim.between n.pairs n.aim.control n.aim.label plan.writes for.sides for.writes between in (
        ends.0,
        record {
          sides = for.sides;
          inside = ends.1;
          elsewhere = λ path out.
              let stays = outside-stays c i plan.text n.aim.between n.pairs n.aim.control n.aim.label plan.writes path for.sides for.writes between out in
              changed-elsewhere i (resumed_changes i plan.writes) path stays.1 ∙ stays.0;
        },
      )

pub stopped-resumed : StoppedRewindsAreResumed
stopped-resumed c target source now n plan i stored stop placed said =
    let for = stop.for in
    let aimed = needed-aimed c target source now n stop.needed in
    let same = plan-same target (sum_at c source) n plan stored for.writes aimed.target_is placed said in
    let changes = changes-same i stored.plan plan.writes same in
    let between = stopped-between c i plan.text n.aim.between n.pairs n.aim.control n.aim.label plan.writes for.sides for.writes stop.left stop.complete in
    let ends = rewound c i n plan for between in
    record {
      readable = subst (AreReadable i) (sym same.steps) (readable c i n plan for between);
      unrefused = ap (first_refusal i) changes ∙ ends.0;
      rewound = subst (λ l. IsRewound c n (all_changed i l)) (sym changes) ends.1;
    }
