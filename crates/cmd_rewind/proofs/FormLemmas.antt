-- The forms of what pg_rewind does.
use Rattle.std.proofs.Common.{◌≡◌, ◌⊎◌, ℤ, Bool, true, false, List, inl, inr, refl, sym, ap, ap₂, subst, ◌∙◌, Result, Ok, Err}
use Rattle.std.specs.Prelude.{if◌then◌else◌}
use Rattle.cluster_tree.specs.Change.{Change}
use Rattle.cluster_tree.specs.Contents.{Contents}
use Rattle.rewind_survey.specs.declared.fault.RewindFault.{RewindFault}
use Rattle.rewind_survey.specs.declared.outcome.Told.{Told}
use Rattle.rewind_writes.specs.Plan.{plan_changes}
use Rattle.rewind_core.specs.Fits.{Fits, FitsMeant, IsMadeBetween, IsPlanFor}
use Rattle.rewind_core.specs.Planned.{AtFork, Meant, Needing, Needs, OneTimeline, planned_of}
use Rattle.rewind_core.specs.declared.outcome.Plan.{Plan}
use Rattle.rewind_core.specs.declared.outcome.Planned.{Planned}
use Rattle.rewind_core.specs.declared.outcome.Planned.TheVariants as planned
use Rattle.commands.specs.declared.rewind.RewindWords.{RewindWords}
use Rattle.run_acts.proofs.AnswerSteps.{Looks}
use Rattle.run_acts.specs.Answers.{Answer, does, refused}
use Rattle.run_acts.specs.Causes.{IsFree}
use Rattle.run_acts.specs.declared.cause.Cause.{Cause}
use Rattle.cluster_causes.specs.Rewind.{rewind_cause}
use Rattle.cmd_rewind.specs.Changes.{needed_changes}
use Rattle.cmd_rewind.specs.Rewind.{IsRewind, found_answer, made_acts, meant_answer, needed_answer, rewind_answer, rewind_report}
use Rattle.cmd_rewind.specs.Tasks.{IsTaskFor, IsTaskOf, IsWet, planned_answer, task_acts}
use Rattle.cmd_rewind.specs.declared.tasks.Task.{Task}
use Rattle.cmd_rewind.specs.declared.tasks.Task.TheVariants as task
use Rattle.rewind_paths.specs.Laws.{AreOf}
use Rattle.rewind_paths.proofs.BelowLemmas.{Aims, plan-of, planned-aims}
use Rattle.cmd_rewind.proofs.BelowLemmas.{needed-of}
use Rattle.cmd_rewind.proofs.MeantLemmas.{Looked, planned-looks}

-- a rewind that is told of or made
made-form : (words : RewindWords) (c : Contents) (told : Told) (changes : List Change) (dry_run : Bool) → words.dry_run ≡ dry_run → AreOf words.target changes
    → IsRewind words (if dry_run then does (rewind_report told) else does (made_acts told c changes))
made-form words c told changes true is of = inr (inr (inl (told, is, refl)))
made-form words c told changes false is of = inr (inr (inr (inl (told, c, changes, is, of, refl))))

form_of : (words : RewindWords) (s c : Contents) (found : Result Meant RewindFault) → Looked found → Aims words.target found → IsRewind words (found_answer words.dry_run s c found)
form_of words s c (Ok OneTimeline) looks aims = inl refl
form_of words s c (Ok (AtFork fork)) looks aims = inr (inl (fork, refl))
form_of words s c (Ok (Needs n)) looks aims = made-form words c n.aim.told (needed_changes s c n) words.dry_run refl (subst (λ root. AreOf root (needed_changes s c n)) aims (needed-of s c n))
form_of words s c (Err fault) looks aims = inr (inr (inr (inr (rewind_cause fault, looks, refl))))

pub answer-form : (s c : Contents) (words : RewindWords) (now : ℤ) → IsRewind words (rewind_answer s c words now)
answer-form s c words now =
    form_of words s c (planned_of s words.target words.source now) (planned-looks s words.target words.source now) (planned-aims s words.target words.source now)

-- what was planned has a form too, whatever the tree told
pub planned-form : (words : RewindWords) (c : Contents) (v : Planned) → IsMadeBetween words.target words.source v → IsRewind words (planned_answer words.dry_run c v)
planned-form words c planned.SameTimeline made = inl refl
planned-form words c (planned.EndsAtFork fork) made = inr (inl (fork, refl))
planned-form words c (planned.Needed plan) made =
    made-form words c plan.told (plan_changes c plan.text plan.writes) words.dry_run refl (subst (λ root. AreOf root (plan_changes c plan.text plan.writes)) made.target_is (plan-of c plan.text made.between made.pairs made.control made.label plan.writes made.writes))

needed-looks : (dry_run : Bool) (s c : Contents) (n : Needing) → Looks ((needed_answer dry_run s c n).acts)
needed-looks true s c n = tt
needed-looks false s c n = tt

looks_of : (dry_run : Bool) (s c : Contents) (found : Result Meant RewindFault) → Looks ((found_answer dry_run s c found).acts)
looks_of dry_run s c (Ok OneTimeline) = tt
looks_of dry_run s c (Ok (AtFork fork)) = tt
looks_of dry_run s c (Ok (Needs n)) = needed-looks dry_run s c n
looks_of dry_run s c (Err fault) = tt

pub answer-looks : (s c : Contents) (words : RewindWords) (now : ℤ) → Looks ((rewind_answer s c words now).acts)
answer-looks s c words now = looks_of words.dry_run s c (planned_of s words.target words.source now)

-- ---- what was planned is what is meant

-- the changes of the plan are those that are needed
changes_are : (s c : Contents) (n : Needing) (plan : Plan) → IsPlanFor s n plan → plan_changes c plan.text plan.writes ≡ needed_changes s c n
changes_are s c n plan is = cc (is.text, is.told, is.writes.mark, is.writes.steps, is.writes.label_at, is.writes.label_says, is.writes.control_at, is.writes.control_says)

needed_answers : (dry_run : Bool) (s c : Contents) (n : Needing) (plan : Plan) → IsPlanFor s n plan → planned_answer dry_run c (planned.Needed plan) ≡ needed_answer dry_run s c n
needed_answers dry_run s c n plan is =
    ap₂ (λ (told : Told) (changes : List Change). if dry_run then does (rewind_report told) else does (made_acts told c changes)) is.told (changes_are s c n plan is)

fits_answer : (dry_run : Bool) (s c : Contents) (meant : Meant) (v : Planned) → Fits s meant v → planned_answer dry_run c v ≡ meant_answer dry_run s c meant
fits_answer dry_run s c OneTimeline planned.SameTimeline fits = refl
fits_answer dry_run s c OneTimeline (planned.EndsAtFork at) fits = absurd fits
fits_answer dry_run s c OneTimeline (planned.Needed plan) fits = absurd fits
fits_answer dry_run s c (AtFork fork) planned.SameTimeline fits = absurd fits
fits_answer dry_run s c (AtFork fork) (planned.EndsAtFork at) fits = ap (λ f. planned_answer dry_run c (planned.EndsAtFork f)) fits
fits_answer dry_run s c (AtFork fork) (planned.Needed plan) fits = absurd fits
fits_answer dry_run s c (Needs n) planned.SameTimeline fits = absurd fits
fits_answer dry_run s c (Needs n) (planned.EndsAtFork at) fits = absurd fits
fits_answer dry_run s c (Needs n) (planned.Needed plan) fits = needed_answers dry_run s c n plan fits

pub planned_answers : (dry_run : Bool) (s c : Contents) (found : Result Meant RewindFault) (v : Planned) → FitsMeant s found v → planned_answer dry_run c v ≡ found_answer dry_run s c found
planned_answers dry_run s c found v fits = fits_answer dry_run s c fits.meaning v fits.fits ∙ sym (ap (found_answer dry_run s c) fits.found)

-- ---- a task of what was planned is one for what is meant

plan_needs : (c : Contents) (meant : Meant) (plan : Plan) → Fits c meant (planned.Needed plan) → (n : Needing) × (meant ≡ Needs n) × IsPlanFor c n plan
plan_needs c OneTimeline plan fits = absurd fits
plan_needs c (AtFork fork) plan fits = absurd fits
plan_needs c (Needs n) plan fits = (n, refl, fits)

needs_plan : (c : Contents) (n : Needing) (v : Planned) → Fits c (Needs n) v → (plan : Plan) × (v ≡ planned.Needed plan)
needs_plan c n planned.SameTimeline fits = absurd fits
needs_plan c n (planned.EndsAtFork at) fits = absurd fits
needs_plan c n (planned.Needed plan) fits = (plan, refl)

told_needs : (c : Contents) (found : Result Meant RewindFault) (v : Planned) → FitsMeant c found v → (n : Needing) → found ≡ Ok (Needs n) → (plan : Plan) × (v ≡ planned.Needed plan)
told_needs c found v fits n is =
    let same : ◌≡◌ {A = Result Meant RewindFault} (Ok fits.meaning) (Ok (Needs n)) = sym fits.found ∙ is in
    let meaning : fits.meaning ≡ Needs n = cc same in
    needs_plan c n v (subst (λ m. Fits c m v) meaning fits.fits)

pub task_for : (dry_run : Bool) (c : Contents) (found : Result Meant RewindFault) (v : Planned) (t : Task) → FitsMeant c found v → IsTaskOf dry_run v t → IsTaskFor dry_run c found t
task_for dry_run c found v (task.Tell lines) fits own = λ n is. own (told_needs c found v fits n is).0 (told_needs c found v fits n is).1
task_for dry_run c found v (task.Rewind first second plan) fits own =
    let (n, is, for) = plan_needs c fits.meaning plan (subst (Fits c fits.meaning) own fits.fits) in
    (n, fits.found ∙ ap Ok is, for)

-- ---- the time under another name, as a call hands it on

module _ (s c : Contents) (words : RewindWords) {n m : ℤ} (same : n ≡ m) where
  pub fits_at : (v : Planned) → FitsMeant s (planned_of s words.target words.source n) v → FitsMeant s (planned_of s words.target words.source m) v
  fits_at v fits = let P : ℤ → Type 0 = λ x. FitsMeant s (planned_of s words.target words.source x) v in subst P same fits

  pub task_at : (t : Task) → IsTaskFor words.dry_run s (planned_of s words.target words.source n) t → IsTaskFor words.dry_run s (planned_of s words.target words.source m) t
  task_at t is = let P : ℤ → Type 0 = λ x. IsTaskFor words.dry_run s (planned_of s words.target words.source x) t in subst P same is

  pub answer_at : (answer : Answer) → answer ≡ rewind_answer s c words n → answer ≡ rewind_answer s c words m
  answer_at answer is = is ∙ ap (rewind_answer s c words) same

  pub passes_at : (e : Cause) → IsFree e ⊎ (rewind_answer s c words n ≡ refused e) → IsFree e ⊎ (rewind_answer s c words m ≡ refused e)
  passes_at e (inl free) = inl free
  passes_at e (inr is) = inr (sym (ap (rewind_answer s c words) same) ∙ is)

-- ---- what is known of a task, where it is seen which one it is

module _ (s c : Contents) (words : RewindWords) {n m : ℤ} (time : n ≡ m) {t t' : Task} (same : t ≡ t') where
  pub known_as : {T : Type 0} → (T → does (task_acts t c) ≡ rewind_answer s c words n) → T → does (task_acts t' c) ≡ rewind_answer s c words m
  known_as known h =
      let P : Task → Type 0 = λ x. does (task_acts x c) ≡ rewind_answer s c words m in
      subst P same (answer_at s c words time _ (known h))

  pub task_as : IsTaskFor words.dry_run s (planned_of s words.target words.source n) t → IsTaskFor words.dry_run s (planned_of s words.target words.source m) t'
  task_as is =
      let P : Task → Type 0 = λ x. IsTaskFor words.dry_run s (planned_of s words.target words.source m) x in
      subst P same (task_at s c words time t is)

pub form_as : (words : RewindWords) {t t' : Task} → t ≡ t' → ((d : Contents) → IsRewind words (does (task_acts t d))) → (d : Contents) → IsRewind words (does (task_acts t' d))
form_as words same form d =
    let P : Task → Type 0 = λ x. IsRewind words (does (task_acts x d)) in
    subst P same (form d)

pub wet_as : (dry_run : Bool) {t t' : Task} → t ≡ t' → IsWet dry_run t → IsWet dry_run t'
wet_as dry_run same wet = let P : Task → Type 0 = λ x. IsWet dry_run x in subst P same wet
