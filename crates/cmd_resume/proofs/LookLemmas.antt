-- What a resume answers while it looks, and the form of all that it does.
use Rattle.std.proofs.Common.{◌≡◌, ◌≢◌, ◌∙◌, ◌⊎◌, ℕ, ℤ, Bool, true, false, List, Option, None, Some, option_map, inl, inr, refl, sym, ap, Result, Ok, Err}
use Rattle.std.specs.Prelude.{if◌then◌else◌, drop}
use Rattle.cluster_tree.specs.Causes.{given, unless}
use Rattle.cluster_tree.specs.Change.{all_changed}
use Rattle.cluster_tree.specs.Contents.{Contents, entry_at, is_file}
use Rattle.cluster_tree.specs.PathValue.{PathValue, below}
use Rattle.cluster_tree.proofs.RootLemmas.{holds-below}
use Rattle.clusters.specs.Marks.{unfinished}
use Rattle.clusters.specs.RootControl.{control_at}
use Rattle.clusters.specs.declared.fault.ClusterFault.{ClusterFault}
use Rattle.marked_runs.specs.Runs.{ended}
use Rattle.plan_text.specs.Laws.{IsSaid}
use Rattle.plan_text.specs.Reading.{said_of}
use Rattle.plan_text.specs.Text.{Saying}
use Rattle.plan_text.proofs.PlanReadLemmas.{all_said}
use Rattle.rewind_plan.specs.Sides.{control_parts, label_parts, mark_parts}
use Rattle.rewind_paths.specs.Laws.{AreOf}
use Rattle.rewind_paths.proofs.BelowLemmas.{at-none, at-path, both}
use Rattle.resumed_laws.specs.Resumed.{resumed_steps}
use Rattle.resume_core.specs.Faults.{IsFree as IsFreeFault, of_cluster, told_by}
use Rattle.resume_core.specs.Marks.{mark_at}
use Rattle.resume_core.specs.Source.{source_difference}
use Rattle.resume_core.specs.Stored.{found_in, held_in, held_to, or_bad, plan_in, stored_of, with_source}
use Rattle.resume_core.specs.declared.fault.ResumeFault.{ResumeFault}
use Rattle.resume_core.specs.declared.fault.ResumeFault.TheVariants as fault
use Rattle.rewind_core.specs.Over.{without_own}
use Rattle.stored_laws.proofs.PlanLemmas.{opened-of, steps-of}
use Rattle.rewind_survey.specs.declared.fault.RewindFault.TheVariants as rewind
use Rattle.commands.specs.declared.rewind.RewindWords.{RewindWords}
use Rattle.run_acts.specs.Answers.{does, refused}
use Rattle.run_acts.specs.Causes.{IsFree, IsOfLook}
use Rattle.run_acts.specs.declared.cause.Cause.{Cause}
use Rattle.run_acts.specs.declared.cause.Cause.TheVariants as cause
use Rattle.run_acts.proofs.AnswerSteps.{Looks}
use Rattle.cluster_causes.proofs.CauseLemmas.{cluster_looks}
use Rattle.cmd_rewind.specs.Rewind.{rewind_report}
use Rattle.cmd_rewind.proofs.FormLemmas.{answer-form, answer-looks}
use Rattle.cmd_resume.specs.Changes.{body_again, changes_again, closing_again}
use Rattle.cmd_resume.specs.Resume.{IsResume, found_answer, resume_answer, resume_cause, rest_of, told_answer}
use Rattle.cmd_resume.proofs.CarryLemmas.{rest-form}
use Rattle.cmd_resume.proofs.FoundLemmas.{held-said}
use Rattle.cmd_resume.proofs.ResumeLemmas.{again-looks-by, rest-whole}

-- ---- each refusal comes while it looks

-- what was found, or a refusal while it looks
abbrev Looked : {A : Type 0} → PathValue → Result A ResumeFault → Type 0
Looked source (Ok v) = Unit {0}
Looked source (Err e) = IsOfLook (resume_cause source e)

looked-given : {A B : Type 0} (source : PathValue) (r : Result A ResumeFault) (k : A → Result B ResumeFault) → Looked source r → ((v : A) → Looked source (k v)) → Looked source (given r k)
looked-given source (Ok v) k looks rest = rest v
looked-given source (Err e) k looks rest = looks

told-looks : {A : Type 0} (source : PathValue) (r : Result A ClusterFault) → Looked source (told_by r)
told-looks source (Ok v) = tt
told-looks source (Err e) = cluster_looks e

text-looks : (target source : PathValue) (r : Result Saying ℕ) → Looked source (or_bad target r)
text-looks target source (Ok said) = tt
text-looks target source (Err number) = inr (inr refl)

held-looks : (source : PathValue) (o : Option PathValue) (said : Saying) → Looked source (unless (option_map fault.SourceDiffers o) (Ok said))
held-looks source None said = tt
held-looks source (Some path) said = inr (inr refl)

marks-look : {A : Type 0} (source : PathValue) (o : Option ClusterFault) (r : Result A ResumeFault) → Looked source r → Looked source (unless (option_map of_cluster o) r)
marks-look source None r looks = looks
marks-look source (Some e) r looks = cluster_looks e

found-looks : (c : Contents) (target source : PathValue) (bytes : Option (List ℕ)) → Looked source (found_in c target source bytes)
found-looks c target source None = tt
found-looks c target source (Some bytes) =
    looked-given source (held_in c target source bytes) (λ said. Ok (Some said))
    (looked-given source (plan_in target source bytes) (with_source c source) (text-looks target source (said_of target source (drop 14 bytes)))
    (λ said. looked-given source (told_by (control_at c source)) (λ control. held_to c source said) (told-looks source (control_at c source)) (λ control. held-looks source (source_difference c source said) said)))
    (λ said. tt)

stored-looks : (c : Contents) (target source : PathValue) → Looked source (stored_of c target source)
stored-looks c target source =
    looked-given source (told_by (mark_at c target)) (λ bytes. unless (option_map of_cluster (unfinished c source)) (found_in c target source bytes)) (told-looks source (mark_at c target))
    (λ bytes. marks-look source (unfinished c source) (found_in c target source bytes) (found-looks c target source bytes))

-- ---- what a mark holds is of the target

closing-of : (d : Contents) (target : PathValue) (said : Saying) → AreOf target (closing_again d target said)
closing-of d target said =
    let label = below target label_parts in
    let holds = holds-below target label_parts in
    ((opened-of target label (is_file (entry_at d label)) holds).0, (at-path target label holds, (at-path target (below target control_parts) (holds-below target control_parts), tt)))

again-of : (c : Contents) (target source : PathValue) (said : Saying) → IsSaid target source said → AreOf target (changes_again c target said)
again-of c target source said is =
    let steps = resumed_steps c said.steps in
    let end = all_changed c steps in
    let mark = below target mark_parts in
    let body = both target steps (closing_again end target said) (steps-of c target source said.steps is.steps) (closing-of end target said) in
    (at-none target, both target (body_again c target said) (ended mark) body (at-none target, (at-path target mark (holds-below target mark_parts), (at-none target, tt))))

text-said : (target source : PathValue) (r : Result Saying ℕ) (said : Saying) → or_bad target r ≡ Ok said → r ≡ Ok said
text-said target source (Ok other) said is = let same : other ≡ said = cc is in ap Ok same
text-said target source (Err number) said is = absurd (cc is)

stored-said : (c : Contents) (target source : PathValue) (said : Saying) → stored_of c target source ≡ Ok (Some said) → IsSaid target source said
stored-said c target source said is =
    let (bytes, text) = held-said c target source said is in
    all_said target source (drop 14 bytes) said (text-said target source (said_of target source (drop 14 bytes)) said text)

-- ---- so all that a resume does has its form, and begins with a look

stored-form : (c : Contents) (words : RewindWords) (said : Saying) (dry : Bool) → words.dry_run ≡ dry → AreOf words.target (changes_again c words.target said)
    → IsResume words (if dry then does (rewind_report said.told) else told_answer said.told (rest_of words.target c (changes_again c words.target said)))
stored-form c words said true is of = inl (inr (inr (inl (said.told, is, refl))))
stored-form c words said false is of = rest-whole words said.told (rest_of words.target c (changes_again c words.target said)) is (rest-form words.target c (changes_again c words.target said) of)

form_of : (c : Contents) (words : RewindWords) (now : ℤ) (r : Result (Option Saying) ResumeFault) → Looked words.source r → ((said : Saying) → r ≡ Ok (Some said) → IsSaid words.target words.source said) → IsResume words (found_answer words now c r)
form_of c words now (Ok None) looks known = inl (answer-form (without_own c words.target) c words now)
form_of c words now (Ok (Some said)) looks known = stored-form c words said words.dry_run refl (again-of c words.target words.source said (known said refl))
form_of c words now (Err e) looks known = inl (inr (inr (inr (inr (resume_cause words.source e, looks, refl)))))

pub resume-form : (c : Contents) (words : RewindWords) (now : ℤ) → IsResume words (resume_answer c words now)
resume-form c words now = form_of c words now (stored_of c words.target words.source) (stored-looks c words.target words.source) (stored-said c words.target words.source)

looks_of : (c : Contents) (words : RewindWords) (now : ℤ) (r : Result (Option Saying) ResumeFault) → Looks ((found_answer words now c r).acts)
looks_of c words now (Ok None) = answer-looks (without_own c words.target) c words now
looks_of c words now (Ok (Some said)) = again-looks-by words.dry_run said.told (rest_of words.target c (changes_again c words.target said))
looks_of c words now (Err e) = tt

pub resume-looks : (c : Contents) (words : RewindWords) (now : ℤ) → Looks ((resume_answer c words now).acts)
resume-looks c words now = looks_of c words now (stored_of c words.target words.source)

-- ---- a refusal is the one that is meant

pub refused-passes : (c : Contents) (words : RewindWords) (now : ℤ) (e : ResumeFault) (why : Cause) → IsFreeFault e ⊎ (stored_of c words.target words.source ≡ Err e)
    → (why ≡ resume_cause words.source e) ⊎ (why ≡ cause.OutOfMemory) → IsFree why ⊎ (resume_answer c words now ≡ refused why)
refused-passes c words now e why exact (inr is) = inl (inr (inr (inr is)))
refused-passes c words now e why (inl (inl free)) (inl is) = inl (inl (is ∙ ap (resume_cause words.source) free))
refused-passes c words now e why (inl (inr free)) (inl is) = inl (inr (inr (inr (is ∙ ap (resume_cause words.source) free))))
refused-passes c words now e why (inr at) (inl is) = inr (ap (found_answer words now c) at ∙ ap refused (sym is))

pub looks-only : (e : ResumeFault) (why : Cause) → e ≢ fault.Rewind rewind.WriteFault → IsOfLook why ⊎ (e ≡ fault.Rewind rewind.WriteFault) → IsOfLook why
looks-only e why never (inl looks) = looks
looks-only e why never (inr is) = absurd (never is)
