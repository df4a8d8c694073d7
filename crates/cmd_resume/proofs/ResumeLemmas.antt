-- A resume as a whole: what was found, its forms, and what a stop leaves.
use Rattle.std.proofs.Common.{◌≡◌, ◌∙◌, ℕ, ℤ, Bool, true, false, ◌≤◌, List, [], ◌∷◌, Option, None, Some, is_some, option_map, inl, inr, ⊎_elim, refl, sym, ap, ap₂, subst, Result, Ok, Err, OnOk, arith}
use Rattle.std.specs.Prelude.{if◌then◌else◌}
use Rattle.cluster_tree.specs.Change.{all_changed}
use Rattle.cluster_tree.specs.Contents.{Contents, or_root}
use Rattle.cluster_tree.specs.Frame.{Reads, moment_of}
use Rattle.cluster_tree.specs.PathValue.{PathValue}
use Rattle.cluster_tree.specs.Run.{Moment}
use Rattle.cluster_tree.specs.Stops.{LeavesOnly}
use Rattle.cluster_tree.specs.declared.tree.ChangeCall.{ChangeCall}
use Rattle.cluster_tree.specs.declared.tree.Tree.{Ghosts}
use Rattle.cluster_tree.proofs.Images.{holds_first, leaves_only}
use Rattle.marked_runs.specs.Moments.{IsMarked, IsSafe, StandsSynced}
use Rattle.marked_runs.proofs.StopLemmas.{leaves_weaker}
use Rattle.plan_text.specs.Stored.{IsPlacedAt}
use Rattle.plan_text.specs.Text.{Saying, said_by}
use Rattle.plan_text.specs.declared.stored.StoredPlan.{StoredPlan}
use Rattle.resumed_laws.specs.Resumed.{resumed_changes}
use Rattle.resumed_laws.specs.Between.{IsBetween as ResumedBetween}
use Rattle.resumed_laws.specs.Sound.{with_whole_mark}
use Rattle.resumed_laws.proofs.RunLemmas.{path-stays}
use Rattle.resumed_writes.specs.Again.{AreReadable, IsOnWayOrFinished, IsResumable, resumed_end}
use Rattle.rewind_core.specs.Over.{without_own}
use Rattle.rewind_core.specs.Planned.{Needing}
use Rattle.rewind_core.specs.Text.{saying, sum_at}
use Rattle.rewind_core.specs.declared.outcome.Plan.{Plan as RewindPlan}
use Rattle.rewind_writes.specs.declared.plan.Plan.{Plan}
use Rattle.stored_laws.specs.Laws.{IsStopped, IsStoppedAgain}
use Rattle.stored_laws.proofs.AgainLemmas.{stopped-again}
use Rattle.stored_laws.proofs.StoredLemmas.{stopped-stored}
use Rattle.resume_core.specs.Stored.{IsBetween, IsStoredBetween, stored_of}
use Rattle.resume_core.specs.declared.fault.ResumeFault.{ResumeFault}
use Rattle.rewind_core.proofs.StopLemmas.{reads-leave, reads-on}
use Rattle.rewind_survey.specs.declared.outcome.Told.{Told}
use Rattle.stored_laws.proofs.PlanLemmas.{stored-of_target, stored-readable}
use Rattle.cluster_tree.specs.Apart.{AreApart}
use Rattle.acts.specs.Acts.{Report, Seen, Sunk, seen}
use Rattle.commands.specs.declared.rewind.RewindWords.{RewindWords}
use Rattle.run_acts.specs.Answers.{Answer, Blames, does}
use Rattle.run_acts.specs.Unseen.{CarriesUnseen}
use Rattle.run_acts.specs.declared.cause.Cause.{Cause}
use Rattle.run_acts.proofs.AnswerSteps.{Looks}
use Rattle.run_acts.proofs.BlameSteps.{blames_after_reads}
use Rattle.cmd_rewind.specs.Rewind.{IsDurable, IsLeftByRewind, IsLeftToResume, LeavesRewound, all_done, diverged, rewind_answer, rewind_report, rewinding}
use Rattle.cmd_resume.specs.Changes.{changes_again}
use Rattle.cmd_resume.specs.Resume.{IsLeftByResume, IsResume, IsResumedDurably, LeavesResumed, behind_line, behind_look, found_answer, resume_answer, rest_of, told_answer}
use Rattle.cmd_resume.specs.Rests.{IsBehind, IsLeftAgain, IsRest, again_answer, again_rest}
use Rattle.cmd_resume.proofs.CarryLemmas.{rest-form}
use Rattle.cmd_resume.proofs.FoundLemmas.{found-of}

-- ---- the changes are those that the plan in the mark says

pub changes-as : (c : Contents) (target : PathValue) (stored : StoredPlan) → IsPlacedAt target stored.plan → resumed_changes c stored.plan ≡ changes_again c target (said_by stored)
changes-as c target stored placed = cc (placed.mark, placed.label, placed.control)

-- ---- forms

pub rest-whole : (words : RewindWords) (told : Told) (rest : Answer) → words.dry_run ≡ false → IsRest words.target rest → IsResume words (told_answer told rest)
rest-whole words told rest wet (inl (c, changes, of, is)) = inl (inr (inr (inr (inl (told, c, changes, wet, of, ap (told_answer told) is)))))
rest-whole words told rest wet (inr (after, way, is)) = inr (told, after, way, wet, ap (told_answer told) is)

pub whole-form : (words : RewindWords) (told : Told) → words.dry_run ≡ false → (rest : Answer) → IsBehind (diverged told.fork) (IsBehind (rewinding told) (IsRest words.target)) rest → IsResume words (behind_look rest)
whole-form words told wet rest (first, (second, form, same), is) =
    let P : Answer → Type 0 = λ a. IsResume words (behind_look a) in
    subst P (sym (is ∙ ap (behind_line (diverged told.fork)) same)) (rest-whole words told second wet form)

again-form-by : (words : RewindWords) (c : Contents) (stored : StoredPlan) (dry : Bool) → words.dry_run ≡ dry → IsRest words.target (again_rest words.target c stored.plan)
    → IsResume words (if dry then does (rewind_report stored.told) else told_answer stored.told (again_rest words.target c stored.plan))
again-form-by words c stored true is form = inl (inr (inr (inl (stored.told, is, refl))))
again-form-by words c stored false is form = rest-whole words stored.told (again_rest words.target c stored.plan) is form

pub again-form : (words : RewindWords) (c : Contents) (source : PathValue) (stored : StoredPlan) → IsStoredBetween words.target source stored → IsResume words (again_answer words c stored)
again-form words c source stored between =
    again-form-by words c stored words.dry_run refl (rest-form words.target c (resumed_changes c stored.plan) (stored-of_target c words.target source stored between))

pub again-looks-by : (dry : Bool) (told : Told) (rest : Answer) → Looks ((if dry then does (rewind_report told) else told_answer told rest).acts)
again-looks-by true told rest = tt
again-looks-by false told rest = tt

pub again-looks : (words : RewindWords) (c : Contents) (stored : StoredPlan) → Looks ((again_answer words c stored).acts)
again-looks words c stored = again-looks-by words.dry_run stored.told (again_rest words.target c stored.plan)

-- by whether the run is dry
pub dry-answer : (words : RewindWords) (c : Contents) (stored : StoredPlan) {first second : List ℕ} → words.dry_run ≡ true → first ≡ diverged stored.told.fork → second ≡ rewinding stored.told
    → does (Report first ∷ Report second ∷ Report all_done ∷ []) ≡ again_answer words c stored
dry-answer words c stored dry is js =
    ap₂ (λ x y. does (Report x ∷ Report y ∷ Report all_done ∷ [])) is js
    ∙ sym (ap (λ b. if b then does (rewind_report stored.told) else told_answer stored.told (again_rest words.target c stored.plan)) dry)

pub wet-answer : (words : RewindWords) (c : Contents) (stored : StoredPlan) → words.dry_run ≡ false → told_answer stored.told (again_rest words.target c stored.plan) ≡ again_answer words c stored
wet-answer words c stored wet = sym (ap (λ b. if b then does (rewind_report stored.told) else told_answer stored.told (again_rest words.target c stored.plan)) wet)

-- ---- the lines under another name

pub lines_as : {Seeing : Type 0} {o e : Bool} {ended : Cause} {s u : Seen} {first first' second second' : List ℕ} {rest : Answer} {IsForm : Answer → Type 0} → first ≡ first' → second ≡ second'
    → CarriesUnseen Seeing Seeing (behind_line first (behind_line second rest)) (IsBehind first (IsBehind second IsForm)) o e ended s u
    → CarriesUnseen Seeing Seeing (behind_line first' (behind_line second' rest)) (IsBehind first' (IsBehind second' IsForm)) o e ended s u
lines_as {Seeing} {o} {e} {ended} {s} {u} {first' = first'} {second} {rest = rest} {IsForm} is js p =
    let P : List ℕ → List ℕ → Type 0 = λ x y. CarriesUnseen Seeing Seeing (behind_line x (behind_line y rest)) (IsBehind x (IsBehind y IsForm)) o e ended s u in
    let Q : List ℕ → Type 0 = λ x. P x second in
    let R : List ℕ → Type 0 = λ y. P first' y in
    subst R js (subst Q is p)

-- ---- what is meant and its form under another name, after reads

pub unseen_as : {Seeing Known : Type 0} {meant meant' : Answer} {IsForm IsWhole : Answer → Type 0} {o e : Bool} {ended : Cause} {c c' : Contents} {k k' : List ChangeCall} {out err : Sunk} {u : Seen}
    → c' ≡ c → k' ≡ k → (Known → meant ≡ meant') → ((a : Answer) → IsForm a → IsWhole a)
    → CarriesUnseen Seeing Known meant IsForm o e ended (seen c' k' out err) u → CarriesUnseen Seeing Known meant' IsWhole o e ended (seen c k out err) u
unseen_as ci ki same whole p = record {
  from = λ d j is.
      let q = p.from d j (λ h. ((is h).0 ∙ sym ci, (is h).1 ∙ sym ki)) in
      record {
        after = q.after;
        carries = record { answer = q.carries.answer; known = λ h. q.carries.known h ∙ same h; form = whole q.carries.answer q.carries.form; exact = q.carries.exact; acts = q.carries.acts };
      };
}

-- ---- what is meant

again-meant : (words : RewindWords) (c : Contents) (stored : StoredPlan) (dry : Bool) → IsPlacedAt words.target stored.plan
    → ◌≡◌ {A = Answer} (if dry then does (rewind_report stored.told) else told_answer stored.told (again_rest words.target c stored.plan))
    (if dry then does (rewind_report stored.told) else told_answer stored.told (rest_of words.target c (changes_again c words.target (said_by stored))))
again-meant words c stored true placed = refl
again-meant words c stored false placed = ap (λ changes. told_answer stored.told (rest_of words.target c changes)) (changes-as c words.target stored placed)

pub stored-meant : (words : RewindWords) (now : ℤ) (c c' : Contents) (stored : StoredPlan) → c' ≡ c → IsPlacedAt words.target stored.plan → stored_of c words.target words.source ≡ Ok (Some (said_by stored))
    → again_answer words c' stored ≡ resume_answer c words now
stored-meant words now c c' stored same placed found =
    ap (λ d. again_answer words d stored) same ∙ again-meant words c stored words.dry_run placed ∙ sym (ap (found_answer words now c) found)

pub fresh-meant : (words : RewindWords) {n now : ℤ} (c c' : Contents) → n ≡ now → c' ≡ c → stored_of c words.target words.source ≡ Ok None → rewind_answer (without_own c' words.target) c' words n ≡ resume_answer c words now
fresh-meant words {n} {now} c c' time same found =
    ap (λ d. rewind_answer (without_own d words.target) d words n) same ∙ ap (rewind_answer (without_own c words.target) c words) time ∙ sym (ap (found_answer words now c) found)

-- ---- what is done leaves

fresh-only : {A : Type 0} (r : Result (Option Saying) ResumeFault) (said : Saying) → r ≡ Ok None → r ≡ Ok (Some said) → A
fresh-only r said none some = let same : ◌≡◌ {A = Result (Option Saying) ResumeFault} (Ok None) (Ok (Some said)) = sym none ∙ some in absurd (cc same)

pub fresh-leaves : (r : Result (Unit {0}) Cause) (words : RewindWords) {n now : ℤ} (c mid c' : Contents) → n ≡ now → mid ≡ c → stored_of c words.target words.source ≡ Ok None
    → OnOk r (LeavesRewound words n (without_own mid words.target) c') → OnOk r (LeavesResumed words now c c')
fresh-leaves (Ok u) words {n} c mid c' time same found left =
    record { fresh = λ is. subst (λ m. LeavesRewound words m (without_own c words.target) c') time (subst (λ d. LeavesRewound words n (without_own d words.target) c') same left); stored = λ said wet is. fresh-only (stored_of c words.target words.source) said found is }
fresh-leaves (Err e) words c mid c' time same found left = tt

one-saying : (r : Result (Option Saying) ResumeFault) (said said' : Saying) → r ≡ Ok (Some said) → r ≡ Ok (Some said') → said ≡ said'
one-saying r said said' one other = let same : ◌≡◌ {A = Result (Option Saying) ResumeFault} (Ok (Some said)) (Ok (Some said')) = sym one ∙ other in cc same

pub stored-leaves : (r : Result (Unit {0}) Cause) (words : RewindWords) (now : ℤ) (c mid c' : Contents) (stored : StoredPlan) → mid ≡ c → IsPlacedAt words.target stored.plan
    → stored_of c words.target words.source ≡ Ok (Some (said_by stored)) → (words.dry_run ≡ false → OnOk r (c' ≡ resumed_end mid stored.plan)) → OnOk r (LeavesResumed words now c c')
stored-leaves (Ok u) words now c mid c' stored same placed found left = record {
  fresh = λ is. fresh-only (stored_of c words.target words.source) (said_by stored) is found;
  stored = λ said wet is.
      let one = one-saying (stored_of c words.target words.source) (said_by stored) said found is in
      left wet ∙ ap (λ d. resumed_end d stored.plan) same ∙ ap (all_changed c) (changes-as c words.target stored placed ∙ ap (changes_again c words.target) one);
}
stored-leaves (Err e) words now c mid c' stored same placed found left = tt

pub fresh-durable : (r : Result (Unit {0}) Cause) (words : RewindWords) {n now : ℤ} (c mid : Contents) (moment : Moment) → n ≡ now → mid ≡ c → stored_of c words.target words.source ≡ Ok None
    → OnOk r (IsDurable words n (without_own mid words.target) moment) → OnOk r (IsResumedDurably words now c moment)
fresh-durable (Ok u) words {n} c mid moment time same found stands = record {
  fresh = λ is. subst (λ m. IsDurable words m (without_own c words.target) moment) time (subst (λ d. IsDurable words n (without_own d words.target) moment) same stands);
  stored = λ said wet is. fresh-only (stored_of c words.target words.source) said found is;
}
fresh-durable (Err e) words c mid moment time same found stands = tt

pub stored-durable : (r : Result (Unit {0}) Cause) (words : RewindWords) (now : ℤ) (c : Contents) (said : Saying) (moment : Moment) → stored_of c words.target words.source ≡ Ok (Some said)
    → (words.dry_run ≡ false → OnOk r (StandsSynced moment.state.contents moment)) → OnOk r (IsResumedDurably words now c moment)
stored-durable (Ok u) words now c said moment found stands = record {
  fresh = λ is. fresh-only (stored_of c words.target words.source) said is found;
  stored = λ other wet is. stands wet;
}
stored-durable (Err e) words now c said moment found stands = tt

-- ---- what a stop leaves

-- nothing is done of what may be resumed
pub still-again : (found c : Contents) (plan : Plan) (first : Moment) → IsResumable found c plan first → LeavesOnly (IsOnWayOrFinished found c plan) first.stops first.stops
still-again found c plan first may =
    let Between : Contents → Type 0 = ResumedBetween c plan in
    leaves_only (IsOnWayOrFinished found c plan) Between first first (holds_first (IsOnWayOrFinished found c plan) Between first may.now may.left)
    (λ d between. inl (between, ap (λ o. is_some (or_root plan.mark.parts o)) (path-stays found c plan may.sound d between plan.mark may.apart).0 ∙ may.marked))

module _ {F : Type 0} (tree : Ghosts F) (words : RewindWords) (now : ℤ) (a b : F) (reads : Reads tree a b) where
  pub looks-left : LeavesOnly (IsLeftByResume words now (moment_of tree a)) (tree.stops a) (tree.stops b)
  looks-left = reads-leave tree (IsLeftByResume words now (moment_of tree a)) a b reads (λ c untouched. inl untouched)

  pub fresh-left : (d : F) {n : ℤ} → n ≡ now → stored_of (tree.contents a) words.target words.source ≡ Ok None
      → LeavesOnly (IsLeftByRewind words n (without_own (tree.contents b) words.target) (moment_of tree b)) (tree.stops b) (tree.stops d) → LeavesOnly (IsLeftByResume words now (moment_of tree a)) (tree.stops a) (tree.stops d)
  fresh-left d time found left =
      leaves_weaker (IsLeftByRewind words now (without_own (tree.contents a) words.target) (moment_of tree a)) (IsLeftByResume words now (moment_of tree a)) (tree.stops a) (tree.stops d) (λ c is. inr (inl (found, is)))
      (reads-on tree (λ m. IsLeftByRewind words now (without_own m.state.contents words.target) m) a b d reads (subst (λ m. LeavesOnly (IsLeftByRewind words m (without_own (tree.contents b) words.target) (moment_of tree b)) (tree.stops b) (tree.stops d)) time left))

  -- from synced contents on, where a rewind begins
  pub fresh-resumable : (d : F) {n : ℤ} → n ≡ now → StandsSynced (tree.contents a) (moment_of tree a)
      → (StandsSynced (tree.contents b) (moment_of tree b) → LeavesOnly (IsLeftToResume words n (without_own (tree.contents b) words.target) (tree.contents b)) (tree.stops b) (tree.stops d))
      → LeavesOnly (IsLeftToResume words now (without_own (tree.contents a) words.target) (tree.contents a)) (tree.stops a) (tree.stops d)
  fresh-resumable d time stands left =
      let same : moment_of tree b ≡ moment_of tree a = λ i. record { state = record { contents = reads.same i; calls = reads.uncalled i }; stops = reads.unstopped i } in
      let begun : StandsSynced (tree.contents b) (moment_of tree b) = subst (λ (m : Moment). StandsSynced m.state.contents m) (sym same) stands in
      reads-on tree (λ m. IsLeftToResume words now (without_own m.state.contents words.target) m.state.contents) a b d reads
      (subst (λ m. LeavesOnly (IsLeftToResume words m (without_own (tree.contents b) words.target) (tree.contents b)) (tree.stops b) (tree.stops d)) time (left begun))

  -- of a rewind that was stopped, while it looks
  pub stopped-looks : (c : Contents) (before : ℤ) (n : Needing) (plan : RewindPlan) → IsStopped c words.target words.source before n plan (tree.contents a) → StandsSynced (tree.contents a) (moment_of tree a)
      → LeavesOnly (IsStoppedAgain c words.target words.source before n plan) (tree.stops a) (tree.stops b)
  stopped-looks c before n plan stop stands =
      reads-leave tree (IsStoppedAgain c words.target words.source before n plan) a b reads (λ i untouched. subst (IsStoppedAgain c words.target words.source before n plan) (sym (⊎_elim (λ is. is ∙ stands.now) (λ left. stands.left i left) untouched)) (inl stop))

  -- and where it is made again
  pub again-left : (d : F) (c : Contents) (before : ℤ) (n : Needing) (plan : RewindPlan) (stored : StoredPlan) → IsStopped c words.target words.source before n plan (tree.contents a) → StandsSynced (tree.contents a) (moment_of tree a)
      → IsPlacedAt words.target stored.plan → stored_of (tree.contents a) words.target words.source ≡ Ok (Some (said_by stored))
      → ((found e : Contents) → IsResumable found e stored.plan (moment_of tree b) → LeavesOnly (IsOnWayOrFinished found e stored.plan) (tree.stops b) (tree.stops d)) → LeavesOnly (IsStoppedAgain c words.target words.source before n plan) (tree.stops a) (tree.stops d)
  again-left d c before n plan stored stop stands placed found left =
      let said : said_by stored ≡ saying (sum_at c words.source) plan = cc (sym found ∙ stopped-stored c words.target words.source before n plan (tree.contents a) stop) in
      let same : moment_of tree b ≡ moment_of tree a = λ i. record { state = record { contents = reads.same i; calls = reads.uncalled i }; stops = reads.unstopped i } in
      let again = stopped-again c words.target words.source before n plan (tree.contents a) stored (moment_of tree b) stop placed said (subst (StandsSynced (tree.contents a)) (sym same) stands) in
      let whole : Contents = with_whole_mark c plan.text stored.plan in
      subst (λ s. LeavesOnly (IsStoppedAgain c words.target words.source before n plan) s (tree.stops d)) reads.unstopped
      (leaves_weaker (IsOnWayOrFinished c whole stored.plan) (IsStoppedAgain c words.target words.source before n plan) (tree.stops b) (tree.stops d) again.1 (left c whole again.0))

  pub stored-left : (d : F) (stored : StoredPlan) → IsPlacedAt words.target stored.plan → stored_of (tree.contents a) words.target words.source ≡ Ok (Some (said_by stored))
      → LeavesOnly (IsLeftAgain words stored.plan (moment_of tree b)) (tree.stops b) (tree.stops d) → LeavesOnly (IsLeftByResume words now (moment_of tree a)) (tree.stops a) (tree.stops d)
  stored-left d stored placed found left =
      leaves_weaker (IsLeftAgain words stored.plan (moment_of tree a)) (IsLeftByResume words now (moment_of tree a)) (tree.stops a) (tree.stops d)
      (λ c. ⊎_elim (λ untouched. inl untouched) (λ safe. ⊎_elim (λ untouched. inl untouched)
      (λ other. inr (inr (
        said_by stored,
        safe.0,
        found,
        ⊎_elim (λ marked. inl (subst (λ p. IsMarked p c) placed.mark marked))
            (λ done. inr (done ∙ ap (all_changed (tree.contents a)) (changes-as (tree.contents a) words.target stored placed))) other,
      ))) safe.1))
      (reads-on tree (IsLeftAgain words stored.plan) a b d reads left)

-- and what is made again, where no run is dry
pub made-left : (words : RewindWords) (stored : StoredPlan) (first : Moment) (a b : Moment) → words.dry_run ≡ false
    → LeavesOnly (IsSafe stored.plan.mark first (resumed_end first.state.contents stored.plan)) a.stops b.stops → LeavesOnly (IsLeftAgain words stored.plan first) a.stops b.stops
made-left words stored first a b wet left =
    leaves_weaker (IsSafe stored.plan.mark first (resumed_end first.state.contents stored.plan)) (IsLeftAgain words stored.plan first) a.stops b.stops (λ c safe. inr (wet, safe)) left

-- ---- what is asked of what is made again

pub asked-readable : (c mid : Contents) (target source : PathValue) (stored : StoredPlan) → mid ≡ c → AreApart target source → IsStoredBetween target source stored
    → stored_of c target source ≡ Ok (Some (said_by stored)) → AreReadable mid stored.plan.steps.items
asked-readable c mid target source stored same apart between found =
    subst (λ d. AreReadable d stored.plan.steps.items) (sym same) (stored-readable c target source stored apart between (found-of c target source (said_by stored) found).same)

pub asked-marked : (c mid : Contents) (target source : PathValue) (stored : StoredPlan) → mid ≡ c → IsStoredBetween target source stored → stored_of c target source ≡ Ok (Some (said_by stored)) → IsMarked stored.plan.mark mid
asked-marked c mid target source stored same between found =
    let P : Contents → PathValue → Type 0 = λ d p. IsMarked p d in
    subst (λ d. P d stored.plan.mark) (sym same) (subst (P c) (sym between.placed.mark) (found-of c target source (said_by stored) found).marked)

-- ---- no count falls

same_count : (n : ℕ) → n ≤ n
same_count n = grind arith

pub blames-on : {F : Type 0} (tree : Ghosts F) (a b : F) {ended : Cause} {r w o o' e e' : ℕ} → Reads tree a b → Blames ended (tree.failed_reads b) r (tree.failed_changes b) w o o' e e' → Blames ended (tree.failed_reads a) r (tree.failed_changes a) w o o' e e'
blames-on tree a b {ended} {r} {w} {o} {o'} {e} {e'} reads blames =
    let P : ℕ → Type 0 = λ n. Blames ended (tree.failed_reads a) r n w o o' e e' in
    subst P reads.changes (blames_after_reads reads.reads (same_count (tree.failed_changes b)) blames)

-- ---- what was found under another name, as it is seen which one it is

pub exact_as : {r : Result (Option Saying) ResumeFault} {found found' : Option StoredPlan} → found ≡ found' → r ≡ Ok (option_map said_by found) → r ≡ Ok (option_map said_by found')
exact_as same is = is ∙ ap (λ o. Ok (option_map said_by o)) same

pub made_as : (target source : PathValue) {found found' : Option StoredPlan} → found ≡ found' → IsBetween target source found → IsBetween target source found'
made_as target source same is = subst (IsBetween target source) same is
