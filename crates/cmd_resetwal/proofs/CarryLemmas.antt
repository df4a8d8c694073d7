-- How a reset is carried out, from what its calls left.
use Rattle.std.proofs.Common.{◌≡◌, ◌≢◌, ◌∙◌, ◌⊎◌, ℕ, ℤ, Bool, true, false, IsTrue, is_some, List, [], ◌∷◌, map, inl, inr, refl, sym, ap, subst, Result, Ok, Err, OnOk, OnErr, IfErr}
use Rattle.std.specs.Prelude.{if◌then◌else◌}
use Rattle.cluster_tree.specs.Change.{all_changed, call_of}
use Rattle.cluster_tree.specs.Contents.{Contents}
use Rattle.cluster_tree.specs.Frame.{moment_of}
use Rattle.cluster_tree.specs.PathValue.{PathValue}
use Rattle.cluster_tree.specs.Stops.{LeavesOnly}
use Rattle.cluster_tree.specs.declared.tree.Tree.{Ghosts}
use Rattle.cluster_tree.specs.declared.tree.ChangeCall.{ChangeCall}
use Rattle.clusters.specs.declared.fault.ClusterFault.{ClusterFault}
use Rattle.clusters.specs.declared.fault.ClusterFault.TheVariants as cluster
use Rattle.commands.specs.declared.resetwal.ResetwalWords.{ResetwalWords}
use Rattle.control_file.specs.Text.{control_text_of}
use Rattle.control_file.specs.declared.control.Control.{Control}
use Rattle.marked_runs.specs.Runs.{Runs}
use Rattle.reset_plan.specs.Prepared.{IsOfNames}
use Rattle.reset_plan.specs.Reset.{Reset, control_told, reset_of}
use Rattle.reset_plan.specs.ResetFaults.{IsFree as IsFreeFault, changed_at}
use Rattle.reset_plan.specs.declared.fault.ResetFault.{ResetFault}
use Rattle.reset_plan.specs.declared.fault.ResetFault.TheVariants as fault
use Rattle.acts.specs.Acts.{Print, Do, IsAfterChange, Seen, Sunk, seen, Puts, Breaks, Performs}
use Rattle.acts.proofs.ActSteps.{do_breaks, do_goes_on, look_goes_on}
use Rattle.run_acts.specs.Answers.{Answer, Carries, does, refused}
use Rattle.run_acts.specs.Causes.{IsFree, IsOfLook, cause_of, ending_of}
use Rattle.run_acts.specs.Unseen.{CarriesUnseen}
use Rattle.run_acts.specs.declared.cause.Cause.{Cause}
use Rattle.run_acts.specs.declared.cause.Cause.TheVariants as cause
use Rattle.run_acts.proofs.AnswerSteps.{carries_look, carries_refused, last_exact, last_print}
use Rattle.run_acts.proofs.MadeSteps.{made_all, made_in_part}
use Rattle.run_acts.proofs.UnseenSteps.{still, unseen_still}
use Rattle.cluster_causes.specs.Clusters.{cluster_cause}
use Rattle.cluster_causes.proofs.CauseLemmas.{cluster_looks}
use Rattle.cmd_resetwal.specs.Resetwal.{IsLeftByReset, IsResetwal, done_line, reset_acts, reset_cause, resetwal_answer, told_answer}
use Rattle.cmd_resetwal.proofs.FormLemmas.{answer-form, answer-looks}

-- ---- what the faults of a reset say

-- a fault of the device or want of memory stays one
free_cause : (f : ResetFault) → IsFreeFault f → IsFree (reset_cause f)
free_cause f (inl is) = inl (ap reset_cause is)
free_cause f (inr (inl is)) = inr (inl (ap reset_cause is))
free_cause f (inr (inr is)) = inr (inr (inr (ap reset_cause is)))

told_refused : (c : Contents) (words : ResetwalWords) (r : Result Reset ResetFault) (f : ResetFault) → control_told r ≡ Err f → told_answer c words r ≡ refused (reset_cause f)
told_refused c words (Ok reset) f is = absurd (cc is)
told_refused c words (Err g) f is = let same : g ≡ f = cc is in ap (λ x. refused (reset_cause x)) same

pub refused_so : (c : Contents) (words : ResetwalWords) (now : ℤ) (f : ResetFault) → IsFreeFault f ⊎ (control_told (reset_of c words.root words.options now) ≡ Err f)
    → IsFree (reset_cause f) ⊎ (resetwal_answer c words now ≡ refused (reset_cause f))
refused_so c words now f (inl free) = inl (free_cause f free)
refused_so c words now f (inr is) = inr (told_refused c words (reset_of c words.root words.options now) f is)

-- ---- the time under another name

pub form_at : (words : ResetwalWords) {n m : ℤ} {answer : Answer} → n ≡ m → IsResetwal words n answer → IsResetwal words m answer
form_at words {answer = answer} is form = subst (λ x. IsResetwal words x answer) is form

module _ (c : Contents) (words : ResetwalWords) {n m : ℤ} where
  pub carried_at : {Known : Type 0} {o e : Bool} {ended : Cause} {s u : Seen} → n ≡ m → Carries Known (resetwal_answer c words n) (IsResetwal words n) o e ended s u → Carries Known (resetwal_answer c words m) (IsResetwal words m) o e ended s u
  carried_at {Known} {o} {e} {ended} {s} {u} is p = subst (λ x. Carries Known (resetwal_answer c words x) (IsResetwal words x) o e ended s u) is p

  pub unseen_at : {Seeing Known : Type 0} {o e : Bool} {ended : Cause} {s u : Seen} → n ≡ m → CarriesUnseen Seeing Known (resetwal_answer c words n) (IsResetwal words n) o e ended s u → CarriesUnseen Seeing Known (resetwal_answer c words m) (IsResetwal words m) o e ended s u
  unseen_at {Seeing} {Known} {o} {e} {ended} {s} {u} is p = subst (λ x. CarriesUnseen Seeing Known (resetwal_answer c words x) (IsResetwal words x) o e ended s u) is p

pub left_at : {F : Type 0} (tree : Ghosts F) (words : ResetwalWords) {n m : ℤ} → n ≡ m → (a b : F) → LeavesOnly (IsLeftByReset words n (moment_of tree a)) (tree.stops a) (tree.stops b) → LeavesOnly (IsLeftByReset words m (moment_of tree a)) (tree.stops a) (tree.stops b)
left_at tree words is a b left = subst (λ n. LeavesOnly (IsLeftByReset words n (moment_of tree a)) (tree.stops a) (tree.stops b)) is left

-- ---- a dry run

dry_acts : (c : Contents) (words : ResetwalWords) (reset : Reset) → is_some words.options.dry ≡ true → reset_acts c words reset ≡ Print (control_text_of reset.control) ∷ []
dry_acts c words reset dry =
    ap (λ b. if b then Print (control_text_of reset.control) ∷ [] else Do (map call_of reset.changes) (all_changed c reset.changes) ∷ Print done_line ∷ []) dry

-- the text is that of the control file that was answered
text_acts : (c : Contents) (words : ResetwalWords) (reset : Reset) (control : Control) (text : List ℕ) → is_some words.options.dry ≡ true → control ≡ reset.control → text ≡ control_text_of control
    → does (Print text ∷ []) ≡ does (reset_acts c words reset)
text_acts c words reset control text dry same made = ap (λ t. does (Print t ∷ [])) (made ∙ ap control_text_of same) ∙ sym (ap does (dry_acts c words reset dry))

pub dry_form : (c : Contents) (words : ResetwalWords) (now : ℤ) (reset : Reset) (control : Control) (text : List ℕ) → is_some words.options.dry ≡ true → IsOfNames words.root words.options now reset → control ≡ reset.control → text ≡ control_text_of control
    → IsResetwal words now (does (Print text ∷ []))
dry_form c words now reset control text dry made same is = inl (record { reset = reset; made = made; contents = c; is = text_acts c words reset control text dry same is })

pub dry_answer : (c : Contents) (words : ResetwalWords) (now : ℤ) (reset : Reset) (control : Control) (text : List ℕ) → is_some words.options.dry ≡ true → reset_of c words.root words.options now ≡ Ok reset → control ≡ reset.control → text ≡ control_text_of control
    → does (Print text ∷ []) ≡ resetwal_answer c words now
dry_answer c words now reset control text dry meant same is = text_acts c words reset control text dry same is ∙ sym (ap (told_answer c words) meant)

-- ---- a reset that is made

wet_acts : (c : Contents) (words : ResetwalWords) (reset : Reset) → is_some words.options.dry ≡ false → Do (map call_of reset.changes) (all_changed c reset.changes) ∷ Print done_line ∷ [] ≡ reset_acts c words reset
wet_acts c words reset wet =
    sym (ap (λ b. if b then Print (control_text_of reset.control) ∷ [] else Do (map call_of reset.changes) (all_changed c reset.changes) ∷ Print done_line ∷ []) wet)

after_change : (r : Result (Unit {0}) Cause) → IfErr r (λ x. x ≡ cause.SinkFault) → IsAfterChange (ending_of (cause_of r))
after_change (Ok u) only = tt
after_change (Err e) only = subst (λ x. IsAfterChange (ending_of x)) (sym only) tt

meant_acts : {tells : Bool} (c d : Contents) (words : ResetwalWords) (now : ℤ) (reset : Reset) → (IsTrue tells → d ≡ c) → (IsTrue tells → reset_of c words.root words.options now ≡ Ok reset) → IsTrue tells → does (reset_acts d words reset) ≡ resetwal_answer c words now
meant_acts c d words now reset own meant t = ap (λ x. does (reset_acts x words reset)) (own t) ∙ sym (ap (told_answer c words) (meant t))

-- what is known of a fault of a reset
pub record Faults (tells : Bool) (words : ResetwalWords) (now : ℤ) (c c' : Contents) (k k' : List ChangeCall) (f : ResetFault) : Type 0 where
  pub passes : IsTrue tells → IsFreeFault f ⊎ (control_told (reset_of c words.root words.options now) ≡ Err f)
  pub never : IsTrue tells → (p : PathValue) → f ≢ changed_at p
  pub still : f ≢ fault.WriteFault → ((p : PathValue) → f ≢ changed_at p) → (c' ≡ c) × (k' ≡ k)
  pub form : f ≡ fault.WriteFault → (reset : Reset) × IsOfNames words.root words.options now reset × (IsTrue tells → reset_of c words.root words.options now ≡ Ok reset)
  pub ran : (reset : Reset) → IsTrue tells → reset_of c words.root words.options now ≡ Ok reset → Runs reset.changes k k' c c' false

module _ (tells : Bool) {o e : Bool} (words : ResetwalWords) (now : ℤ) (c c' : Contents) (k k' : List ChangeCall) {out err : Sunk} where
  -- all its changes were made, and then it was told
  pub reset_told : {out' : Sunk} (reset : Reset) (r : Result (Unit {0}) Cause) {text : List ℕ} → is_some words.options.dry ≡ false → IsOfNames words.root words.options now reset → (IsTrue tells → reset_of c words.root words.options now ≡ Ok reset)
      → (IsTrue tells → Runs reset.changes k k' c c' true) → OnOk r (Puts o text out out') → OnErr r (Breaks o text out out') → IfErr r (λ x. x ≡ cause.SinkFault) → text ≡ done_line
      → CarriesUnseen (IsTrue tells) (IsTrue tells) (resetwal_answer c words now) (IsResetwal words now) o e (cause_of r) (seen c k out err) (seen c' k' out' err)
  reset_told {out'} reset r wet made meant ran puts breaks only is = record {
    from = λ d j own.
        let q = made_all tells reset.changes c c' d k k' j own ran in
        record {
          after = still q.contents q.calls q.own;
          carries = record {
            answer = does (reset_acts d words reset);
            known = meant_acts c d words now reset (λ t. (own t).0) meant;
            form = inl (record { reset = reset; made = made; contents = d; is = refl });
            exact = last_exact r only;
            acts = look_goes_on (subst (λ acts. Performs o e (ending_of (cause_of r)) acts (seen d j out err) (seen q.contents q.calls out' err)) (wet_acts d words reset wet)
                (do_goes_on q.makes q.after (after_change r only) (last_print r puts breaks only is)));
          };
        };
  }

  -- a change failed
  reset_begun : (reset : Reset) (done : Bool) → is_some words.options.dry ≡ false → IsOfNames words.root words.options now reset → (IsTrue tells → reset_of c words.root words.options now ≡ Ok reset)
      → (IsTrue tells → Runs reset.changes k k' c c' done)
      → CarriesUnseen (IsTrue tells) (IsTrue tells) (resetwal_answer c words now) (IsResetwal words now) o e cause.WriteFault (seen c k out err) (seen c' k' out err)
  reset_begun reset done wet made meant ran = record {
    from = λ d j own.
        let q = made_in_part tells reset.changes c c' d k k' j done own ran in
        record {
          after = still q.contents q.calls q.own;
          carries = record {
            answer = does (reset_acts d words reset);
            known = meant_acts c d words now reset (λ t. (own t).0) meant;
            form = inl (record { reset = reset; made = made; contents = d; is = refl });
            exact = inl (inr (inl refl));
            acts = look_goes_on (subst (λ acts. Performs o e (ending_of cause.WriteFault) acts (seen d j out err) (seen q.contents q.calls out err)) (wet_acts d words reset wet)
                (do_breaks (inl refl) q.begins));
          };
        };
  }

  -- the tree contradicted itself, so it doesn't tell
  reset_changed : (p : PathValue) → (IsTrue tells → ⊥)
      → CarriesUnseen (IsTrue tells) (IsTrue tells) (resetwal_answer c words now) (IsResetwal words now) o e (cause.Changed p) (seen c k out err) (seen c' k' out err)
  reset_changed p untold = record {
    from = λ d j own. record {
      after = still d j (λ t. absurd (untold t));
      carries = carries_refused (cause.Changed p) refl (λ t. absurd (untold t)) (inr (cause.Changed p, inr (inr refl), refl)) refl refl;
    };
  }

  -- it was refused, or broke off, while the command looked
  reset_refused : (why : Cause) → IsOfLook why → (IsTrue tells → IsFree why ⊎ (resetwal_answer c words now ≡ refused why)) → c' ≡ c → k' ≡ k
      → CarriesUnseen (IsTrue tells) (IsTrue tells) (resetwal_answer c words now) (IsResetwal words now) o e why (seen c k out err) (seen c' k' out err)
  reset_refused why looks passes ci ki =
      unseen_still ci ki (λ d j. carries_look why (answer-form c words now) (answer-looks c words now) (inr (why, looks, refl)) looks passes refl refl)

  looked : (f : ResetFault) → IsOfLook (reset_cause f) → f ≢ fault.WriteFault → ((p : PathValue) → f ≢ changed_at p) → Faults tells words now c c' k k' f
      → CarriesUnseen (IsTrue tells) (IsTrue tells) (resetwal_answer c words now) (IsResetwal words now) o e (reset_cause f) (seen c k out err) (seen c' k' out err)
  looked f looks other none faults = reset_refused (reset_cause f) looks (λ t. refused_so c words now f (faults.passes t)) (faults.still other none).0 (faults.still other none).1

  broken : Faults tells words now c c' k k' fault.WriteFault → is_some words.options.dry ≡ false
      → CarriesUnseen (IsTrue tells) (IsTrue tells) (resetwal_answer c words now) (IsResetwal words now) o e cause.WriteFault (seen c k out err) (seen c' k' out err)
  broken faults wet =
      let (reset, made, meant) = faults.form refl in
      reset_begun reset false wet made meant (λ t. faults.ran reset t (meant t))

  -- of a cluster, which changes nothing
  clustered : (f : ClusterFault) → Faults tells words now c c' k k' (fault.Cluster f)
      → CarriesUnseen (IsTrue tells) (IsTrue tells) (resetwal_answer c words now) (IsResetwal words now) o e (cluster_cause f) (seen c k out err) (seen c' k' out err)
  clustered (cluster.Changed path) faults = reset_changed path (λ t. faults.never t path refl)
  clustered f faults = looked (fault.Cluster f) (cluster_looks f) (λ is. cc) (λ p is. cc) faults

  pub reset_faulted : (f : ResetFault) → is_some words.options.dry ≡ false → Faults tells words now c c' k k' f
      → CarriesUnseen (IsTrue tells) (IsTrue tells) (resetwal_answer c words now) (IsResetwal words now) o e (reset_cause f) (seen c k out err) (seen c' k' out err)
  reset_faulted (fault.Cluster f) wet faults = clustered f faults
  reset_faulted (fault.NotFolder path) wet faults = looked (fault.NotFolder path) (inr (inr refl)) (λ is. cc) (λ p is. cc) faults
  reset_faulted (fault.BadSegment path) wet faults = looked (fault.BadSegment path) (inr (inr refl)) (λ is. cc) (λ p is. cc) faults
  reset_faulted (fault.NotClean root n) wet faults = looked (fault.NotClean root n) (inr (inr refl)) (λ is. cc) (λ p is. cc) faults
  reset_faulted (fault.Link path) wet faults = looked (fault.Link path) (inr (inr refl)) (λ is. cc) (λ p is. cc) faults
  reset_faulted (fault.KindsDiffer path) wet faults = looked (fault.KindsDiffer path) (inr (inr refl)) (λ is. cc) (λ p is. cc) faults
  reset_faulted (fault.NameNotText path) wet faults = looked (fault.NameNotText path) (inr (inr refl)) (λ is. cc) (λ p is. cc) faults
  reset_faulted fault.WriteFault wet faults = broken faults wet
