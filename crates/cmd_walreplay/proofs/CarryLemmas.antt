-- How a replay is carried out, from what its calls left.
use Rattle.std.proofs.Common.{Option, ◌≡◌, ◌≢◌, ◌∙◌, ◌⊎◌, ◌++◌, ℕ, Bool, true, false, IsTrue, List, [], ◌∷◌, inl, inr, refl, sym, ap, subst, append-nil, Result, Ok, Err, OnOk, OnErr, IfErr}
use Rattle.rmgr_hooks.specs.Custom.{Extension}
use Rattle.cluster_tree.specs.Causes.{given}
use Rattle.cluster_tree.specs.Contents.{Contents}
use Rattle.cluster_tree.specs.PathValue.{PathValue}
use Rattle.cluster_tree.specs.Run.{State}
use Rattle.cluster_tree.specs.declared.tree.ChangeCall.{ChangeCall}
use Rattle.commands.specs.declared.walreplay.WalreplayWords.{WalreplayWords}
use Rattle.replay_start.specs.Checked.{Start, start_of}
use Rattle.replay_start.specs.declared.fault.ReplayFault.{ReplayFault}
use Rattle.replay_start.specs.declared.fault.ReplayFault.TheVariants as fault
use Rattle.replay_core.specs.Faults.{IsFree as IsFreeFault}
use Rattle.replay_core.specs.Replayed.{After, after_replay, first_world, replayed_into}
use Rattle.replay_core.specs.Went.{IsAfter, IsCause}
use Rattle.replay_core.specs.Within.{StaysWithin}
use Rattle.replay_core.specs.declared.outcome.Replayed.{Replayed}
use Rattle.acts.specs.Acts.{Breaks, Changes, Performs, Puts, Refused, Sunk, ends, seen}
use Rattle.acts.proofs.ActSteps.{look_goes_on, within_breaks, within_goes_on}
use Rattle.run_acts.specs.Answers.{Carries, does, refused}
use Rattle.run_acts.specs.Causes.{IsFree, IsOfLook, cause_of, ending_of}
use Rattle.run_acts.specs.Unseen.{CarriesUnseen}
use Rattle.run_acts.specs.declared.cause.Cause.{Cause}
use Rattle.run_acts.specs.declared.cause.Cause.TheVariants as cause
use Rattle.run_acts.proofs.AnswerSteps.{IsBreak, break_ends, break_free, carries_look, carries_refused, last_exact, last_print, unfree}
use Rattle.run_acts.proofs.UnseenSteps.{still, unseen_seen}
use Rattle.cmd_walreplay.specs.Walreplay.{IsWalreplay, LeavesReplayed, after_line, begun_answer, broken, checked_answer, done_acts, replay_cause, replayed_line, walreplay_answer}
use Rattle.cmd_walreplay.proofs.FormLemmas.{answer-form, answer-looks}

-- ---- changes below the root

abbrev state : Contents → List ChangeCall → State
state c k = record { contents = c; calls = k }

changes_of : (root : PathValue) (c c' : Contents) (k k' : List ChangeCall) (out err : Sunk) → StaysWithin root (state c k) (state c' k') → Changes (root ∷ []) (seen c k out err) (seen c' k' out err)
changes_of root c c' k k' out err stays = record {
  made = stays.made;
  grew = stays.grew;
  below = stays.within;
  elsewhere = λ path apart. stays.elsewhere path (λ holds. apart (inl holds));
}

unchanged : (roots : List PathValue) (d : Contents) (j : List ChangeCall) (out err : Sunk) → Changes roots (seen d j out err) (seen d j out err)
unchanged roots d j out err = record { made = []; grew = sym (append-nil j); below = tt; elsewhere = λ path apart. refl }

-- ---- what is meant

-- no record was replayed
abbrev none_of : Contents → After
none_of d = record { files = d; records = 0; end = 0; tli = 0 }

-- what was told, as what is left
abbrev after_of : Contents → Replayed → After
after_of files told = record { files = files; records = told.records; end = told.end.0; tli = told.tli }

abbrev begun_from : Option Extension → Contents → PathValue → Start → Result After ReplayFault
begun_from custom c root s = replayed_into custom root s (first_world c root s)

after_start : (custom : Option Extension) (c : Contents) (root : PathValue) (r : Result Start ReplayFault) → start_of custom c root ≡ r → after_replay custom c root ≡ given r (begun_from custom c root)
unfolding after_replay
after_start custom c root r is = ap (λ x. given x (begun_from custom c root)) is

answer_start : (custom : Option Extension) (c : Contents) (words : WalreplayWords) (r : Result Start ReplayFault) → start_of custom c words.root ≡ r → walreplay_answer custom c words ≡ checked_answer custom c words r
answer_start custom c words r is = ap (checked_answer custom c words) is

-- a replay that is done is what is meant
answer_done : (custom : Option Extension) (c : Contents) (words : WalreplayWords) (a : After) (r : Result Start ReplayFault) → start_of custom c words.root ≡ r → after_replay custom c words.root ≡ Ok a → does (done_acts words a.files (after_line a)) ≡ walreplay_answer custom c words
answer_done custom c words a (Err f) is meant = absurd (cc (sym (after_start custom c words.root (Err f) is) ∙ meant))
answer_done custom c words a (Ok s) is meant = sym (answer_start custom c words (Ok s) is ∙ ap (begun_answer words) (sym (after_start custom c words.root (Ok s) is) ∙ meant))

same_line : (c : Contents) (meant : Result After ReplayFault) (told : Replayed) (is : IsAfter meant told c) → after_line (after_of c told) ≡ after_line is.after
same_line c meant told is = ap (λ n. replayed_line n told.end.0 told.tli) is.records ∙ ap (λ n. replayed_line is.after.records n told.tli) is.end ∙ ap (λ n. replayed_line is.after.records is.after.end n) is.tli

done_meant : (custom : Option Extension) (c c' : Contents) (words : WalreplayWords) (told : Replayed) → IsAfter (after_replay custom c words.root) told c' → does (done_acts words c' (after_line (after_of c' told))) ≡ walreplay_answer custom c words
done_meant custom c c' words told is =
    ap (λ x. does (done_acts words x (after_line (after_of c' told)))) is.files_are
    ∙ ap (λ l. does (done_acts words is.after.files l)) (same_line c' (after_replay custom c words.root) told is)
    ∙ answer_done custom c words is.after (start_of custom c words.root) refl is.is

pub leaves_replayed : (custom : Option Extension) {text : List ℕ} (out out' : Sunk) (tells : Bool) (c c' : Contents) (words : WalreplayWords) (told : Replayed) (r : Result (Unit {0}) Cause) → IsAfter (after_replay custom c words.root) told c'
    → OnOk r (Puts tells text out out') → text ≡ after_line (after_of c' told) → OnOk r (LeavesReplayed custom words tells c c' out.text out'.text)
leaves_replayed custom out out' tells c c' words told (Ok u) is puts line = record {
  after = is.after;
  meant = is.is;
  files = is.files_are;
  told = λ t. puts.added t ∙ ap (λ l. out.text ++ l) (line ∙ same_line c' (after_replay custom c words.root) told is);
}
leaves_replayed custom out out' tells c c' words told (Err e) is puts line = tt

-- ---- causes

-- a replay breaks off, or is refused
breaks_or_refused : (f : ReplayFault) → IsOfLook (replay_cause f) ⊎ (f ≡ fault.WriteFault) → IsBreak (replay_cause f) ⊎ (ending_of (replay_cause f) ≡ Refused)
breaks_or_refused f (inl (inl is)) = inl (inr (inl is))
breaks_or_refused f (inl (inr (inl is))) = inl (inr (inr is))
breaks_or_refused f (inl (inr (inr is))) = inr is
breaks_or_refused f (inr is) = inl (inl (ap replay_cause is))

free_cause : (f : ReplayFault) → IsFreeFault f → IsFree (replay_cause f)
free_cause f (inl is) = inl (ap replay_cause is)
free_cause f (inr (inl is)) = inr (inl (ap replay_cause is))
free_cause f (inr (inr (inl is))) = inr (inr (inr (ap replay_cause is)))
free_cause f (inr (inr (inr none))) = absurd none

-- the cause under its own name
pub looks_by : (f : ReplayFault) (why : Cause) → why ≡ replay_cause f → IsOfLook why ⊎ (f ≡ fault.WriteFault) → IsOfLook (replay_cause f) ⊎ (f ≡ fault.WriteFault)
looks_by f why is looks = subst (λ x. IsOfLook x ⊎ (f ≡ fault.WriteFault)) is looks

of_look : (f : ReplayFault) → IsOfLook (replay_cause f) ⊎ (f ≡ fault.WriteFault) → f ≢ fault.WriteFault → IsOfLook (replay_cause f)
of_look f (inl looks) other = looks
of_look f (inr is) other = absurd (other is)

-- what a refusal before the first change is meant to be
refused_first : (custom : Option Extension) (c : Contents) (words : WalreplayWords) (f g : ReplayFault) → start_of custom c words.root ≡ Err g → IsCause (after_replay custom c words.root) f → IsFree (replay_cause f) ⊎ (walreplay_answer custom c words ≡ refused (replay_cause f))
refused_first custom c words f g is (inl free) = inl (free_cause f free)
refused_first custom c words f g is (inr meant) =
    let both : ◌≡◌ {A = Result After ReplayFault} (Err g) (Err f) = sym (after_start custom c words.root (Err g) is) ∙ meant in
    let same : g ≡ f = cc both in
    inr (answer_start custom c words (Err g) is ∙ ap (λ x. refused (replay_cause x)) same)

-- and one behind it
refused_later : (custom : Option Extension) (c : Contents) (words : WalreplayWords) (f : ReplayFault) (s : Start) → start_of custom c words.root ≡ Ok s → ending_of (replay_cause f) ≡ Refused → IsCause (after_replay custom c words.root) f → broken words (replay_cause f) ≡ walreplay_answer custom c words
refused_later custom c words f s is ending (inl free) = absurd (unfree (replay_cause f) ending (free_cause f free))
refused_later custom c words f s is ending (inr meant) = sym (answer_start custom c words (Ok s) is ∙ ap (begun_answer words) (sym (after_start custom c words.root (Ok s) is) ∙ meant))

-- what is known of a fault of a replay
pub record Faults (custom : Option Extension) (tells : Bool) (words : WalreplayWords) (c c' : Contents) (k k' : List ChangeCall) (f : ReplayFault) : Type 0 where
  pub looks : IsOfLook (replay_cause f) ⊎ (f ≡ fault.WriteFault)
  pub meant : IsTrue tells → IsCause (after_replay custom c words.root) f
  pub within : IsTrue tells → StaysWithin words.root (state c k) (state c' k')
  pub checked : IsTrue tells → (g : ReplayFault) → start_of custom c words.root ≡ Err g → state c' k' ≡ state c k
  pub unwritten : IsTrue tells → (g : ReplayFault) → start_of custom c words.root ≡ Err g → f ≢ fault.WriteFault

-- ---- how it is carried out

module _ (custom : Option Extension) {o e : Bool} (words : WalreplayWords) (c c' : Contents) (k k' : List ChangeCall) {out err : Sunk} where
  -- all was replayed, and then it was told
  pub replay_told : (tells : Bool) {out' : Sunk} {text : List ℕ} (told : Replayed) (r : Result (Unit {0}) Cause) → (IsTrue tells → IsAfter (after_replay custom c words.root) told c')
      → (IsTrue tells → StaysWithin words.root (state c k) (state c' k')) → OnOk r (Puts o text out out') → OnErr r (Breaks o text out out') → IfErr r (λ x. x ≡ cause.SinkFault) → text ≡ after_line (after_of c' told)
      → CarriesUnseen (IsTrue tells) (IsTrue tells) (walreplay_answer custom c words) (IsWalreplay words) o e (cause_of r) (seen c k out err) (seen c' k' out' err)
  replay_told true told r meant within puts breaks only is = unseen_seen refl (record {
    answer = does (done_acts words c' (after_line (after_of c' told)));
    known = λ t. done_meant custom c c' words told (meant refl);
    form = inl (c', after_of c' told, refl);
    exact = last_exact r only;
    acts = look_goes_on (within_goes_on (changes_of words.root c c' k k' out err (within refl)) refl (last_print r puts breaks only is));
  })
  replay_told false told r meant within puts breaks only is = record {
    from = λ d j own. record {
      after = still d j (λ t. cc);
      carries = record {
        answer = does (done_acts words d (after_line (after_of c' told)));
        known = λ t. cc;
        form = inl (d, after_of c' told, refl);
        exact = last_exact r only;
        acts = look_goes_on (within_goes_on (unchanged (words.root ∷ []) d j out err) refl (last_print r puts breaks only is));
      };
    };
  }

  -- it was refused, or broke off, before the first change
  first_faulted : (f g : ReplayFault) → start_of custom c words.root ≡ Err g → Faults custom true words c c' k k' f
      → Carries (IsTrue true) (walreplay_answer custom c words) (IsWalreplay words) o e (replay_cause f) (seen c k out err) (seen c' k' out err)
  first_faulted f g is faults =
      let looks = of_look f faults.looks (faults.unwritten refl g is) in
      let same = faults.checked refl g is in
      carries_look (replay_cause f) (answer-form custom c words) (answer-looks custom c words) (inr (inl (replay_cause f, looks, refl))) looks (λ t. refused_first custom c words f g is (faults.meant refl))
      (ap (λ (x : State). x.contents) same) (ap (λ (x : State). x.calls) same)

  begun_breaks : (ended : Cause) (r : Result After ReplayFault) → IsBreak ended → Changes (words.root ∷ []) (seen c k out err) (seen c' k' out err) → Performs o e (ending_of ended) ((begun_answer words r).acts) (seen c k out err) (seen c' k' out err)
  begun_breaks ended (Ok a) is changes = look_goes_on (within_breaks (break_ends is) changes)
  begun_breaks ended (Err g) is changes = look_goes_on (within_breaks (break_ends is) changes)

  -- it was refused, or broke off, once that may have come
  later_faulted : (f : ReplayFault) (s : Start) → start_of custom c words.root ≡ Ok s → Faults custom true words c c' k k' f → IsBreak (replay_cause f) ⊎ (ending_of (replay_cause f) ≡ Refused)
      → Carries (IsTrue true) (walreplay_answer custom c words) (IsWalreplay words) o e (replay_cause f) (seen c k out err) (seen c' k' out err)
  later_faulted f s is faults (inl breaks) = record {
    answer = begun_answer words (begun_from custom c words.root s);
    known = λ t. sym (answer_start custom c words (Ok s) is);
    form = subst (IsWalreplay words) (answer_start custom c words (Ok s) is) (answer-form custom c words);
    exact = inl (break_free breaks);
    acts = begun_breaks (replay_cause f) (begun_from custom c words.root s) breaks (changes_of words.root c c' k k' out err (faults.within refl));
  }
  later_faulted f s is faults (inr refuses) =
      let meant = refused_later custom c words f s is refuses (faults.meant refl) in
      record {
        answer = broken words (replay_cause f);
        known = λ t. meant;
        form = subst (IsWalreplay words) (sym meant) (answer-form custom c words);
        exact = inr refl;
        acts = look_goes_on (within_goes_on (changes_of words.root c c' k k' out err (faults.within refl)) tt (ends (inr refuses)));
      }

  faulted : (f : ReplayFault) (r : Result Start ReplayFault) → start_of custom c words.root ≡ r → Faults custom true words c c' k k' f
      → Carries (IsTrue true) (walreplay_answer custom c words) (IsWalreplay words) o e (replay_cause f) (seen c k out err) (seen c' k' out err)
  faulted f (Ok s) is faults = later_faulted f s is faults (breaks_or_refused f faults.looks)
  faulted f (Err g) is faults = first_faulted f g is faults

  -- the tree doesn't tell, so it may have stayed as it was
  untold : (f : ReplayFault) → IsBreak (replay_cause f) ⊎ (ending_of (replay_cause f) ≡ Refused)
      → CarriesUnseen (IsTrue false) (IsTrue false) (walreplay_answer custom c words) (IsWalreplay words) o e (replay_cause f) (seen c k out err) (seen c' k' out err)
  untold f (inl breaks) = record {
    from = λ d j own. record {
      after = still d j (λ t. cc);
      carries = record {
        answer = does (done_acts words d (after_line (none_of d)));
        known = λ t. cc;
        form = inl (d, none_of d, refl);
        exact = inl (break_free breaks);
        acts = look_goes_on (within_breaks (break_ends breaks) (unchanged (words.root ∷ []) d j out err));
      };
    };
  }
  untold f (inr refuses) = record {
    from = λ d j own. record {
      after = still d j (λ t. cc);
      carries = carries_refused (replay_cause f) refuses (λ t. cc) (inr (inl (replay_cause f, inr (inr refuses), refl))) refl refl;
    };
  }

  pub replay_faulted : (tells : Bool) (f : ReplayFault) → Faults custom tells words c c' k k' f
      → CarriesUnseen (IsTrue tells) (IsTrue tells) (walreplay_answer custom c words) (IsWalreplay words) o e (replay_cause f) (seen c k out err) (seen c' k' out err)
  replay_faulted true f faults = unseen_seen refl (faulted f (start_of custom c words.root) refl faults)
  replay_faulted false f faults = untold f (breaks_or_refused f faults.looks)
