-- How what pair does is carried out.
use Rattle.std.proofs.Common.{◌≡◌, ◌∙◌, ◌⊎◌, ◌++◌, ℕ, Bool, true, false, IsTrue, List, None, Result, Ok, Err, OnOk, OnErr, IfErr, inl, inr, refl, sym, ap, subst}
use Rattle.acts.specs.Acts.{Breaks, Puts, Sunk, Seen, seen}
use Rattle.acts.proofs.ActSteps.{look_goes_on, within_breaks, within_goes_on}
use Rattle.cluster_tree.specs.Contents.{Contents}
use Rattle.cluster_tree.specs.PathValue.{PathValue}
use Rattle.cluster_tree.specs.declared.tree.ChangeCall.{ChangeCall}
use Rattle.commands.specs.declared.pair.PairWords.{PairWords}
use Rattle.pair_maker.specs.Pair.{StaysBeside}
use Rattle.run_acts.specs.Answers.{does, refused}
use Rattle.run_acts.specs.Causes.{IsFree, IsOfLook, cause_of, ending_of}
use Rattle.run_acts.specs.Unseen.{CarriesUnseen}
use Rattle.run_acts.specs.declared.cause.Cause.{Cause}
use Rattle.run_acts.specs.declared.cause.Cause.TheVariants as cause
use Rattle.run_acts.proofs.AnswerSteps.{IsBreak, break_ends, break_free, carries_look, carries_refused, last_exact, last_print}
use Rattle.run_acts.proofs.UnseenSteps.{still, unseen_seen, unseen_still}
use Rattle.run_acts.proofs.WithinSteps.{none-within}
use Rattle.cmd_pair.specs.Pair.{IsPair, pair_acts, pair_answer, pair_line, places, room_answer, room_refusal}
use Rattle.cmd_pair.specs.Stays.{StaysInPair}
use Rattle.cmd_pair.specs.Tried.{IsOfTrial, IsTriedPair, LeavesPair}
use Rattle.cmd_pair.proofs.FormLemmas.{answer-form, answer-looks}
use Rattle.cmd_pair.proofs.StayLemmas.{changes_of, state}

-- what may come once changes were begun breaks them off, or is what the tree contradicted
breaks_or_changed : (e : Cause) → IsOfTrial e → IsBreak e ⊎ ((path : PathValue) × (e ≡ cause.Changed path))
breaks_or_changed e (inl is) = inl (inr (inl is))
breaks_or_changed e (inr (inl is)) = inl (inl is)
breaks_or_changed e (inr (inr (inl is))) = inl (inr (inr is))
breaks_or_changed e (inr (inr (inr is))) = inr is

module _ {o e : Bool} (words : PairWords) (c c' : Contents) (k k' : List ChangeCall) {out err : Sunk} where
  -- the pair was tried, and then it was told
  pub tried-told : (tells : Bool) {out' : Sunk} {text : List ℕ} (r : Result (Unit {0}) Cause) → (IsTrue tells → room_refusal c words.root ≡ None)
      → (IsTrue tells → StaysInPair words.root (state c k) (state c' k')) → OnOk r (Puts o text out out') → OnErr r (Breaks o text out out') → IfErr r (λ x. x ≡ cause.SinkFault) → text ≡ pair_line words.seed words.blocks
      → CarriesUnseen (IsTrue tells) (IsTrue tells) (pair_answer c words) (IsPair words) o e (cause_of r) (seen c k out err) (seen c' k' out' err)
  tried-told true r room within puts breaks only is = unseen_seen refl (record {
    answer = does (pair_acts words);
    known = λ t. sym (ap (room_answer words) (room refl));
    form = inl refl;
    exact = last_exact r only;
    acts = look_goes_on (within_goes_on (changes_of words.root (state c k) (state c' k') out err (within refl)) tt (last_print r puts breaks only is));
  })
  tried-told false r room within puts breaks only is = record {
    from = λ d j own. record {
      after = still d j (λ t. cc);
      carries = record {
        answer = does (pair_acts words);
        known = λ t. cc;
        form = inl refl;
        exact = last_exact r only;
        acts = look_goes_on (within_goes_on (none-within (places words.root) d j out err) tt (last_print r puts breaks only is));
      };
    };
  }

  -- it broke off, over a tree that tells
  broke : (ended : Cause) → IsBreak ended → room_refusal c words.root ≡ None → StaysInPair words.root (state c k) (state c' k')
      → CarriesUnseen (IsTrue true) (IsTrue true) (pair_answer c words) (IsPair words) o e ended (seen c k out err) (seen c' k' out err)
  broke ended breaks room within = unseen_seen refl (record {
    answer = does (pair_acts words);
    known = λ t. sym (ap (room_answer words) room);
    form = inl refl;
    exact = inl (break_free breaks);
    acts = look_goes_on (within_breaks (break_ends breaks) (changes_of words.root (state c k) (state c' k') out err within));
  })

  -- the tree doesn't tell, so it may have stayed as it was
  untold : (ended : Cause) → IsBreak ended ⊎ ((path : PathValue) × (ended ≡ cause.Changed path))
      → CarriesUnseen (IsTrue false) (IsTrue false) (pair_answer c words) (IsPair words) o e ended (seen c k out err) (seen c' k' out err)
  untold ended (inl breaks) = record {
    from = λ d j own. record {
      after = still d j (λ t. cc);
      carries = record {
        answer = does (pair_acts words);
        known = λ t. cc;
        form = inl refl;
        exact = inl (break_free breaks);
        acts = look_goes_on (within_breaks (break_ends breaks) (none-within (places words.root) d j out err));
      };
    };
  }
  untold ended (inr (path, is)) = record {
    from = λ d j own. record {
      after = still d j (λ t. cc);
      carries = carries_refused ended (ap ending_of is) (λ t. cc) (inr (ended, inr (inr (ap ending_of is)), refl)) refl refl;
    };
  }

  told : (ended : Cause) → IsBreak ended ⊎ ((path : PathValue) × (ended ≡ cause.Changed path)) → ((path : PathValue) → ended ≡ cause.Changed path → ⊥) → room_refusal c words.root ≡ None
      → StaysInPair words.root (state c k) (state c' k') → CarriesUnseen (IsTrue true) (IsTrue true) (pair_answer c words) (IsPair words) o e ended (seen c k out err) (seen c' k' out err)
  told ended (inl breaks) unchanged room within = broke ended breaks room within
  told ended (inr (path, is)) unchanged room within = absurd (unchanged path is)

  pub try-faulted : (tells : Bool) (ended : Cause) → IsOfTrial ended → (IsTrue tells → (path : PathValue) → ended ≡ cause.Changed path → ⊥) → (IsTrue tells → room_refusal c words.root ≡ None)
      → (IsTrue tells → StaysInPair words.root (state c k) (state c' k')) → CarriesUnseen (IsTrue tells) (IsTrue tells) (pair_answer c words) (IsPair words) o e ended (seen c k out err) (seen c' k' out err)
  try-faulted true ended trial unchanged room within = told ended (breaks_or_changed ended trial) (unchanged refl) (room refl) (within refl)
  try-faulted false ended trial unchanged room within = untold ended (breaks_or_changed ended trial)

-- what is left, and what is told of it
pub leaves-told : (words : PairWords) (tells : Bool) (c c' : Contents) (out out' : Sunk) {text : List ℕ} (r : Result (Unit {0}) Cause) → IsTriedPair words.root words.seed words.blocks c' → StaysBeside words.root c c'
    → OnOk r (Puts tells text out out') → text ≡ pair_line words.seed words.blocks → OnOk r (LeavesPair words tells c c' out.text out'.text)
leaves-told words tells c c' out out' (Ok u) tried beside puts is = record { tried = tried; beside = beside; told = λ t. puts.added t ∙ ap (λ l. out.text ++ l) is }
leaves-told words tells c c' out out' (Err why) tried beside puts is = tt

-- ---- behind the look, which changes nothing

module _ (words : PairWords) {c d : Contents} {k l : List ChangeCall} (same : d ≡ c) (uncalled : l ≡ k) where
  pub look-goes_on : (tells : Bool) {o e : Bool} {ended : Cause} {out err : Sunk} {u : Seen} → CarriesUnseen (IsTrue tells) (IsTrue tells) (pair_answer d words) (IsPair words) o e ended (seen d l out err) u
      → CarriesUnseen (IsTrue tells) (IsTrue tells) (pair_answer c words) (IsPair words) o e ended (seen c k out err) u
  look-goes_on tells {o} {e} {ended} {out} {err} {u} p =
      let P : Contents × List ChangeCall → Type 0 = λ x. CarriesUnseen (IsTrue tells) (IsTrue tells) (pair_answer x.0 words) (IsPair words) o e ended (seen x.0 x.1 out err) u in
      subst P (λ i. (same i, uncalled i)) p

  pub look-refused : (tells : Bool) {o e : Bool} (why : Cause) {out err : Sunk} → IsOfLook why → (IsTrue tells → IsFree why ⊎ (pair_answer c words ≡ refused why))
      → CarriesUnseen (IsTrue tells) (IsTrue tells) (pair_answer c words) (IsPair words) o e why (seen c k out err) (seen d l out err)
  look-refused tells why look exact = unseen_still same uncalled (λ x j. carries_look why (answer-form c words) (answer-looks c words) (inr (why, look, refl)) look exact refl refl)

  pub look-leaves : (tells : Bool) (c' : Contents) (out out' : List ℕ) (r : Result (Unit {0}) Cause) → OnOk r (LeavesPair words tells d c' out out') → OnOk r (LeavesPair words tells c c' out out')
  look-leaves tells c' out out' r left = subst (λ x. OnOk r (LeavesPair words tells x c' out out')) same left

  pub look-beside : (c' : Contents) → StaysBeside words.root d c' → StaysBeside words.root c c'
  look-beside c' stays = subst (λ x. StaysBeside words.root x c') same stays
