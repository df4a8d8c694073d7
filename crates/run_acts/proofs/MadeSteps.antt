-- Changes that were made in turn, all or the first of them, over a tree that may not tell what it holds.
use Rattle.std.proofs.Common.{◌≡◌, ◌∙◌, ◌++◌, ◌⊎◌, ℕ, Bool, true, false, IsTrue, List, [], ◌∷◌, map, inl, inr, refl, sym, ap, subst, append-nil, Result, Ok, Err, OnOk, OnErr, IfErr}
use Rattle.cluster_tree.specs.Change.{Change, all_changed, call_of}
use Rattle.cluster_tree.specs.Contents.{Contents}
use Rattle.cluster_tree.specs.PathValue.{PathValue}
use Rattle.cluster_tree.specs.declared.tree.ChangeCall.{ChangeCall}
use Rattle.marked_runs.specs.Runs.{Runs}
use Rattle.marked_runs.proofs.RunLemmas.{made-all, made-part}
use Rattle.acts.specs.Acts.{Act, Begins, Breaks, Do, IsAfterChange, MakesAll, Puts, ReadFailed, Report, Seen, Sunk, WriteFailed, seen}
use Rattle.acts.proofs.ActSteps.{do_breaks, do_goes_on, report_breaks, report_goes_on}
use Rattle.run_acts.specs.Causes.{IsFree, cause_of, ending_of}
use Rattle.run_acts.specs.Unseen.{PerformsUnseen}
use Rattle.run_acts.specs.declared.cause.Cause.{Cause}
use Rattle.run_acts.specs.declared.cause.Cause.TheVariants as cause
use Rattle.run_acts.proofs.AnswerSteps.{last_exact, last_report}
use Rattle.run_acts.proofs.UnseenSteps.{still}

makes_all : (xs : List Change) (k l : List ChangeCall) (c d : Contents) → Runs xs k l c d true → MakesAll (map call_of xs) k l
makes_all xs k l c d r = let (made, grew, joined) = made-all xs k l c d r in record { made = made; grew = grew; joined = joined }

begins : (xs : List Change) (k l : List ChangeCall) (c d : Contents) (done : Bool) → Runs xs k l c d done → Begins (map call_of xs) k l
begins xs k l c d done r = let (made, grew, part) = made-part xs k l c d done r in record { made = made; grew = grew; part = part }

-- what the tree may have after all of them
pub record Made (Seeing : Type 0) (xs : List Change) (d c' : Contents) (j k' : List ChangeCall) : Type 0 where
  pub contents : Contents
  pub calls : List ChangeCall
  pub own : Seeing → (contents ≡ c') × (calls ≡ k')
  pub makes : MakesAll (map call_of xs) j calls
  pub after : contents ≡ all_changed d xs

pub made_all : (tells : Bool) (xs : List Change) (c c' d : Contents) (k k' j : List ChangeCall) → (IsTrue tells → (d ≡ c) × (j ≡ k)) → (IsTrue tells → Runs xs k k' c c' true) → Made (IsTrue tells) xs d c' j k'
made_all true xs c c' d k k' j own ran = record {
  contents = c';
  calls = k';
  own = λ t. (refl, refl);
  makes = subst (λ x. MakesAll (map call_of xs) x k') (sym (own refl).1) (makes_all xs k k' c c' (ran refl));
  after = (ran refl).after refl ∙ ap (λ x. all_changed x xs) (sym (own refl).0);
}
made_all false xs c c' d k k' j own ran = record {
  contents = all_changed d xs;
  calls = j ++ map call_of xs;
  own = λ t. cc;
  makes = record { made = map call_of xs; grew = refl; joined = refl };
  after = refl;
}

-- and after some of them
pub record Begun (Seeing : Type 0) (xs : List Change) (c' : Contents) (j k' : List ChangeCall) : Type 0 where
  pub contents : Contents
  pub calls : List ChangeCall
  pub own : Seeing → (contents ≡ c') × (calls ≡ k')
  pub begins : Begins (map call_of xs) j calls

pub made_in_part : (tells : Bool) (xs : List Change) (c c' d : Contents) (k k' j : List ChangeCall) (done : Bool) → (IsTrue tells → (d ≡ c) × (j ≡ k)) → (IsTrue tells → Runs xs k k' c c' done) → Begun (IsTrue tells) xs c' j k'
made_in_part true xs c c' d k k' j done own ran = record {
  contents = c';
  calls = k';
  own = λ t. (refl, refl);
  begins = subst (λ x. Begins (map call_of xs) x k') (sym (own refl).1) (begins xs k k' c c' done (ran refl));
}
made_in_part false xs c c' d k k' j done own ran = record {
  contents = d;
  calls = j;
  own = λ t. cc;
  begins = record { made = []; grew = sym (append-nil j); part = tt };
}

-- ---- acts that make changes and then tell of it, over whatever the tree is taken to have

-- the changes of a list, and what they leave
abbrev pub doing : (Contents → List Change) → Contents → Act
doing xs d = Do (map call_of (xs d)) (all_changed d (xs d))

after_told : (r : Result (Unit {0}) Cause) → IfErr r (λ x. x ≡ cause.SinkFault) → IsAfterChange (ending_of (cause_of r))
after_told (Ok u) only = tt
after_told (Err e) only = subst (λ x. IsAfterChange (ending_of x)) (sym only) tt

module _ (tells : Bool) {o e : Bool} (xs : Contents → List Change) (c c' : Contents) (k k' : List ChangeCall) where
  -- all were made, and then it was told on standard error
  pub makes_told : {out err err' : Sunk} {text text' : List ℕ} (r : Result (Unit {0}) Cause) → (IsTrue tells → Runs (xs c) k k' c c' true)
      → OnOk r (Puts e text' err err') → OnErr r (Breaks e text' err err') → IfErr r (λ x. x ≡ cause.SinkFault) → text' ≡ text
      → PerformsUnseen (IsTrue tells) o e (cause_of r) (λ d. doing xs d ∷ Report text ∷ []) (seen c k out err) (seen c' k' out err')
  makes_told r ran puts breaks only is = record {
    from = λ d j own.
        let q = made_all tells (xs d) c c' d k k' j own (λ t. subst (λ x. Runs (xs x) k k' c c' true) (sym (own t).0) (ran t)) in
        record {
          after = still q.contents q.calls q.own;
          exact = last_exact r only;
          performs = do_goes_on q.makes q.after (after_told r only) (last_report r puts breaks only is);
        };
  }

  -- the first of them were made, up to a call that failed
  pub makes_part : {out err : Sunk} {acts : Contents → List Act} (ended : Cause) (done : Bool) → (ended ≡ cause.WriteFault) ⊎ (ended ≡ cause.ReadFault) → (IsTrue tells → Runs (xs c) k k' c c' done)
      → PerformsUnseen (IsTrue tells) o e ended (λ d. doing xs d ∷ acts d) (seen c k out err) (seen c' k' out err)
  makes_part ended done failed ran = record {
    from = λ d j own.
        let q = made_in_part tells (xs d) c c' d k k' j done own (λ t. subst (λ x. Runs (xs x) k k' c c' done) (sym (own t).0) (ran t)) in
        record {
          after = still q.contents q.calls q.own;
          exact = inl (free_of failed);
          performs = do_breaks (ending_failed failed) q.begins;
        };
  }
    where
      free_of : (ended ≡ cause.WriteFault) ⊎ (ended ≡ cause.ReadFault) → IsFree ended
      free_of (inl is) = inr (inl is)
      free_of (inr is) = inl is

      ending_failed : (ended ≡ cause.WriteFault) ⊎ (ended ≡ cause.ReadFault) → (ending_of ended ≡ WriteFailed) ⊎ (ending_of ended ≡ ReadFailed)
      ending_failed (inl is) = inl (ap ending_of is)
      ending_failed (inr is) = inr (ap ending_of is)

  -- the tree contradicted itself, so it doesn't tell: that is like a call that failed
  pub makes_changed : {out err : Sunk} {acts : Contents → List Act} (path : PathValue) → (IsTrue tells → ⊥)
      → PerformsUnseen (IsTrue tells) o e (cause.Changed path) (λ d. doing xs d ∷ acts d) (seen c k out err) (seen c' k' out err)
  makes_changed path untold = record {
    from = λ d j own. record {
      after = record { contents = d; calls = j; how = cause.WriteFault; went = inr (path, refl, refl); own = λ t. absurd (untold t) };
      exact = inl (inr (inl refl));
      performs = do_breaks (inl refl) (record { made = []; grew = sym (append-nil j); part = tt });
    };
  }

module _ {Seeing : Type 0} {o e : Bool} {acts : Contents → List Act} {c : Contents} {k : List ChangeCall} {out err err' : Sunk} {text text' : List ℕ} where
  -- a line on standard error before that
  pub unseen_report : {ended : Cause} {u : Seen} → Puts e text' err err' → text' ≡ text
      → PerformsUnseen Seeing o e ended acts (seen c k out err') u → PerformsUnseen Seeing o e ended (λ d. Report text ∷ acts d) (seen c k out err) u
  unseen_report puts is p = record {
    from = λ d j own.
        let q = p.from d j own in
        record { after = q.after; exact = q.exact; performs = report_goes_on puts is q.performs };
  }

  -- its write failed, and nothing was changed
  pub unseen_broken : {c' : Contents} {k' : List ChangeCall} (ended : Cause) → Breaks e text' err err' → text' ≡ text → ended ≡ cause.SinkFault → c' ≡ c → k' ≡ k
      → PerformsUnseen Seeing o e ended (λ d. Report text ∷ acts d) (seen c k out err) (seen c' k' out err')
  unseen_broken {c'} {k'} ended breaks is failed ci ki = record {
    from = λ d j own. record {
      after = still d j (λ h. ((own h).0 ∙ sym ci, (own h).1 ∙ sym ki));
      exact = inl (inr (inr (inl failed)));
      performs = report_breaks breaks is (ap ending_of failed);
    };
  }
