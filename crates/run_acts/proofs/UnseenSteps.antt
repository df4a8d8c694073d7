-- How a run carries out an answer over a tree that may not tell what it holds, from what its calls left.
use Rattle.std.proofs.Common.{◌≡◌, ◌∙◌, ◌⊎◌, Bool, false, IsTrue, List, inl, inr, refl, sym, ap, subst}
use Rattle.cluster_tree.specs.Contents.{Contents}
use Rattle.cluster_tree.specs.declared.tree.ChangeCall.{ChangeCall}
use Rattle.acts.specs.Acts.{Act, IsAfterChange, Sunk, Seen, seen}
use Rattle.acts.proofs.ActSteps.{look_goes_on}
use Rattle.acts.proofs.LeadLemmas.{Leads, leads_start}
use Rattle.run_acts.specs.Answers.{Answer, Carries, does}
use Rattle.run_acts.specs.Causes.{ending_of}
use Rattle.run_acts.specs.Unseen.{AreOwn, CarriesUnseen, PerformsUnseen, Taken, taken}
use Rattle.run_acts.specs.declared.cause.Cause.{Cause}
use Rattle.run_acts.proofs.AnswerSteps.{carries_as, carries_told}
use Rattle.run_acts.proofs.GrowSteps.{BothGrow, performs_grow}

-- what is taken is what stands there
abbrev pub still : {Seeing : Type 0} {ended : Cause} {new : Seen} (contents : Contents) (calls : List ChangeCall) → (Seeing → AreOwn contents calls new) → Taken Seeing ended new
still {ended = ended} contents calls own = record { contents = contents; calls = calls; how = ended; went = inl refl; own = λ h. (own h, refl) }

module _ {Seeing Known : Type 0} {meant : Answer} {IsForm : Answer → Type 0} {o e : Bool} {ended : Cause} where
  -- what the tree has is seen
  pub unseen_seen : {s u : Seen} → Seeing → Carries Known meant IsForm o e ended s u → CarriesUnseen Seeing Known meant IsForm o e ended s u
  unseen_seen {s} {u} h p = record {
    from = λ contents calls is. record {
      after = still u.contents u.calls (λ h. (refl, refl));
      carries = carries_as (λ k. k) (λ k. refl) (sym (is h).0) (sym (is h).1) p;
    };
  }

  -- nothing was changed
  pub unseen_still : {c c' : Contents} {k k' : List ChangeCall} {out out' err err' : Sunk} → c' ≡ c → k' ≡ k
      → ((d : Contents) (j : List ChangeCall) → Carries Known meant IsForm o e ended (seen d j out err) (seen d j out' err'))
      → CarriesUnseen Seeing Known meant IsForm o e ended (seen c k out err) (seen c' k' out' err')
  unseen_still ci ki p = record {
    from = λ d j is. record {
      after = still d j (λ h. ((is h).0 ∙ sym ci, (is h).1 ∙ sym ki));
      carries = p d j;
    };
  }

  -- acts that were done after the look, all or the first of them
  pub unseen_acts : {c c' : Contents} {k k' : List ChangeCall} {out err : Sunk} {u : Seen} (acts : Contents → List Act) → c' ≡ c → k' ≡ k → (Known → Seeing) → (Known → does (acts c) ≡ meant) → ((d : Contents) → IsForm (does (acts d)))
      → PerformsUnseen Seeing o e ended acts (seen c' k' out err) u → CarriesUnseen Seeing Known meant IsForm o e ended (seen c k out err) u
  unseen_acts acts ci ki sees known form p = record {
    from = λ d j is.
        let q = p.from d j (λ h. ((is h).0 ∙ sym ci, (is h).1 ∙ sym ki)) in
        record {
          after = q.after;
          carries = record {
            answer = does (acts d);
            known = λ h. ap (λ x. does (acts x)) (is (sees h)).0 ∙ known h;
            form = form d;
            exact = q.exact;
            acts = look_goes_on q.performs;
          };
        };
  }

  -- what is seen under another name
  pub unseen_by : {Seeing' : Type 0} {s u : Seen} → (Seeing' → Seeing) → (Seeing → Seeing') → CarriesUnseen Seeing Known meant IsForm o e ended s u → CarriesUnseen Seeing' Known meant IsForm o e ended s u
  unseen_by there back p = record {
    from = λ contents calls is.
        let q = p.from contents calls (λ h. is (back h)) in
        record {
          after = record { contents = q.after.contents; calls = q.after.calls; how = q.after.how; went = q.after.went; own = λ h. q.after.own (there h) };
          carries = q.carries;
        };
  }

  -- what is known under another name
  pub unseen_known : {Known' : Type 0} {s u : Seen} → (Known' → Known) → CarriesUnseen Seeing Known meant IsForm o e ended s u → CarriesUnseen Seeing Known' meant IsForm o e ended s u
  unseen_known known p = record {
    from = λ contents calls is.
        let q = p.from contents calls is in
        record {
          after = q.after;
          carries = record { answer = q.carries.answer; known = λ h. q.carries.known (known h); form = q.carries.form; exact = q.carries.exact; acts = q.carries.acts };
        };
  }

  -- the tree's own, where what it has is seen
  pub seen_of : {s u : Seen} → Seeing → CarriesUnseen Seeing Known meant IsForm o e ended s u → Carries Known meant IsForm o e ended s u
  seen_of {s} {u} h p =
      let q = p.from s.contents s.calls (λ h. (refl, refl)) in
      let own = q.after.own h in
      let there = carries_told (sym own.1) q.carries in
      subst (λ x. Carries Known meant IsForm o e ended s x) (λ i. taken (own.0.0 i) (own.0.1 i) u) there

  -- what stood on both sinks stays
  pub unseen_grow : {s u : Seen} → CarriesUnseen Seeing Known meant IsForm o e ended s u → BothGrow o e s u
  unseen_grow {s} {u} p =
      let q = p.from s.contents s.calls (λ h. (refl, refl)) in
      performs_grow o e (ending_of q.after.how) q.carries.answer.acts s (taken q.after.contents q.after.calls u) q.carries.acts

-- the cause under another name
pub unseen_told : {Seeing Known : Type 0} {meant : Answer} {IsForm : Answer → Type 0} {o e : Bool} {ended own : Cause} {s u : Seen} → ended ≡ own → CarriesUnseen Seeing Known meant IsForm o e own s u → CarriesUnseen Seeing Known meant IsForm o e ended s u
unseen_told {Seeing} {Known} {meant} {IsForm} {o} {e} {s = s} {u} is p = subst (λ x. CarriesUnseen Seeing Known meant IsForm o e x s u) (sym is) p

-- what is seen of a run that isn't dry
pub told_wet : {T : Type 0} (dry : Bool) → dry ≡ false → T ⊎ IsTrue dry → T
told_wet dry wet (inl t) = t
told_wet dry wet (inr is) = absurd (cc (wet, is))

-- ---- what a loop over acts keeps: from the start all acts lead on by the rest from here, whatever the tree is taken to have

pub record LeadsTo (Seeing : Type 0) (o e : Bool) (all : List Act) (start : Seen) (rest : Contents → List Act) (here : Seen) : Type 0 where
  pub contents : Contents
  pub calls : List ChangeCall
  pub own : Seeing → AreOwn contents calls here
  pub leads : Leads IsAfterChange o e all start (rest contents) (taken contents calls here)

pub record LeadsUnseen (Seeing : Type 0) (o e : Bool) (all : Contents → List Act) (start : Seen) (rest : Contents → List Act) (here : Seen) : Type 0 where
  pub from : (contents : Contents) (calls : List ChangeCall) → (Seeing → AreOwn contents calls start) → LeadsTo Seeing o e (all contents) (taken contents calls start) rest here

module _ {Seeing : Type 0} {o e : Bool} where
  pub unseen_start : {acts : Contents → List Act} {s : Seen} → LeadsUnseen Seeing o e acts s acts s
  unseen_start = record { from = λ contents calls is. record { contents = contents; calls = calls; own = is; leads = leads_start } }
