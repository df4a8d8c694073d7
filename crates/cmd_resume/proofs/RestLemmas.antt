-- Answers behind a line and behind a look, from what the calls left.
use Rattle.std.proofs.Common.{◌≡◌, ◌∙◌, ℕ, Bool, List, None, inl, inr, refl, ap}
use Rattle.cluster_tree.specs.Contents.{Contents}
use Rattle.cluster_tree.specs.declared.tree.ChangeCall.{ChangeCall}
use Rattle.acts.specs.Acts.{Act, Breaks, Puts, Seen, Sunk, seen}
use Rattle.acts.proofs.ActSteps.{look_goes_on, report_breaks, report_goes_on}
use Rattle.run_acts.specs.Answers.{Answer}
use Rattle.run_acts.specs.Causes.{ending_of}
use Rattle.run_acts.specs.Unseen.{CarriesUnseen, PerformsUnseen}
use Rattle.run_acts.specs.declared.cause.Cause.{Cause}
use Rattle.run_acts.specs.declared.cause.Cause.TheVariants as cause
use Rattle.run_acts.proofs.UnseenSteps.{still}
use Rattle.cmd_resume.specs.Resume.{behind_line, behind_look}
use Rattle.cmd_resume.specs.Rests.{IsBehind}

-- these acts, and no refusal
abbrev pub acting : List Act → Answer
acting acts = record { acts = acts; refusal = None }

module _ {Seeing : Type 0} {IsForm : Answer → Type 0} {o e : Bool} {ended : Cause} where
  -- acts that were done, all or the first of them, as an answer
  pub unseen_rest : {meant : Answer} {c : Contents} {k : List ChangeCall} {out err : Sunk} {u : Seen} (acts : Contents → List Act) → (Seeing → acting (acts c) ≡ meant) → ((d : Contents) → IsForm (acting (acts d)))
      → PerformsUnseen Seeing o e ended acts (seen c k out err) u → CarriesUnseen Seeing Seeing meant IsForm o e ended (seen c k out err) u
  unseen_rest acts known form p = record {
    from = λ d j is.
        let q = p.from d j is in
        record {
          after = q.after;
          carries = record {
            answer = acting (acts d);
            known = λ h. ap (λ x. acting (acts x)) (is h).0 ∙ known h;
            form = form d;
            exact = q.exact;
            acts = q.performs;
          };
        };
  }

  -- a line on standard error before an answer
  pub unseen_line : {meant : Answer} {c : Contents} {k : List ChangeCall} {text text' : List ℕ} {out err err' : Sunk} {u : Seen} → Puts e text' err err' → text' ≡ text
      → CarriesUnseen Seeing Seeing meant IsForm o e ended (seen c k out err') u → CarriesUnseen Seeing Seeing (behind_line text meant) (IsBehind text IsForm) o e ended (seen c k out err) u
  unseen_line {text = text} puts is p = record {
    from = λ d j own.
        let q = p.from d j own in
        record {
          after = q.after;
          carries = record {
            answer = behind_line text q.carries.answer;
            known = λ h. ap (behind_line text) (q.carries.known h);
            form = (q.carries.answer, q.carries.form, refl);
            exact = q.carries.exact;
            acts = report_goes_on puts is q.carries.acts;
          };
        };
  }

  -- its write failed, and nothing was changed
  pub unseen_line_broken : {meant : Answer} {c : Contents} {k : List ChangeCall} {text text' : List ℕ} {out err err' : Sunk} → IsForm meant → Breaks e text' err err' → text' ≡ text → ended ≡ cause.SinkFault
      → CarriesUnseen Seeing Seeing (behind_line text meant) (IsBehind text IsForm) o e ended (seen c k out err) (seen c k out err')
  unseen_line_broken {meant} {text = text} form breaks is failed = record {
    from = λ d j own. record {
      after = still d j own;
      carries = record {
        answer = behind_line text meant;
        known = λ h. refl;
        form = (meant, form, refl);
        exact = inl (inr (inr (inl failed)));
        acts = report_breaks breaks is (ap ending_of failed);
      };
    };
  }

  -- a look before all
  pub unseen_looked : {Known : Type 0} {IsWhole : Answer → Type 0} {meant meant' : Answer} {s u : Seen} → (Known → Seeing) → behind_look meant ≡ meant' → ((rest : Answer) → IsForm rest → IsWhole (behind_look rest))
      → CarriesUnseen Seeing Seeing meant IsForm o e ended s u → CarriesUnseen Seeing Known meant' IsWhole o e ended s u
  unseen_looked sees is whole p = record {
    from = λ d j own.
        let q = p.from d j own in
        record {
          after = q.after;
          carries = record {
            answer = behind_look q.carries.answer;
            known = λ h. ap behind_look (q.carries.known (sees h)) ∙ is;
            form = whole q.carries.answer q.carries.form;
            exact = q.carries.exact;
            acts = look_goes_on q.carries.acts;
          };
        };
  }
