-- How what is stored is made again, from what its calls left.
use Rattle.std.proofs.Common.{◌≡◌, ◌∙◌, ◌⊎◌, ◌++◌, ℕ, Bool, true, false, IsTrue, List, [], ◌∷◌, map, inl, inr, refl, sym, ap, subst, Option, None, Some, Result, OnOk, OnErr, IfErr, true≢false}
use Rattle.cluster_tree.specs.Change.{Change, Cuts, MakesFile, MakesFolder, Removes, Syncs, Writes, all_changed, call_of, first_refusal, is_on, refusal_of}
use Rattle.cluster_tree.specs.Contents.{Contents}
use Rattle.cluster_tree.specs.Laws.{changed_path}
use Rattle.cluster_tree.specs.PathValue.{PathValue}
use Rattle.cluster_tree.specs.declared.tree.ChangeCall.{ChangeCall}
use Rattle.cluster_tree.proofs.OrderLemmas.{path_eq-same}
use Rattle.marked_runs.specs.Runs.{Runs}
use Rattle.resumed_writes.specs.Tried.{IsRefusedAt}
use Rattle.rewind_paths.specs.Laws.{AreOf}
use Rattle.acts.specs.Acts.{AreBelow, Breaks, Changes, NoMemory, Puts, ReadFailed, Report, Sunk, WriteFailed, seen}
use Rattle.acts.proofs.ActSteps.{refused, within_breaks, within_goes_on}
use Rattle.run_acts.specs.Causes.{IsFree, cause_of, ending_of}
use Rattle.run_acts.specs.Unseen.{CarriesUnseen}
use Rattle.run_acts.specs.declared.cause.Cause.{Cause}
use Rattle.run_acts.specs.declared.cause.Cause.TheVariants as cause
use Rattle.run_acts.specs.declared.cause.RewindCause.TheVariants as unfit
use Rattle.run_acts.proofs.MadeSteps.{doing, makes_changed, makes_part, makes_told}
use Rattle.run_acts.proofs.UnseenSteps.{still, unseen_seen}
use Rattle.run_acts.proofs.WithinSteps.{none-within, ran-within}
use Rattle.cmd_rewind.specs.Rewind.{all_done}
use Rattle.cmd_resume.specs.Changes.{Trial, tried}
use Rattle.cmd_resume.specs.Resume.{differing_rest, made_rest, rest_of, tried_rest, way_from}
use Rattle.cmd_resume.specs.Rests.{IsRest}
use Rattle.cmd_resume.proofs.RestLemmas.{unseen_rest}
use Rattle.cmd_resume.proofs.TriedLemmas.{tried-all, tried-refused}

-- ---- which answer is meant

rest-by : (target : PathValue) (c : Contents) (changes : List Change) (t : Trial) → tried c changes ≡ t → rest_of target c changes ≡ tried_rest target c changes t.before t.differs
rest-by target c changes t is = ap (λ (x : Trial). tried_rest target c changes x.before x.differs) is

pub rest-all : (target : PathValue) (c : Contents) (changes : List Change) → first_refusal c changes ≡ None → rest_of target c changes ≡ made_rest c changes
rest-all target c changes none = rest-by target c changes (record { before = changes; differs = None }) (tried-all c changes none)

-- it has its form
rest-form-by : (target : PathValue) (c : Contents) (changes before : List Change) (o : Option PathValue) → AreOf target changes → IsRest target (tried_rest target c changes before o)
rest-form-by target c changes before None of = inl (c, changes, of, refl)
rest-form-by target c changes before (Some path) of = inr (Some (all_changed c before), way_from target path, refl)

pub rest-form : (target : PathValue) (c : Contents) (changes : List Change) → AreOf target changes → IsRest target (rest_of target c changes)
rest-form target c changes of = let t : Trial = tried c changes in rest-form-by target c changes t.before t.differs of

-- ---- how it is carried out

front-below : (roots : List PathValue) (xs ys : List ChangeCall) → AreBelow roots (xs ++ ys) → AreBelow roots xs
front-below roots [] ys all = tt
front-below roots (x ∷ xs) ys all = (all.0, front-below roots xs ys all.1)

pub at-path : (path : PathValue) (change : Change) → is_on path change ≡ true → changed_path (call_of change) ≡ Some path
at-path path (Writes own at bytes) is = ap Some (sym (path_eq-same path own is))
at-path path (Cuts own size) is = ap Some (sym (path_eq-same path own is))
at-path path (MakesFile own) is = ap Some (sym (path_eq-same path own is))
at-path path (MakesFolder own) is = ap Some (sym (path_eq-same path own is))
at-path path (Removes own) is = ap Some (sym (path_eq-same path own is))
at-path path Syncs is = absurd (true≢false (sym is))

map-both : (xs ys : List Change) → map call_of (xs ++ ys) ≡ map call_of xs ++ map call_of ys
map-both [] ys = refl
map-both (x ∷ xs) ys = ap (λ l. call_of x ∷ l) (map-both xs ys)

front-of : (target : PathValue) (xs ys : List Change) → AreOf target (xs ++ ys) → AreOf target xs
front-of target xs ys of = front-below (target ∷ []) (map call_of xs) (map call_of ys) (subst (AreBelow (target ∷ [])) (map-both xs ys) of)

abbrev pub IsFault : Cause → Type 0
IsFault ended = (ended ≡ cause.WriteFault) ⊎ (ended ≡ cause.ReadFault)

fault-free : {ended : Cause} → IsFault ended → IsFree ended
fault-free (inl is) = inr (inl is)
fault-free (inr is) = inl is

form-made : (target : PathValue) (xs : Contents → List Change) → ((d : Contents) → AreOf target (xs d)) → (d : Contents) → IsRest target (made_rest d (xs d))
form-made target xs of d = inl (d, xs d, of d, refl)

break-ends : {ended : Cause} → IsFault ended → (ending_of ended ≡ WriteFailed) ⊎ (ending_of ended ≡ ReadFailed) ⊎ (ending_of ended ≡ NoMemory)
break-ends (inl is) = inl (ap ending_of is)
break-ends (inr is) = inr (inl (ap ending_of is))

-- the target refuses a change, with its way from the root, or for want of memory
abbrev pub IsDiffering : PathValue → PathValue → Cause → Type 0
IsDiffering target path ended = (ended ≡ cause.Rewind (unfit.TargetDiffers (way_from target path))) ⊎ (ended ≡ cause.OutOfMemory)

module _ (target : PathValue) (xs : Contents → List Change) (of : (d : Contents) → AreOf target (xs d)) (c c' : Contents) (k k' : List ChangeCall) {o e : Bool} {out : Sunk} where
  -- all were made, and then it was told
  pub again_told : (tells : Bool) {err err' : Sunk} {text : List ℕ} (r : Result (Unit {0}) Cause) → (IsTrue tells → Runs (xs c) k k' c c' true) → (IsTrue tells → first_refusal c (xs c) ≡ None)
      → OnOk r (Puts e text err err') → OnErr r (Breaks e text err err') → IfErr r (λ x. x ≡ cause.SinkFault) → text ≡ all_done
      → CarriesUnseen (IsTrue tells) (IsTrue tells) (rest_of target c (xs c)) (IsRest target) o e (cause_of r) (seen c k out err) (seen c' k' out err')
  again_told tells r ran none puts breaks only is =
      unseen_rest (λ d. doing xs d ∷ Report all_done ∷ []) (λ h. sym (rest-all target c (xs c) (none h))) (form-made target xs of) (makes_told tells xs c c' k k' r ran puts breaks only is)

  -- a device failed, where the target would refuse one or none
  failed-by : (ended : Cause) (err : Sunk) (before : List Change) (differs : Option PathValue) → IsFault ended → Runs (xs c) k k' c c' false
      → CarriesUnseen (IsTrue true) (IsTrue true) (tried_rest target c (xs c) before differs) (IsRest target) o e ended (seen c k out err) (seen c' k' out err)
  failed-by ended err before None failed ran =
      unseen_rest (λ d. doing xs d ∷ Report all_done ∷ []) (λ h. refl) (form-made target xs of) (makes_part true xs c c' k k' ended false failed (λ t. ran))
  failed-by ended err before (Some path) failed ran = unseen_seen refl (record {
    answer = differing_rest target (Some (all_changed c before)) (way_from target path);
    known = λ h. refl;
    form = inr (Some (all_changed c before), way_from target path, refl);
    exact = inl (fault-free failed);
    acts = within_breaks (break-ends failed) (ran-within (target ∷ []) (xs c) k k' c c' false out err (of c) ran);
  })

  pub again_failed : (tells : Bool) (ended : Cause) {err : Sunk} → IsFault ended → (IsTrue tells → Runs (xs c) k k' c c' false)
      → CarriesUnseen (IsTrue tells) (IsTrue tells) (rest_of target c (xs c)) (IsRest target) o e ended (seen c k out err) (seen c' k' out err)
  again_failed true ended {err} failed ran = let t : Trial = tried c (xs c) in failed-by ended err t.before t.differs failed (ran refl)
  again_failed false ended failed ran =
      unseen_rest (λ d. doing xs d ∷ Report all_done ∷ []) (λ h. cc) (form-made target xs of) (makes_part false xs c c' k k' ended false failed (λ t. cc))

  -- the tree contradicted itself, so it doesn't tell
  pub again_changed : (tells : Bool) {err : Sunk} (path : PathValue) → (IsTrue tells → ⊥)
      → CarriesUnseen (IsTrue tells) (IsTrue tells) (rest_of target c (xs c)) (IsRest target) o e (cause.Changed path) (seen c k out err) (seen c' k' out err)
  again_changed tells path untold =
      unseen_rest (λ d. doing xs d ∷ Report all_done ∷ []) (λ h. absurd (untold h)) (form-made target xs of) (makes_changed tells xs c c' k k' path untold)

  -- the target refuses a change
  pub again_differs : (tells : Bool) (ended : Cause) {err : Sunk} (path : PathValue) → IsDiffering target path ended → (IsTrue tells → IsRefusedAt path (xs c) (record { contents = c; calls = k }) (record { contents = c'; calls = k' }))
      → CarriesUnseen (IsTrue tells) (IsTrue tells) (rest_of target c (xs c)) (IsRest target) o e ended (seen c k out err) (seen c' k' out err)
  again_differs true ended {err} path how at = by how
    where
      is : IsRefusedAt path (xs c) (record { contents = c; calls = k }) (record { contents = c'; calls = k' })
      is = at refl

      left : c' ≡ all_changed c is.before
      left = is.ran.after refl

      meant : rest_of target c (xs c) ≡ differing_rest target (Some (all_changed c is.before)) (way_from target path)
      meant =
          rest-by target c (xs c) (record { before = is.before; differs = Some path })
          (ap (tried c) is.split ∙ tried-refused c is.before is.change is.rest path is.unrefused (λ none. is.refused (ap (λ x. refusal_of x is.change) left ∙ none)) (at-path path is.change is.here))

      changes : {out err : Sunk} → Changes (target ∷ []) (seen c k out err) (seen c' k' out err)
      changes {out} {err} = ran-within (target ∷ []) is.before k k' c c' true out err (front-of target is.before (is.change ∷ is.rest) (subst (AreOf target) is.split (of c))) is.ran

      by : IsDiffering target path ended → CarriesUnseen (IsTrue true) (IsTrue true) (rest_of target c (xs c)) (IsRest target) o e ended (seen c k out err) (seen c' k' out err)
      by (inl told) = unseen_seen refl (record {
        answer = differing_rest target (Some (all_changed c is.before)) (way_from target path);
        known = λ h. sym meant;
        form = inr (Some (all_changed c is.before), way_from target path, refl);
        exact = inr told;
        acts = within_goes_on changes left (refused (ap ending_of told));
      })
      by (inr none) = unseen_seen refl (record {
        answer = differing_rest target (Some (all_changed c is.before)) (way_from target path);
        known = λ h. sym meant;
        form = inr (Some (all_changed c is.before), way_from target path, refl);
        exact = inl (inr (inr (inr none)));
        acts = within_breaks (inr (inr (ap ending_of none))) changes;
      })
  again_differs false ended {err} path how at = by how
    where
      by : IsDiffering target path ended → CarriesUnseen (IsTrue false) (IsTrue false) (rest_of target c (xs c)) (IsRest target) o e ended (seen c k out err) (seen c' k' out err)
      by (inl told) = record {
        from = λ d j own. record {
          after = still d j (λ h. cc);
          carries = record {
            answer = differing_rest target None (way_from target path);
            known = λ h. cc;
            form = inr (None, way_from target path, refl);
            exact = inr told;
            acts = within_goes_on (none-within (target ∷ []) d j out err) tt (refused (ap ending_of told));
          };
        };
      }
      by (inr none) = record {
        from = λ d j own. record {
          after = still d j (λ h. cc);
          carries = record {
            answer = differing_rest target None (way_from target path);
            known = λ h. cc;
            form = inr (None, way_from target path, refl);
            exact = inl (inr (inr (inr none)));
            acts = within_breaks (inr (inr (ap ending_of none))) (none-within (target ∷ []) d j out err);
          };
        };
      }
