-- How steps of changes join.
use Rattle.std.proofs.Common.{◌≡◌, IsTrue, List, [], ◌∷◌, ◌++◌, None, Some, Option, Result, Ok, Err, OnOk, refl, ap, sym, ◌∙◌, inl, inr, ◌≢◌, subst}
use Rattle.std.proofs.lemmas.List.{append-nil}
use Rattle.cluster_tree.specs.PathValue.{PathValue}
use Rattle.cluster_tree.specs.Contents.{Contents}
use Rattle.cluster_tree.specs.Causes.{Passes}
use Rattle.cluster_tree.specs.Change.{Change, all_changed, call_of, changed_by, first_refusal, or_next, refusal_of}
use Rattle.cluster_tree.specs.Run.{Makes, state_by}
use Rattle.cluster_tree.specs.Tree.{HasFailed, RefusesOnly}
use Rattle.cluster_tree.specs.declared.tree.Tree.{Ghosts}
use Rattle.cluster_tree.specs.declared.tree.TreeFault.{TreeFault}
use Rattle.marked_runs.specs.Carried.{Carries}
use Rattle.marked_runs.specs.Performed.{Performs, about}
use Rattle.marked_runs.specs.declared.faults.PerformFault.{PerformFault}
use Rattle.marked_runs.specs.declared.faults.PerformFault.TheVariants as perform
use Rattle.marked_runs.specs.declared.faults.StepFault.TheVariants as step
use Rattle.marked_runs.specs.Runs.{Runs, is_done}
use Rattle.marked_runs.specs.Settled.{settled}
use Rattle.marked_runs.specs.declared.faults.StepFault.{StepFault}
use Rattle.marked_runs.proofs.RunLemmas.{ran-told, runs-front, runs-then, settled-agrees}

-- one change
pub carried-one : {F : Type 0} (tree : Ghosts F) (x : Change) (a b : F) (done : Result (Unit {0}) TreeFault) (r : Result (Unit {0}) StepFault) → r ≡ settled done
    → (IsTrue tree.tells → Passes HasFailed (refusal_of (tree.contents a) x) done) → (IsTrue tree.tells → OnOk done (tree.contents b ≡ changed_by (tree.contents a) x))
    → (IsTrue tree.tells → Makes (call_of x) (state_by tree.contents tree.calls a) (state_by tree.contents tree.calls b) done) → Carries tree (x ∷ []) a b r
carried-one tree x a b done r is passes left made told none = record {
  runs = ran-told x (state_by tree.contents tree.calls a) (state_by tree.contents tree.calls b) done r is none (left told) (made told);
  agreed = settled-agrees (refusal_of (tree.contents a) x) done r none (passes told) is;
}

-- what nothing refuses is done, or failed
pub passes-unrefused : (done : Result (Unit {0}) TreeFault) → RefusesOnly [] done → Passes HasFailed None done
passes-unrefused (Ok u) row = refl
passes-unrefused (Err e) (inl failed) = inl failed
passes-unrefused (Err e) (inr none) = elim none [ ]

pub on_any : {P : Type 0} (done : Result (Unit {0}) TreeFault) → P → OnOk done P
on_any (Ok u) p = p
on_any (Err e) p = tt

-- ---- some changes and then others, of which none is to be refused

or_both : (o p : Option TreeFault) → or_next o p ≡ None → (o ≡ None) × (p ≡ None)
or_both None p e = (refl, e)
or_both (Some f) p e = absurd (cc e)

pub both_unrefused : (c : Contents) (xs ys : List Change) → first_refusal c (xs ++ ys) ≡ None → (first_refusal c xs ≡ None) × (first_refusal (all_changed c xs) ys ≡ None)
both_unrefused c [] ys e = (refl, e)
both_unrefused c (x ∷ xs) ys e =
    let two = or_both (refusal_of c x) (first_refusal (changed_by c x) (xs ++ ys)) e in
    let rest = both_unrefused (changed_by c x) xs ys two.1 in
    (ap (λ o. or_next o (first_refusal (changed_by c x) xs)) two.0 ∙ rest.0, rest.1)

pub carried-then : {F : Type 0} (tree : Ghosts F) (xs ys : List Change) (a b c : F) (u : Unit {0}) (r : Result (Unit {0}) StepFault) → Carries tree xs a b (Ok u) → Carries tree ys b c r → Carries tree (xs ++ ys) a c r
carried-then tree xs ys a b c u r one other told none =
    let two = both_unrefused (tree.contents a) xs ys none in
    let ran = one told two.0 in
    let more = other told (ap (λ x. first_refusal x ys) (ran.runs.after refl) ∙ two.1) in
    record {
      runs = runs-then xs ys (tree.calls a) (tree.calls b) (tree.calls c) (tree.contents a) (tree.contents b) (tree.contents c) _ ran.runs more.runs;
      agreed = more.agreed;
    }

pub carried-front : {F : Type 0} (tree : Ghosts F) (xs ys : List Change) (a b : F) (e : StepFault) → Carries tree xs a b (Err e) → Carries tree (xs ++ ys) a b (Err e)
carried-front tree xs ys a b e one told none =
    let ran = one told (both_unrefused (tree.contents a) xs ys none).0 in
    record {
      runs = runs-front xs ys (tree.calls a) (tree.calls b) (tree.contents a) (tree.contents b) ran.runs;
      agreed = ran.agreed;
    }

-- the converse: none of both is refused
pub unrefused-both : (c : Contents) (xs ys : List Change) → first_refusal c xs ≡ None → first_refusal (all_changed c xs) ys ≡ None → first_refusal c (xs ++ ys) ≡ None
unrefused-both c [] ys one other = other
unrefused-both c (x ∷ xs) ys one other =
    let two = or_both (refusal_of c x) (first_refusal (changed_by c x) xs) one in
    ap (λ o. or_next o (first_refusal (changed_by c x) (xs ++ ys))) two.0 ∙ unrefused-both (changed_by c x) xs ys two.1 other

-- ---- with the paths of faults

agreed_about : (done : Result (Unit {0}) StepFault) (r : Result (Unit {0}) PerformFault) (path : PathValue) (e : StepFault) → done ≡ Err e → done ≢ Err step.Contradicted → r ≡ Err (about e path) → (p : PathValue) → r ≢ Err (perform.Changed p)
agreed_about done r path step.ReadFault is agreed told p = λ h. cc (sym h ∙ told)
agreed_about done r path step.WriteFault is agreed told p = λ h. cc (sym h ∙ told)
agreed_about done r path step.Contradicted is agreed told p = λ h. agreed is

pub performs-done : {F : Type 0} (tree : Ghosts F) (xs : List Change) (a b : F) (u : Unit {0}) → Carries tree xs a b (Ok u) → Performs tree xs a b (Ok tt)
performs-done tree xs a b u one told none = record { runs = (one told none).runs; agreed = λ p h. cc h }

pub performs-broken : {F : Type 0} (tree : Ghosts F) (xs : List Change) (a b : F) (e : StepFault) (path : PathValue) (r : Result (Unit {0}) PerformFault) → r ≡ Err (about e path) → Carries tree xs a b (Err e) → Performs tree xs a b r
performs-broken tree xs a b e path r is one told none = record {
  runs = subst (λ (x : Result (Unit {0}) PerformFault). Runs xs (tree.calls a) (tree.calls b) (tree.contents a) (tree.contents b) (is_done x)) (sym is) (one told none).runs;
  agreed = agreed_about (Err e) r path e refl ((one told none).agreed) is;
}

pub performs-then : {F : Type 0} (tree : Ghosts F) (xs ys : List Change) (a b c : F) (u : Unit {0}) (r : Result (Unit {0}) PerformFault) → Performs tree xs a b (Ok u) → Performs tree ys b c r → Performs tree (xs ++ ys) a c r
performs-then tree xs ys a b c u r one other told none =
    let two = both_unrefused (tree.contents a) xs ys none in
    let ran = one told two.0 in
    let more = other told (ap (λ x. first_refusal x ys) (ran.runs.after refl) ∙ two.1) in
    record {
      runs = runs-then xs ys (tree.calls a) (tree.calls b) (tree.calls c) (tree.contents a) (tree.contents b) (tree.contents c) _ ran.runs more.runs;
      agreed = more.agreed;
    }

pub performs-front : {F : Type 0} (tree : Ghosts F) (xs ys : List Change) (a b : F) (e : PerformFault) → Performs tree xs a b (Err e) → Performs tree (xs ++ ys) a b (Err e)
performs-front tree xs ys a b e one told none =
    let ran = one told (both_unrefused (tree.contents a) xs ys none).0 in
    record {
      runs = runs-front xs ys (tree.calls a) (tree.calls b) (tree.contents a) (tree.contents b) ran.runs;
      agreed = ran.agreed;
    }

pub performs-nothing : {F : Type 0} (tree : Ghosts F) (a : F) → Performs tree [] a a (Ok tt)
performs-nothing tree a told none = record {
  runs = record { made = []; grew = sym (append-nil (tree.calls a)); rest = []; joins = refl; all = λ h. refl; after = λ h. refl; elsewhere = λ p off. refl };
  agreed = λ p h. cc h;
}
