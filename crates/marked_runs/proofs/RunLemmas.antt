-- Changes that are carried out one after another.
use Rattle.std.proofs.Common.{◌≡◌, ◌≢◌, Bool, true, false, ◌||◌, List, [], ◌∷◌, ◌++◌, map, Option, None, Some, Result, Ok, Err, OnOk, refl, ap, sym, ◌∙◌, subst, inl, inr, true≢false, append_assoc}
use Rattle.std.proofs.lemmas.List.{append-nil, map-append}
use Rattle.std.specs.List.{list_any}
use Rattle.cluster_tree.specs.PathValue.{PathValue}
use Rattle.cluster_tree.specs.Contents.{Contents, entry_at}
use Rattle.cluster_tree.specs.Causes.{Passes}
use Rattle.cluster_tree.specs.Change.{Change, IsPart, all_changed, call_of, changed_by, is_on, or_next, refusal_of}
use Rattle.cluster_tree.specs.Joined.{joined_writes}
use Rattle.cluster_tree.specs.Run.{Makes, State}
use Rattle.cluster_tree.specs.Tree.{HasFailed}
use Rattle.cluster_tree.specs.declared.tree.ChangeCall.{ChangeCall}
use Rattle.cluster_tree.specs.declared.tree.TreeFault.{TreeFault}
use Rattle.cluster_tree.specs.declared.tree.TreeFault.TheVariants as fault
use Rattle.cluster_tree.proofs.ChangeLemmas.{changed-in_turn}
use Rattle.cluster_tree.specs.Laws.{changed_path}
use Rattle.cluster_tree.specs.PathOrder.{path_eq}
use Rattle.cluster_tree.specs.Step.{Step}
use Rattle.cluster_tree.specs.Change.{Writes, Cuts, MakesFile, MakesFolder, Removes, Syncs}
use Rattle.cluster_tree.proofs.OrderLemmas.{path_eq-own}
use Rattle.cluster_tree.proofs.StepLemmas.{step-elsewhere}
use Rattle.cluster_tree.proofs.MadeLemmas.{joined-by_parts, first_are-part}
use Rattle.marked_runs.specs.Runs.{Runs, is_done}
use Rattle.marked_runs.specs.Settled.{settled}
use Rattle.marked_runs.specs.declared.faults.StepFault.{StepFault}
use Rattle.marked_runs.specs.declared.faults.StepFault.TheVariants as step

joined_both : (a b c d : List ChangeCall) → joined_writes a ≡ joined_writes c → joined_writes b ≡ joined_writes d → joined_writes (a ++ b) ≡ joined_writes (c ++ d)
joined_both a b c d e f = joined-by_parts a b ∙ ap (λ x. joined_writes (x ++ joined_writes b)) e ∙ ap (λ x. joined_writes (joined_writes c ++ x)) f ∙ sym (joined-by_parts c d)

none_of_both : (p : PathValue) (xs ys : List Change) → list_any (is_on p) (xs ++ ys) ≡ false → (list_any (is_on p) xs ≡ false) × (list_any (is_on p) ys ≡ false)
none_of_both p [] ys e = (refl, e)
none_of_both p (x ∷ xs) ys e =
    (elim (is_on p x) as (λ b. (b || list_any (is_on p) (xs ++ ys)) ≡ false → ((b || list_any (is_on p) xs) ≡ false) × (list_any (is_on p) ys ≡ false)) [
      | true ↦ λ h. absurd (true≢false h)
      | false ↦ λ h. none_of_both p xs ys h
    ]) e

pub runs-then : (xs ys : List Change) (k l m : List ChangeCall) (c d e : Contents) (done : Bool) → Runs xs k l c d true → Runs ys l m d e done → Runs (xs ++ ys) k m c e done
runs-then xs ys k l m c d e done a b = record {
  made = a.made ++ b.made;
  grew = b.grew ∙ ap (λ x. x ++ b.made) a.grew ∙ append_assoc k a.made b.made;
  rest = b.rest;
  joins = ap joined_writes (append_assoc a.made b.made b.rest)
      ∙ joined_both a.made (b.made ++ b.rest) (map call_of xs) (map call_of ys) (ap joined_writes (sym (append-nil a.made) ∙ ap (λ x. a.made ++ x) (sym (a.all refl))) ∙ a.joins) b.joins
      ∙ ap joined_writes (sym (map-append call_of xs ys));
  all = b.all;
  after = λ h. b.after h ∙ ap (λ x. all_changed x ys) (a.after refl) ∙ sym (changed-in_turn c xs ys);
  elsewhere = λ p off. let two = none_of_both p xs ys off in b.elsewhere p two.1 ∙ a.elsewhere p two.0;
}

pub runs-front : (xs ys : List Change) (k l : List ChangeCall) (c d : Contents) → Runs xs k l c d false → Runs (xs ++ ys) k l c d false
runs-front xs ys k l c d a = record {
  made = a.made;
  grew = a.grew;
  rest = a.rest ++ map call_of ys;
  joins = ap joined_writes (sym (append_assoc a.made a.rest (map call_of ys)))
      ∙ joined_both (a.made ++ a.rest) (map call_of ys) (map call_of xs) (map call_of ys) a.joins refl
      ∙ ap joined_writes (sym (map-append call_of xs ys));
  all = λ h. absurd (true≢false (sym h));
  after = λ h. absurd (true≢false (sym h));
  elsewhere = λ p off. a.elsewhere p ((none_of_both p xs ys off).0);
}

pub made-part : (xs : List Change) (k l : List ChangeCall) (c d : Contents) (done : Bool) → Runs xs k l c d done → (made : List ChangeCall) × (l ≡ k ++ made) × IsPart (joined_writes made) (joined_writes (map call_of xs))
made-part xs k l c d done a = (a.made, a.grew, first_are-part a.made a.rest (joined_writes (map call_of xs)) a.joins)

pub made-all : (xs : List Change) (k l : List ChangeCall) (c d : Contents) → Runs xs k l c d true → (made : List ChangeCall) × (l ≡ k ++ made) × (joined_writes made ≡ joined_writes (map call_of xs))
made-all xs k l c d a = (a.made, a.grew, ap joined_writes (sym (append-nil a.made) ∙ ap (λ x. a.made ++ x) (sym (a.all refl))) ∙ a.joins)

-- ---- one change

apart_from : (p path : PathValue) → path_eq p path ≡ false → Some path ≢ Some p
apart_from p path off = λ same. let same_path : path ≡ p = cc same in true≢false (sym (path_eq-own p) ∙ ap (path_eq p) (sym same_path) ∙ off)

or_false : (b : Bool) → (b || false) ≡ false → b ≡ false
or_false true e = e
or_false false e = e

pub off_path : (x : Change) (p : PathValue) → is_on p x ≡ false → changed_path (call_of x) ≢ Some p
off_path (Writes path at bytes) p off = apart_from p path off
off_path (Cuts path size) p off = apart_from p path off
off_path (MakesFile path) p off = apart_from p path off
off_path (MakesFolder path) p off = apart_from p path off
off_path (Removes path) p off = apart_from p path off
off_path Syncs p off = λ same. cc same

stepped_elsewhere : (x : Change) (c d : Contents) → Step (call_of x) c d → (p : PathValue) → list_any (is_on p) (x ∷ []) ≡ false → entry_at d p ≡ entry_at c p
stepped_elsewhere x c d step p off = step-elsewhere (call_of x) c d p step (off_path x p (or_false (is_on p x) off))

unrefused : (o : Option TreeFault) → or_next o None ≡ None → o ≡ None
unrefused None e = refl
unrefused (Some f) e = e

-- a change that nothing is to refuse: it was carried out, or the device failed
pub ran-one : (x : Change) (a b : State) (done : Result (Unit {0}) TreeFault) → or_next (refusal_of a.contents x) None ≡ None → OnOk done (b.contents ≡ changed_by a.contents x) → Makes (call_of x) a b done
    → Runs (x ∷ []) a.calls b.calls a.contents b.contents (is_done (settled done))
ran-one x a b (Ok u) none left happened = record {
  made = call_of x ∷ [];
  grew = happened.listed;
  rest = [];
  joins = refl;
  all = λ h. refl;
  after = λ h. left;
  elsewhere = stepped_elsewhere x a.contents b.contents happened.step;
}
ran-one x a b (Err e) none left (inl same) = record {
  made = [];
  grew = ap (λ (s : State). s.calls) same ∙ sym (append-nil a.calls);
  rest = call_of x ∷ [];
  joins = refl;
  all = λ h. absurd (true≢false (sym h));
  after = λ h. absurd (true≢false (sym h));
  elsewhere = λ p off. ap (λ (s : State). entry_at s.contents p) same;
}
ran-one x a b (Err e) none left (inr happened) = record {
  made = call_of x ∷ [];
  grew = happened.1.listed;
  rest = [];
  joins = refl;
  all = λ h. refl;
  after = λ h. absurd (true≢false (sym h));
  elsewhere = stepped_elsewhere x a.contents b.contents happened.1.step;
}

not_contradicted : (f : TreeFault) → f ≡ fault.Failed → (r : Result (Unit {0}) StepFault) → r ≡ settled (Err f) → r ≢ Err step.Contradicted
not_contradicted f is r e = λ h. cc (sym h ∙ e ∙ ap (λ x. settled (Err x)) is)

-- and no refusal comes
pub settled-agrees : (o : Option TreeFault) (done : Result (Unit {0}) TreeFault) (r : Result (Unit {0}) StepFault) → or_next o None ≡ None → Passes HasFailed o done → r ≡ settled done → r ≢ Err step.Contradicted
settled-agrees o (Ok u) r none passes e = λ h. cc (sym h ∙ e)
settled-agrees o (Err f) r none (inl failed) e = not_contradicted f failed r e
settled-agrees o (Err f) r none (inr refused) e = absurd (cc (sym refused ∙ unrefused o none))

-- the same of the outcome that is told
pub ran-told : (x : Change) (a b : State) (done : Result (Unit {0}) TreeFault) (r : Result (Unit {0}) StepFault) → r ≡ settled done → or_next (refusal_of a.contents x) None ≡ None → OnOk done (b.contents ≡ changed_by a.contents x) → Makes (call_of x) a b done
    → Runs (x ∷ []) a.calls b.calls a.contents b.contents (is_done r)
ran-told x a b done r is none left made = subst (λ o. Runs (x ∷ []) a.calls b.calls a.contents b.contents (is_done o)) (sym is) (ran-one x a b done none left made)
