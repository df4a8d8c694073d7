-- Changes that are tried one after another.
use Rattle.std.proofs.Common.{◌≡◌, ◌≢◌, ◌⊎◌, Bool, true, false, ◌||◌, IsTrue, List, [], ◌∷◌, ◌++◌, map, None, Some, Result, Ok, Err, OnOk, refl, ap, sym, ◌∙◌, subst, inl, inr, append_assoc}
use Rattle.std.proofs.lemmas.List.{append-nil}
use Rattle.std.specs.List.{list_any}
use Rattle.cluster_tree.specs.PathValue.{PathValue}
use Rattle.cluster_tree.specs.Contents.{Contents, entry_at}
use Rattle.cluster_tree.specs.Causes.{Passes}
use Rattle.cluster_tree.specs.Change.{Change, Syncs, call_of, changed_by, first_refusal, is_on, or_next, refusal_of}
use Rattle.cluster_tree.specs.Frame.{Reads}
use Rattle.cluster_tree.specs.Run.{Makes, State, state_by}
use Rattle.cluster_tree.specs.Tree.{HasFailed, RefusesOnly}
use Rattle.cluster_tree.specs.declared.tree.Tree.{Ghosts}
use Rattle.cluster_tree.specs.declared.tree.TreeFault.{TreeFault}
use Rattle.cluster_tree.specs.declared.tree.TreeFault.TheVariants as fault
use Rattle.cluster_tree.specs.Step.{Step}
use Rattle.cluster_tree.proofs.StepLemmas.{step-elsewhere}
use Rattle.marked_runs.specs.Carried.{Carried}
use Rattle.marked_runs.specs.Runs.{Runs}
use Rattle.marked_runs.specs.Settled.{fault_of, settled}
use Rattle.marked_runs.specs.declared.faults.StepFault.{StepFault}
use Rattle.marked_runs.specs.declared.faults.StepFault.TheVariants as step
use Rattle.marked_runs.proofs.CarriedLemmas.{unrefused-both}
use Rattle.marked_runs.proofs.RunLemmas.{off_path, runs-front, runs-then}
use Rattle.resumed_writes.specs.Outcomes.{at_source, at_target}
use Rattle.resumed_writes.specs.Tried.{IsRefusedAt, Tried, Tries}
use Rattle.resumed_writes.specs.declared.faults.StoredPerformFault.{StoredPerformFault}
use Rattle.resumed_writes.specs.declared.faults.StoredPerformFault.TheVariants as stored

-- ---- nothing at all

nothing-ran : (xs : List Change) (a : State) → Runs xs a.calls a.calls a.contents a.contents false
nothing-ran xs a = record {
  made = [];
  grew = sym (append-nil a.calls);
  rest = map call_of xs;
  joins = refl;
  all = λ h. absurd (cc h);
  after = λ h. absurd (cc h);
  elsewhere = λ p off. refl;
}

none-ran : (a : State) → Runs [] a.calls a.calls a.contents a.contents true
none-ran a = record { made = []; grew = sym (append-nil a.calls); rest = []; joins = refl; all = λ h. refl; after = λ h. refl; elsewhere = λ p off. refl }

pub tried-nothing : {F : Type 0} (tree : Ghosts F) (a : F) (u : Unit {0}) → Tries tree [] a a (Ok u)
tried-nothing tree a u told = record { runs = none-ran (state_by tree.contents tree.calls a); done = λ h. refl; differs = λ p h. absurd (cc h); agreed = λ p h. cc h }

-- a fault before the first change
pub tried-broken : {F : Type 0} (tree : Ghosts F) (xs : List Change) (a : F) (e : StoredPerformFault) → (IsTrue tree.tells → e ≡ stored.ReadFault) → Tries tree xs a a (Err e)
tried-broken tree xs a e is told = record {
  runs = nothing-ran xs (state_by tree.contents tree.calls a);
  done = λ h. absurd (cc h);
  differs = λ p h. let wrong : stored.TargetDiffers p ≡ stored.ReadFault = sym (cc h) ∙ is told in absurd (cc wrong);
  agreed = λ p h. let wrong : stored.Changed p ≡ stored.ReadFault = sym (cc h) ∙ is told in cc wrong;
}

-- the first change is refused
refused-first : (path : PathValue) (x : Change) (xs : List Change) (a : State) → is_on path x ≡ true → refusal_of a.contents x ≢ None → IsRefusedAt path (x ∷ xs) a a
refused-first path x xs a here refused = record { before = []; change = x; rest = xs; split = refl; here = here; ran = none-ran a; unrefused = refl; refused = refused }

same-path : (p q : PathValue) (r : Result (Unit {0}) StoredPerformFault) → r ≡ Err (stored.TargetDiffers p) → r ≡ Err (stored.TargetDiffers q) → p ≡ q
same-path p q r e f = cc (sym e ∙ f)

pub tried-refused : {F : Type 0} (tree : Ghosts F) (path : PathValue) (x : Change) (xs : List Change) (a : F) → is_on path x ≡ true → (IsTrue tree.tells → refusal_of (tree.contents a) x ≢ None) → Tries tree (x ∷ xs) a a (Err (stored.TargetDiffers path))
tried-refused tree path x xs a here refused told = record {
  runs = nothing-ran (x ∷ xs) (state_by tree.contents tree.calls a);
  done = λ h. absurd (cc h);
  differs = λ p h. subst (λ q. IsRefusedAt q (x ∷ xs) (state_by tree.contents tree.calls a) (state_by tree.contents tree.calls a)) (same-path path p (Err (stored.TargetDiffers path)) refl h) (refused-first path x xs (state_by tree.contents tree.calls a) here (refused told));
  agreed = λ p h. cc h;
}

-- ---- some changes, and then others

refused-later : (path : PathValue) (xs ys : List Change) (a b c : State) → first_refusal a.contents xs ≡ None → Runs xs a.calls b.calls a.contents b.contents true → IsRefusedAt path ys b c → IsRefusedAt path (xs ++ ys) a c
refused-later path xs ys a b c none ran more = record {
  before = xs ++ more.before;
  change = more.change;
  rest = more.rest;
  split = ap (λ l. xs ++ l) more.split ∙ sym (append_assoc xs more.before (more.change ∷ more.rest));
  here = more.here;
  ran = runs-then xs more.before a.calls b.calls c.calls a.contents b.contents c.contents true ran more.ran;
  unrefused = unrefused-both a.contents xs more.before none (ap (λ d. first_refusal d more.before) (sym (ran.after refl)) ∙ more.unrefused);
  refused = more.refused;
}

refused-front : (path : PathValue) (xs ys : List Change) (a b : State) → IsRefusedAt path xs a b → IsRefusedAt path (xs ++ ys) a b
refused-front path xs ys a b one = record {
  before = one.before;
  change = one.change;
  rest = one.rest ++ ys;
  split = ap (λ l. l ++ ys) one.split ∙ append_assoc one.before (one.change ∷ one.rest) ys;
  here = one.here;
  ran = one.ran;
  unrefused = one.unrefused;
  refused = one.refused;
}

pub tried-then : {F : Type 0} (tree : Ghosts F) (xs ys : List Change) (a b c : F) (u : Unit {0}) (r : Result (Unit {0}) StoredPerformFault) → Tries tree xs a b (Ok u) → Tries tree ys b c r → Tries tree (xs ++ ys) a c r
tried-then tree xs ys a b c u r one other told =
    let ran = one told in
    let more = other told in
    record {
      runs = runs-then xs ys (tree.calls a) (tree.calls b) (tree.calls c) (tree.contents a) (tree.contents b) (tree.contents c) _ ran.runs more.runs;
      done = λ h. unrefused-both (tree.contents a) xs ys (ran.done refl) (ap (λ d. first_refusal d ys) (sym (ran.runs.after refl)) ∙ more.done h);
      differs = λ p h. refused-later p xs ys (state_by tree.contents tree.calls a) (state_by tree.contents tree.calls b) (state_by tree.contents tree.calls c) (ran.done refl) ran.runs (more.differs p h);
      agreed = more.agreed;
    }

pub tried-front : {F : Type 0} (tree : Ghosts F) (xs ys : List Change) (a b : F) (e : StoredPerformFault) → Tries tree xs a b (Err e) → Tries tree (xs ++ ys) a b (Err e)
tried-front tree xs ys a b e one told =
    let ran = one told in
    record {
      runs = runs-front xs ys (tree.calls a) (tree.calls b) (tree.contents a) (tree.contents b) ran.runs;
      done = λ h. absurd (cc h);
      differs = λ p h. refused-front p xs ys (state_by tree.contents tree.calls a) (state_by tree.contents tree.calls b) (ran.differs p h);
      agreed = ran.agreed;
    }

-- what is meant is the same
pub tried-same : {F : Type 0} (tree : Ghosts F) (xs ys : List Change) (a b : F) (r : Result (Unit {0}) StoredPerformFault) → (IsTrue tree.tells → xs ≡ ys) → Tries tree xs a b r → Tries tree ys a b r
tried-same tree xs ys a b r is one told = subst (λ l. Tried l (state_by tree.contents tree.calls a) (state_by tree.contents tree.calls b) r) (is told) (one told)

pub tried-told : {F : Type 0} (tree : Ghosts F) (xs : List Change) (a b : F) (r s : Result (Unit {0}) StoredPerformFault) → s ≡ r → Tries tree xs a b r → Tries tree xs a b s
tried-told tree xs a b r s is one = subst (Tries tree xs a b) (sym is) one

-- a look before them
pub tried-read : {F : Type 0} (tree : Ghosts F) (xs : List Change) (a b c : F) (r : Result (Unit {0}) StoredPerformFault) → Reads tree a b → Tries tree xs b c r → Tries tree xs a c r
tried-read tree xs a b c r reads one told =
    subst (λ d. Tried xs (record { contents = d; calls = tree.calls a }) (state_by tree.contents tree.calls c) r) reads.same
    (subst (λ k. Tried xs (record { contents = tree.contents b; calls = k }) (state_by tree.contents tree.calls c) r) reads.uncalled (one told))

-- and one that broke off, or found that the next change is refused
pub look-broken : {F : Type 0} (tree : Ghosts F) (xs : List Change) (a b : F) (e : StoredPerformFault) → Reads tree a b → (IsTrue tree.tells → e ≡ stored.ReadFault) → Tries tree xs a b (Err e)
look-broken tree xs a b e reads is = tried-read tree xs a b b (Err e) reads (tried-broken tree xs b e is)

pub look-nothing : {F : Type 0} (tree : Ghosts F) (a b : F) (u : Unit {0}) → Reads tree a b → Tries tree [] a b (Ok u)
look-nothing tree a b u reads = tried-read tree [] a b b (Ok u) reads (tried-nothing tree b u)

-- ---- one change

stepped-elsewhere : (x : Change) (c d : Contents) → Step (call_of x) c d → (p : PathValue) → list_any (is_on p) (x ∷ []) ≡ false → entry_at d p ≡ entry_at c p
stepped-elsewhere x c d step p off = step-elsewhere (call_of x) c d p step (off_path x p (alone (is_on p x) off))
  where
    alone : (b : Bool) → (b || false) ≡ false → b ≡ false
    alone true e = e
    alone false e = e

ran-one : (x : Change) (a b : State) (done : Result (Unit {0}) TreeFault) (r : Bool) → (r ≡ true → (u : Unit {0}) × (done ≡ Ok u)) → OnOk done (b.contents ≡ changed_by a.contents x) → Makes (call_of x) a b done → Runs (x ∷ []) a.calls b.calls a.contents b.contents r
ran-one x a b (Ok u) r is left happened = record {
  made = call_of x ∷ [];
  grew = happened.listed;
  rest = [];
  joins = refl;
  all = λ h. refl;
  after = λ h. left;
  elsewhere = stepped-elsewhere x a.contents b.contents happened.step;
}
ran-one x a b (Err e) r is left (inl same) = record {
  made = [];
  grew = ap (λ (s : State). s.calls) same ∙ sym (append-nil a.calls);
  rest = call_of x ∷ [];
  joins = refl;
  all = λ h. absurd (cc (is h).1);
  after = λ h. absurd (cc (is h).1);
  elsewhere = λ p off. ap (λ (s : State). entry_at s.contents p) same;
}
ran-one x a b (Err e) r is left (inr happened) = record {
  made = call_of x ∷ [];
  grew = happened.1.listed;
  rest = [];
  joins = refl;
  all = λ h. refl;
  after = λ h. absurd (cc (is h).1);
  elsewhere = stepped-elsewhere x a.contents b.contents happened.1.step;
}

-- what a fault becomes about a path of the target
told-err : (path : PathValue) (s : StepFault) (x : Change) (a b : State) → Runs (x ∷ []) a.calls b.calls a.contents b.contents false → (s ≡ step.Contradicted → IsRefusedAt path (x ∷ []) a b) → Tried (x ∷ []) a b (at_target path (Err s))
told-err path step.ReadFault x a b ran refused = record { runs = ran; done = λ h. absurd (cc h); differs = λ p h. absurd (cc h); agreed = λ p h. cc h }
told-err path step.WriteFault x a b ran refused = record { runs = ran; done = λ h. absurd (cc h); differs = λ p h. absurd (cc h); agreed = λ p h. cc h }
told-err path step.Contradicted x a b ran refused = record {
  runs = ran;
  done = λ h. absurd (cc h);
  differs = λ p h. subst (λ q. IsRefusedAt q (x ∷ []) a b) (same-path path p (Err (stored.TargetDiffers path)) refl h) (refused refl);
  agreed = λ p h. cc h;
}

not-failed : (e : TreeFault) → e ≡ fault.Failed → fault_of e ≡ step.Contradicted → ⊥
not-failed e is h = cc (sym (ap fault_of is) ∙ h)

-- a refusal that isn't the device's
refused-one : (path : PathValue) (x : Change) (a b : State) (e : TreeFault) → is_on path x ≡ true → HasFailed e ⊎ (refusal_of a.contents x ≡ Some e) → Makes {A = Unit {0}} (call_of x) a b (Err e) → fault_of e ≡ step.Contradicted → IsRefusedAt path (x ∷ []) a b
refused-one path x a b e here (inl failed) made is = absurd (not-failed e failed is)
refused-one path x a b e here (inr refused) (inr happened) is = absurd (not-failed e happened.0 is)
refused-one path x a b e here (inr refused) (inl same) is = subst (λ s. IsRefusedAt path (x ∷ []) a s) (sym same) (refused-first path x [] a here (λ none. cc (sym refused ∙ none)))

one-told : (path : PathValue) (x : Change) (a b : State) (done : Result (Unit {0}) TreeFault) → is_on path x ≡ true → Passes HasFailed (refusal_of a.contents x) done → OnOk done (b.contents ≡ changed_by a.contents x) → Makes (call_of x) a b done → Tried (x ∷ []) a b (at_target path (settled done))
one-told path x a b (Ok u) here passes left made = record {
  runs = ran-one x a b (Ok u) true (λ h. (u, refl)) left made;
  done = λ h. ap (λ o. or_next o None) passes;
  differs = λ p h. absurd (cc h);
  agreed = λ p h. cc h;
}
one-told path x a b (Err e) here passes left made = told-err path (fault_of e) x a b (ran-one x a b (Err e) false (λ h. absurd (cc h)) left made) (refused-one path x a b e here passes made)

pub tried-one : {F : Type 0} (tree : Ghosts F) (path : PathValue) (x : Change) (a b : F) (done : Result (Unit {0}) TreeFault) (r : Result (Unit {0}) StepFault) → is_on path x ≡ true → r ≡ settled done
    → (IsTrue tree.tells → Passes HasFailed (refusal_of (tree.contents a) x) done) → (IsTrue tree.tells → OnOk done (tree.contents b ≡ changed_by (tree.contents a) x))
    → (IsTrue tree.tells → Makes (call_of x) (state_by tree.contents tree.calls a) (state_by tree.contents tree.calls b) done) → Tries tree (x ∷ []) a b (at_target path r)
tried-one tree path x a b done r here is passes left made told =
    subst (λ s. Tried (x ∷ []) (state_by tree.contents tree.calls a) (state_by tree.contents tree.calls b) (at_target path s)) (sym is)
    (one-told path x (state_by tree.contents tree.calls a) (state_by tree.contents tree.calls b) done here (passes told) (left told) (made told))

-- a sync, which nothing refuses
pub sync-done : {F : Type 0} (tree : Ghosts F) (a b : F) (u v : Unit {0}) → (IsTrue tree.tells → tree.contents b ≡ tree.contents a) → (IsTrue tree.tells → Makes {A = Unit {0}} (call_of Syncs) (state_by tree.contents tree.calls a) (state_by tree.contents tree.calls b) (Ok u)) → Tries tree (Syncs ∷ []) a b (Ok v)
sync-done tree a b u v same made told = record {
  runs = ran-one Syncs (state_by tree.contents tree.calls a) (state_by tree.contents tree.calls b) (Ok u) true (λ h. (u, refl)) (same told) (made told);
  done = λ h. refl;
  differs = λ p h. absurd (cc h);
  agreed = λ p h. cc h;
}

pub sync-broken : {F : Type 0} (tree : Ghosts F) (a b : F) (e : TreeFault) → (IsTrue tree.tells → Makes {A = Unit {0}} (call_of Syncs) (state_by tree.contents tree.calls a) (state_by tree.contents tree.calls b) (Err e)) → Tries tree (Syncs ∷ []) a b (Err stored.WriteFault)
sync-broken tree a b e made told = record {
  runs = ran-one Syncs (state_by tree.contents tree.calls a) (state_by tree.contents tree.calls b) (Err e) false (λ h. absurd (cc h)) tt (made told);
  done = λ h. absurd (cc h);
  differs = λ p h. absurd (cc h);
  agreed = λ p h. cc h;
}

pub failed-alone : (done : Result (Unit {0}) TreeFault) (e : TreeFault) → done ≡ Err e → RefusesOnly [] done → done ≡ Err fault.Failed
failed-alone (Ok u) e is row = absurd (cc is)
failed-alone (Err f) e is (inl failed) = ap Err failed
failed-alone (Err f) e is (inr none) = absurd none

-- ---- by the outcome about a path of the target

not-done : (path : PathValue) (s : StepFault) → (e : StoredPerformFault) × (at_target path (Err s) ≡ Err e)
not-done path step.ReadFault = (stored.ReadFault, refl)
not-done path step.WriteFault = (stored.WriteFault, refl)
not-done path step.Contradicted = (stored.TargetDiffers path, refl)

pub target-front : {F : Type 0} (tree : Ghosts F) (path : PathValue) (xs ys : List Change) (a b : F) (s : StepFault) → Tries tree xs a b (at_target path (Err s)) → Tries tree (xs ++ ys) a b (at_target path (Err s))
target-front tree path xs ys a b s one =
    let (e, is) = not-done path s in
    tried-told tree (xs ++ ys) a b (Err e) (at_target path (Err s)) is (tried-front tree xs ys a b e (tried-told tree xs a b (at_target path (Err s)) (Err e) (sym is) one))

-- a look that broke off before changes of a path
pub target-broken : {F : Type 0} (tree : Ghosts F) (path : PathValue) (xs : List Change) (a b : F) (s : StepFault) → Reads tree a b → s ≡ step.ReadFault → Tries tree xs a b (at_target path (Err s))
target-broken tree path xs a b s reads is = subst (λ f. Tries tree xs a b (at_target path (Err f))) (sym is) (look-broken tree xs a b stored.ReadFault reads (λ told. refl))

-- ---- changes that nothing refuses, which read the source

same-fault : (e f : StepFault) (r : Result (Unit {0}) StepFault) → r ≡ Err e → r ≡ Err f → e ≡ f
same-fault e f r is told = cc (sym is ∙ told)

pub carried-tried : (from : PathValue) (xs : List Change) (a b : State) (r : Result (Unit {0}) StepFault) (s : Result (Unit {0}) StoredPerformFault) → first_refusal a.contents xs ≡ None → Carried xs a b r → (s ≡ Ok tt) × (r ≡ Ok tt) ⊎ ((e : StepFault) × (r ≡ Err e) × (s ≡ Err (at_source from e))) → Tried xs a b s
carried-tried from xs a b r s none ran how = by r ran how
  where
    by : (q : Result (Unit {0}) StepFault) → Carried xs a b q → (s ≡ Ok tt) × (q ≡ Ok tt) ⊎ ((e : StepFault) × (q ≡ Err e) × (s ≡ Err (at_source from e))) → Tried xs a b s
    by (Ok u) ran (inl same) = subst (Tried xs a b) (sym same.0) (record { runs = ran.runs; done = λ h. none; differs = λ p h. absurd (cc h); agreed = λ p h. cc h })
    by (Ok u) ran (inr (e, is, told)) = absurd (cc is)
    by (Err f) ran (inl same) = absurd (cc same.1)
    by (Err step.ReadFault) ran (inr (e, is, told)) = subst (Tried xs a b) (sym (told ∙ ap (λ f. Err (at_source from f)) (same-fault e step.ReadFault (Err step.ReadFault) is refl))) (record { runs = ran.runs; done = λ h. none; differs = λ p h. absurd (cc h); agreed = λ p h. cc h })
    by (Err step.WriteFault) ran (inr (e, is, told)) = subst (Tried xs a b) (sym (told ∙ ap (λ f. Err (at_source from f)) (same-fault e step.WriteFault (Err step.WriteFault) is refl))) (record { runs = ran.runs; done = λ h. none; differs = λ p h. absurd (cc h); agreed = λ p h. cc h })
    by (Err step.Contradicted) ran (inr (e, is, told)) = absurd (ran.agreed refl)
