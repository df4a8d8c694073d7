-- What a stop may leave while a mark is made, stands, and is removed.
use Rattle.std.proofs.Common.{◌≡◌, ◌⊎◌, ℕ, IsTrue, List, [], ◌∷◌, ◌++◌, false, length, None, refl, ap, sym, ◌∙◌, subst, inl, inr, ⊎_elim, is_some, Result, Ok, Err, OnOk, MatchResult}
use Rattle.std.specs.FinMap.{insert, remove}
use Rattle.cluster_tree.specs.PathValue.{PathValue}
use Rattle.cluster_tree.specs.Change.{Change, MakesFile, Removes, Syncs, Writes, call_of, first_refusal}
use Rattle.cluster_tree.specs.Contents.{Contents, Entry}
use Rattle.cluster_tree.specs.Frame.{Came, moment_of}
use Rattle.cluster_tree.specs.Marks.{is_there}
use Rattle.cluster_tree.specs.Run.{Moment, Occurs, Pends}
use Rattle.cluster_tree.specs.Stops.{MayBeLeft, LeavesOnly}
use Rattle.cluster_tree.specs.declared.tree.ChangeCall.TheVariants as call
use Rattle.cluster_tree.specs.declared.tree.Tree.{Ghosts}
use Rattle.cluster_tree.specs.declared.tree.TreeFault.{TreeFault}
use Rattle.cluster_tree.specs.declared.tree.TreeFault.TheVariants as fault
use Rattle.cluster_tree.proofs.ContentsLemmas.{entry-put}
use Rattle.cluster_tree.proofs.Images.{HoldsSince, Within, Turns, KeptBy, holds_first, holds_made, leaves_only}
use Rattle.cluster_tree.proofs.RunLemmas.{course_of}
use Rattle.marked_runs.specs.Carried.{Carries}
use Rattle.marked_runs.specs.Moments.{IsMarked, StandsMarked, StandsSynced, IsBegun, IsEnded, IsGone, Took}
use Rattle.marked_runs.specs.Runs.{begun, ended}
use Rattle.marked_runs.specs.Settled.{settled}
use Rattle.marked_runs.specs.declared.faults.StepFault.{StepFault}
use Rattle.marked_runs.proofs.CarriedLemmas.{both_unrefused}
use Rattle.marked_runs.proofs.StopLemmas.{holds_runs, leaves_weaker, leaves_on}

-- a step of one call takes it
pub took-settled : {F : Type 0} (tree : Ghosts F) (x : Change) (a b : F) (done : Result (Unit {0}) TreeFault) (r : Result (Unit {0}) StepFault) → r ≡ settled done → (IsTrue tree.tells → Pends (call_of x) (moment_of tree a) (moment_of tree b) done) → Took tree x a b r
took-settled tree x a b (Ok u) r is pends told = subst (λ o. MatchResult o (λ _. Occurs (call_of x) (moment_of tree a) (moment_of tree b)) (λ _. (moment_of tree b ≡ moment_of tree a) ⊎ Occurs (call_of x) (moment_of tree a) (moment_of tree b))) (sym is) (pends told)
took-settled tree x a b (Err e) r is pends told = subst (λ o. MatchResult o (λ _. Occurs (call_of x) (moment_of tree a) (moment_of tree b)) (λ _. (moment_of tree b ≡ moment_of tree a) ⊎ Occurs (call_of x) (moment_of tree a) (moment_of tree b))) (sym is) (⊎_elim (λ same. inl same) (λ m. inr m.1) (pends told))

-- what holds goes on over such a step, whatever it answers
took-holds : {F : Type 0} (tree : Ghosts F) (P Q R : Contents → Type 0) (first : Moment) (a b : F) (x : Change) (r : Result (Unit {0}) StepFault) → HoldsSince P Q first (moment_of tree a) → IsTrue tree.tells → Took tree x a b r → Within Q P → Within Q R → Turns Q (call_of x) R → HoldsSince P R first (moment_of tree b)
took-holds tree P Q R first a b x (Ok u) h told took within kept turns = holds_made {A = Unit {0}} P Q R first (moment_of tree a) (moment_of tree b) (call_of x) (Ok tt) h (took told) within kept turns
took-holds tree P Q R first a b x (Err e) h told took within kept turns = holds_made {A = Unit {0}} P Q R first (moment_of tree a) (moment_of tree b) (call_of x) (Err fault.Failed) h (⊎_elim (λ same. inl same) (λ o. inr (refl, o)) (took told)) within kept turns

-- a sync keeps all
sync-keeps : (Q : Contents → Type 0) → KeptBy Q call.Sync
sync-keeps Q c d q same = subst Q (sym same) q

-- an entry at a mark's path marks
put-marked : (mark : PathValue) (c d : Contents) (entry : Entry) → d ≡ insert c mark entry → IsMarked mark d
put-marked mark c d entry is = ap (λ k. is_there k mark) is ∙ ap is_some (entry-put c mark entry)

make-begun : (mark : PathValue) (first : Moment) → KeptBy (IsBegun mark first) (call.MakeFile mark)
make-begun mark first c d q (inl same) = subst (IsBegun mark first) (sym same) q
make-begun mark first c d q (inr made) = inr (put-marked mark c d _ made.1)

write-begun : (mark : PathValue) (first : Moment) (at n : ℕ) → KeptBy (IsBegun mark first) (call.Write mark at n)
write-begun mark first at n c d q (inl same) = subst (IsBegun mark first) (sym same) q
write-begun mark first at n c d q (inr torn) = inr (put-marked mark c d _ torn.is)

-- after a sync nothing but the contents is left
synced-alone : (a b : Moment) → Occurs call.Sync a b → StandsSynced a.state.contents b
synced-alone a b on = record { now = on.happens.step; left = λ c image. subst (λ s. MayBeLeft s c) on.stops image }

module _ {F : Type 0} (tree : Ghosts F) (mark : PathValue) (told : IsTrue tree.tells) where
  module _ (text : List ℕ) (a b : F) (none : first_refusal (tree.contents a) (begun mark text) ≡ None) (came : Came tree a b) where
    begun-so-far : (r : Result (Unit {0}) StepFault) → Carries tree (MakesFile mark ∷ Writes mark 0 text ∷ []) a b r → HoldsSince (IsBegun mark (moment_of tree a)) (IsBegun mark (moment_of tree a)) (moment_of tree a) (moment_of tree b)
    begun-so-far r carries =
        let Q : Contents → Type 0 = IsBegun mark (moment_of tree a) in
        holds_runs Q Q (moment_of tree a) (moment_of tree a) (moment_of tree b) (MakesFile mark ∷ Writes mark 0 text ∷ []) _
        (holds_first Q Q (moment_of tree a) (inl (inl refl)) (λ c image. inl (inr image)))
        (λ c q. q) (course_of tree a b came) (carries told (both_unrefused (tree.contents a) (MakesFile mark ∷ Writes mark 0 text ∷ []) (Syncs ∷ []) none).0).runs
        (make-begun mark (moment_of tree a), (write-begun mark (moment_of tree a), tt))

    pub begin-broken : (e : StepFault) → Carries tree (MakesFile mark ∷ Writes mark 0 text ∷ []) a b (Err e) → LeavesOnly (IsBegun mark (moment_of tree a)) (tree.stops a) (tree.stops b)
    begin-broken e carries = leaves_only (IsBegun mark (moment_of tree a)) (IsBegun mark (moment_of tree a)) (moment_of tree a) (moment_of tree b) (begun-so-far (Err e) carries) (λ c q. q)

    pub begin-left : (d : F) (u : Unit {0}) (r : Result (Unit {0}) StepFault) → Carries tree (MakesFile mark ∷ Writes mark 0 text ∷ []) a b (Ok u) → Took tree Syncs b d r → LeavesOnly (IsBegun mark (moment_of tree a)) (tree.stops a) (tree.stops d)
    begin-left d u r carries took =
        let Q : Contents → Type 0 = IsBegun mark (moment_of tree a) in
        leaves_only Q Q (moment_of tree a) (moment_of tree d)
        (took-holds tree Q Q Q (moment_of tree a) b d Syncs r (begun-so-far (Ok u) carries) told took (λ c q. q) (λ c q. q) (sync-keeps Q))
        (λ c q. q)

    pub begin-marked : (d : F) (u : Unit {0}) (r : Result (Unit {0}) StepFault) → Carries tree (MakesFile mark ∷ Writes mark 0 text ∷ []) a b (Ok u) → Took tree Syncs b d r → OnOk r (StandsMarked mark (moment_of tree d))
    begin-marked d u (Ok v) carries took =
        let stands : IsMarked mark (tree.contents b) = put-marked mark _ _ _ ((carries told (both_unrefused (tree.contents a) (MakesFile mark ∷ Writes mark 0 text ∷ []) (Syncs ∷ []) none).0).runs.after refl) in
        let synced = synced-alone (moment_of tree b) (moment_of tree d) (took told) in
        record { now = subst (IsMarked mark) (sym synced.now) stands; left = λ c image. subst (IsMarked mark) (sym (synced.left c image)) stands }
    begin-marked d u (Err e) carries took = tt

  -- the mark is away, or not
  gone-turns : (a : F) → Turns (λ c. c ≡ tree.contents a) (call.Remove mark) (IsGone mark (tree.contents a))
  gone-turns a c d q (inl same) = inl (same ∙ q)
  gone-turns a c d q (inr removed) = inr (removed.1 ∙ ap (λ k. remove k mark) q)

  gone-so-far : (a b : F) (r : Result (Unit {0}) StepFault) → StandsSynced (tree.contents a) (moment_of tree a) → Took tree (Removes mark) a b r → HoldsSince (IsGone mark (tree.contents a)) (IsGone mark (tree.contents a)) (moment_of tree a) (moment_of tree b)
  gone-so-far a b r synced took =
      took-holds tree (IsGone mark (tree.contents a)) (λ c. c ≡ tree.contents a) (IsGone mark (tree.contents a)) (moment_of tree a) a b (Removes mark) r
      (holds_first (IsGone mark (tree.contents a)) (λ c. c ≡ tree.contents a) (moment_of tree a) refl synced.left)
      told took (λ c q. inl q) (λ c q. inl q) (gone-turns a)

  pub unmark-broken : (a b : F) (e : StepFault) → StandsSynced (tree.contents a) (moment_of tree a) → Took tree (Removes mark) a b (Err e) → LeavesOnly (IsGone mark (tree.contents a)) (tree.stops a) (tree.stops b)
  unmark-broken a b e synced took = leaves_only (IsGone mark (tree.contents a)) (IsGone mark (tree.contents a)) (moment_of tree a) (moment_of tree b) (gone-so-far a b (Err e) synced took) (λ c q. q)

  pub unmark-left : (a b d : F) (u : Unit {0}) (r : Result (Unit {0}) StepFault) → StandsSynced (tree.contents a) (moment_of tree a) → Took tree (Removes mark) a b (Ok u) → Took tree Syncs b d r → LeavesOnly (IsGone mark (tree.contents a)) (tree.stops a) (tree.stops d)
  unmark-left a b d u r synced took more =
      leaves_only (IsGone mark (tree.contents a)) (IsGone mark (tree.contents a)) (moment_of tree a) (moment_of tree d)
      (took-holds tree (IsGone mark (tree.contents a)) (IsGone mark (tree.contents a)) (IsGone mark (tree.contents a)) (moment_of tree a) b d Syncs r (gone-so-far a b (Ok u) synced took) told more (λ c q. q) (λ c q. q) (sync-keeps (IsGone mark (tree.contents a))))
      (λ c q. q)

  pub unmark-synced : (a b d : F) (u : Unit {0}) (r : Result (Unit {0}) StepFault) → first_refusal (tree.contents a) (Removes mark ∷ Syncs ∷ []) ≡ None → Carries tree (Removes mark ∷ []) a b (Ok u) → Took tree Syncs b d r → OnOk r (StandsSynced (remove (tree.contents a) mark) (moment_of tree d))
  unmark-synced a b d u (Ok v) none carries took =
      let after : tree.contents b ≡ remove (tree.contents a) mark = (carries told (both_unrefused (tree.contents a) (Removes mark ∷ []) (Syncs ∷ []) none).0).runs.after refl in
      let synced = synced-alone (moment_of tree b) (moment_of tree d) (took told) in
      record { now = synced.now ∙ after; left = λ c image. synced.left c image ∙ after }
  unmark-synced a b d u (Err e) none carries took = tt

  -- all is synced, or broke off before
  marked-so-far : (a b : F) (r : Result (Unit {0}) StepFault) → StandsMarked mark (moment_of tree a) → Took tree Syncs a b r → LeavesOnly (IsEnded mark (remove (tree.contents a) mark)) (tree.stops a) (tree.stops b)
  marked-so-far a b r stands took =
      let P : Contents → Type 0 = IsEnded mark (remove (tree.contents a) mark) in
      leaves_only P (IsMarked mark) (moment_of tree a) (moment_of tree b)
      (took-holds tree P (IsMarked mark) (IsMarked mark) (moment_of tree a) a b Syncs r
      (holds_first P (IsMarked mark) (moment_of tree a) stands.now stands.left) told took (λ c q. inl q) (λ c q. q) (sync-keeps (IsMarked mark)))
      (λ c q. inl q)

  pub finish-broken : (a b : F) (e : StepFault) → StandsMarked mark (moment_of tree a) → Took tree Syncs a b (Err e) → LeavesOnly (IsEnded mark (remove (tree.contents a) mark)) (tree.stops a) (tree.stops b)
  finish-broken a b e stands took = marked-so-far a b (Err e) stands took

  pub synced-first : (a b : F) (u : Unit {0}) → Took tree Syncs a b (Ok u) → StandsSynced (tree.contents b) (moment_of tree b)
  synced-first a b u took = let synced = synced-alone (moment_of tree a) (moment_of tree b) (took told) in record { now = refl; left = λ c image. synced.left c image ∙ sym synced.now }

  pub finish-left : (a b d : F) (u : Unit {0}) → StandsMarked mark (moment_of tree a) → Took tree Syncs a b (Ok u) → Came tree a b → Came tree b d → LeavesOnly (IsGone mark (tree.contents b)) (tree.stops b) (tree.stops d) → LeavesOnly (IsEnded mark (remove (tree.contents a) mark)) (tree.stops a) (tree.stops d)
  finish-left a b d u stands took one other left =
      let P : Contents → Type 0 = IsEnded mark (remove (tree.contents a) mark) in
      let on : Occurs call.Sync (moment_of tree a) (moment_of tree b) = took told in
      let same : tree.contents b ≡ tree.contents a = on.happens.step in
      leaves_on P (moment_of tree a) (moment_of tree b) (moment_of tree d) (course_of tree a b one) (course_of tree b d other) (marked-so-far a b (Ok u) stands took)
      (leaves_weaker (IsGone mark (tree.contents b)) P (tree.stops b) (tree.stops d) (λ c. ⊎_elim (λ e. inl (subst (IsMarked mark) (sym (e ∙ same)) stands.now)) (λ e. inr (e ∙ ap (λ k. remove k mark) same))) left)

  pub finish-synced : (a b d : F) (u : Unit {0}) (r : Result (Unit {0}) StepFault) → first_refusal (tree.contents a) (ended mark) ≡ None → Took tree Syncs a b (Ok u)
      → (first_refusal (tree.contents b) (Removes mark ∷ Syncs ∷ []) ≡ None → OnOk r (StandsSynced (remove (tree.contents b) mark) (moment_of tree d))) → OnOk r (StandsSynced (remove (tree.contents a) mark) (moment_of tree d))
  finish-synced a b d u r none took left =
      let on : Occurs call.Sync (moment_of tree a) (moment_of tree b) = took told in
      let same : tree.contents b ≡ tree.contents a = on.happens.step in
      subst (λ k. OnOk r (StandsSynced (remove k mark) (moment_of tree d))) same
      (left (ap (λ k. first_refusal k (Removes mark ∷ Syncs ∷ [])) same ∙ (both_unrefused (tree.contents a) (Syncs ∷ []) (Removes mark ∷ Syncs ∷ []) none).1))
