-- What a stop may leave of the end of a mark.
use Rattle.std.proofs.Common.{◌≡◌, ◌⊎◌, ℕ, ◌+◌, ◌==◌, ◌&&◌, Bool, true, false, cond, List, [], ◌∷◌, ◌++◌, refl, ap, sym, ◌∙◌, subst, inl, inr, ⊎_elim, append_assoc}
use Rattle.std.proofs.lemmas.List.{append-nil, append_cancel_left}
use Rattle.std.specs.FinMap.{remove}
use Rattle.cluster_tree.specs.Contents.{Contents}
use Rattle.cluster_tree.specs.Joined.{joined_onto, joined_writes}
use Rattle.cluster_tree.specs.PathOrder.{path_eq}
use Rattle.cluster_tree.specs.PathValue.{PathValue}
use Rattle.cluster_tree.specs.Run.{Moment, Occurs, Course, Still, Call}
use Rattle.cluster_tree.specs.Stops.{LeavesOnly}
use Rattle.cluster_tree.specs.declared.tree.ChangeCall.{ChangeCall}
use Rattle.cluster_tree.specs.declared.tree.ChangeCall.TheVariants.{Write, Cut, MakeFile, MakeFolder, Remove, Sync}
use Rattle.cluster_tree.proofs.Images.{Each, HoldsSince, Turns, Within, course_calls, holds_first, holds_on, holds_synced, leaves_only}
use Rattle.marked_runs.specs.Moments.{IsUntouched}
use Rattle.marked_runs.specs.Runs.{Runs, ended}
use Rattle.gated_marks.specs.Left.{IsEndLeft}

-- ---- calls without a write are joined to themselves

abbrev IsNoWrite : ChangeCall → Type 0
IsNoWrite (Write path at n) = ⊥
IsNoWrite (Cut path size) = Unit {0}
IsNoWrite (MakeFile path) = Unit {0}
IsNoWrite (MakeFolder path) = Unit {0}
IsNoWrite (Remove path) = Unit {0}
IsNoWrite Sync = Unit {0}

joins_write : (b : Bool) (path : PathValue) (at n m : ℕ) (calls others : List ChangeCall) → Each IsNoWrite (cond b (Write path at (n + m) ∷ calls) (Write path at n ∷ others)) → ⊥
joins_write true path at n m calls others all = all.0
joins_write false path at n m calls others all = all.0

onto-itself : (call : ChangeCall) (calls : List ChangeCall) → Each IsNoWrite (joined_onto call calls) → joined_onto call calls ≡ call ∷ calls
onto-itself (Write path at n) [] all = absurd all.0
onto-itself (Write path at n) (Write next from m ∷ calls) all = absurd (joins_write (path_eq path next && (from == at + n)) path at n m calls (Write next from m ∷ calls) all)
onto-itself (Write path at n) (Cut next size ∷ calls) all = absurd all.0
onto-itself (Write path at n) (MakeFile next ∷ calls) all = absurd all.0
onto-itself (Write path at n) (MakeFolder next ∷ calls) all = absurd all.0
onto-itself (Write path at n) (Remove next ∷ calls) all = absurd all.0
onto-itself (Write path at n) (Sync ∷ calls) all = absurd all.0
onto-itself (Cut path size) calls all = refl
onto-itself (MakeFile path) calls all = refl
onto-itself (MakeFolder path) calls all = refl
onto-itself (Remove path) calls all = refl
onto-itself Sync calls all = refl

joined-itself : (calls : List ChangeCall) → Each IsNoWrite (joined_writes calls) → joined_writes calls ≡ calls
joined-itself [] all = refl
joined-itself (call ∷ calls) all =
    let e = onto-itself call (joined_writes calls) all in
    e ∙ ap (λ l. call ∷ l) (joined-itself calls ((subst (Each IsNoWrite) e all).1))

-- ---- the calls of the end, one after another

abbrev the_end : PathValue → List ChangeCall
the_end mark = Sync ∷ Remove mark ∷ Sync ∷ []

module _ (mark : PathValue) (a : Moment) where
  -- with the mark, or without
  abbrev gone : Contents → Type 0
  gone c = (c ≡ a.state.contents) ⊎ (c ≡ remove a.state.contents mark)

  -- what holds after the first of the calls
  abbrev so_far : List ChangeCall → Contents → Type 0
  so_far [] c = IsUntouched a c
  so_far (x ∷ []) c = c ≡ a.state.contents
  so_far (x ∷ y ∷ calls) c = gone c

  -- up to the removal the contents stay
  abbrev as_first : List ChangeCall → Contents → Type 0
  as_first [] c = c ≡ a.state.contents
  as_first (x ∷ []) c = c ≡ a.state.contents
  as_first (x ∷ y ∷ calls) c = Unit {0}

  so_far-left : (calls : List ChangeCall) → Within (so_far calls) (IsEndLeft a mark)
  so_far-left [] c q = inl q
  so_far-left (x ∷ []) c q = inl (inl q)
  so_far-left (x ∷ y ∷ calls) c q = ⊎_elim (λ e. inl (inl e)) (λ e. inr e) q

  removes : Turns (λ c. c ≡ a.state.contents) (Remove mark) gone
  removes c d q (inl same) = inl (same ∙ q)
  removes c d q (inr removed) = inr (removed.1 ∙ ap (λ k. remove k mark) q)

  abbrev Holds : List ChangeCall → Moment → Type 0
  Holds calls b = HoldsSince (IsEndLeft a mark) (so_far calls) a b × as_first calls b.state.contents

  not_more : (calls : List ChangeCall) (x : ChangeCall) (others : List ChangeCall) → calls ++ x ∷ others ≡ [] → ⊥
  not_more [] x others e = cc e
  not_more (y ∷ calls) x others e = cc e

  -- one more of them
  one-more : (calls : List ChangeCall) (call : ChangeCall) (others : List ChangeCall) (b d : Moment) → calls ++ call ∷ others ≡ the_end mark → Holds calls b → Occurs call b d → Holds (calls ++ call ∷ []) d
  one-more [] call others b d e h on =
      let is : call ≡ Sync = cc e in
      let sync : Occurs Sync b d = subst (λ k. Occurs k b d) is on in
      (holds_synced (IsEndLeft a mark) (so_far []) (λ c. c ≡ a.state.contents) a b d h.0 sync (so_far-left []) h.1, sync.happens.step ∙ h.1)
  one-more (x ∷ []) call others b d e h on =
      let is : call ≡ Remove mark = cc e in
      (holds_on (IsEndLeft a mark) (λ c. c ≡ a.state.contents) gone a b d (Remove mark) h.0 (subst (λ k. Occurs k b d) is on) (so_far-left (x ∷ [])) removes, tt)
  one-more (x ∷ y ∷ []) call others b d e h on =
      let is : call ≡ Sync = cc e in
      (holds_on (IsEndLeft a mark) gone gone a b d Sync h.0 (subst (λ k. Occurs k b d) is on) (so_far-left (x ∷ y ∷ [])) (λ c k q same. subst gone (sym same) q), tt)
  one-more (x ∷ y ∷ z ∷ calls) call others b d e h on = let none : calls ++ call ∷ others ≡ [] = cc e in absurd (not_more calls call others none)

  end-holds : (b : Moment) (calls others : List ChangeCall) → calls ++ others ≡ the_end mark → Course a b → b.state.calls ≡ a.state.calls ++ calls → Holds calls b
  end-holds b calls others e Still same =
      let none : [] ≡ calls = append_cancel_left a.state.calls [] calls (append-nil a.state.calls ∙ same) in
      subst (λ l. Holds l b) none (holds_first (IsEndLeft a mark) (so_far []) a (inl refl) (λ c image. inr image), refl)
  end-holds b calls others e (Call {mid} call course on) same =
      let (ys, l) = course_calls a mid course in
      let is : ys ++ call ∷ [] ≡ calls = append_cancel_left a.state.calls _ _ (sym (on.happens.listed ∙ ap (λ k. k ++ call ∷ []) l ∙ append_assoc a.state.calls _ _) ∙ same) in
      let whole : ys ++ call ∷ others ≡ the_end mark = sym (append_assoc ys (call ∷ []) others) ∙ ap (λ k. k ++ others) is ∙ e in
      subst (λ k. Holds k b) is (one-more ys call others mid b whole (end-holds mid ys (call ∷ others) whole course l) on)

pub end-left : (mark : PathValue) (a b : Moment) (done : Bool) → Course a b → Runs (ended mark) a.state.calls b.state.calls a.state.contents b.state.contents done → LeavesOnly (IsEndLeft a mark) a.stops b.stops
end-left mark a b done course ran =
    let bare : Each IsNoWrite (the_end mark) = (tt, (tt, (tt, tt))) in
    let whole : ran.made ++ ran.rest ≡ the_end mark = sym (joined-itself (ran.made ++ ran.rest) (subst (Each IsNoWrite) (sym ran.joins) bare)) ∙ ran.joins in
    leaves_only (IsEndLeft a mark) (so_far mark a ran.made) a b ((end-holds mark a b ran.made ran.rest whole course ran.grew).0) (so_far-left mark a ran.made)
