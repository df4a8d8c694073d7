-- The end of a mark: up to its first sync what a stop leaves is as before, and then the contents, or those without the mark.
use Rattle.std.proofs.Common.{◌≡◌, ◌⊎◌, ℕ, ◌+◌, ◌==◌, ◌&&◌, Bool, true, false, cond, List, [], ◌∷◌, ◌++◌, inl, inr, refl, sym, ap, ◌∙◌, subst, append_assoc}
use Rattle.std.proofs.lemmas.List.{append-nil, append_cancel_left, same_from_push}
use Rattle.std.specs.FinMap.{remove}
use Rattle.cluster_tree.specs.Contents.{Contents}
use Rattle.cluster_tree.specs.Joined.{joined_onto, joined_writes}
use Rattle.cluster_tree.specs.PathValue.{PathValue}
use Rattle.cluster_tree.specs.PathOrder.{path_eq}
use Rattle.cluster_tree.specs.Run.{Call, Course, Moment, Occurs, Still}
use Rattle.cluster_tree.specs.Stops.{LeavesOnly, MayBeLeft}
use Rattle.cluster_tree.specs.declared.tree.ChangeCall.{ChangeCall}
use Rattle.cluster_tree.specs.declared.tree.ChangeCall.TheVariants.{Write, Cut, MakeFile, MakeFolder, Remove, Sync}
use Rattle.cluster_tree.proofs.Images.{HoldsSince, Turns, course_calls, holds_first, holds_on, holds_synced, leaves_only}
use Rattle.marked_runs.specs.Moments.{IsGone}
use Rattle.marked_runs.specs.Runs.{Runs, ended}

-- ---- calls without a write

abbrev pub NoWrite : ChangeCall → Type 0
NoWrite (Write path at n) = ⊥
NoWrite (Cut path size) = Unit {0}
NoWrite (MakeFile path) = Unit {0}
NoWrite (MakeFolder path) = Unit {0}
NoWrite (Remove path) = Unit {0}
NoWrite Sync = Unit {0}

abbrev pub NoWrites : List ChangeCall → Type 0
NoWrites [] = Unit {0}
NoWrites (call ∷ calls) = NoWrite call × NoWrites calls

write-first : (path : PathValue) (at n : ℕ) (calls ys : List ChangeCall) → Write path at n ∷ calls ≡ ys → NoWrites ys → ⊥
write-first path at n calls ys e none = (subst NoWrites (sym e) none).0

write-joined : (path : PathValue) (at n : ℕ) (calls ys : List ChangeCall) → joined_onto (Write path at n) calls ≡ ys → NoWrites ys → ⊥
write-joined path at n [] ys e none = write-first path at n [] ys e none
write-joined path at n (Write next from m ∷ calls) ys e none = by (path_eq path next && (from == at + n)) e
  where
    by : (b : Bool) → cond b (Write path at (n + m) ∷ calls) (Write path at n ∷ Write next from m ∷ calls) ≡ ys → ⊥
    by true h = write-first path at (n + m) calls ys h none
    by false h = write-first path at n (Write next from m ∷ calls) ys h none
write-joined path at n (Cut next size ∷ calls) ys e none = write-first path at n (Cut next size ∷ calls) ys e none
write-joined path at n (MakeFile next ∷ calls) ys e none = write-first path at n (MakeFile next ∷ calls) ys e none
write-joined path at n (MakeFolder next ∷ calls) ys e none = write-first path at n (MakeFolder next ∷ calls) ys e none
write-joined path at n (Remove next ∷ calls) ys e none = write-first path at n (Remove next ∷ calls) ys e none
write-joined path at n (Sync ∷ calls) ys e none = write-first path at n (Sync ∷ calls) ys e none

-- what joins to such calls is these
pub plain-joined : (xs ys : List ChangeCall) → NoWrites ys → joined_writes xs ≡ ys → xs ≡ ys
plain-joined [] ys none e = e
plain-joined (Write path at n ∷ xs) ys none e = absurd (write-joined path at n (joined_writes xs) ys e none)
plain-joined (Cut path size ∷ xs) ys none e = ap (λ l. Cut path size ∷ l) (plain-joined xs (joined_writes xs) (subst NoWrites (sym e) none).1 refl) ∙ e
plain-joined (MakeFile path ∷ xs) ys none e = ap (λ l. MakeFile path ∷ l) (plain-joined xs (joined_writes xs) (subst NoWrites (sym e) none).1 refl) ∙ e
plain-joined (MakeFolder path ∷ xs) ys none e = ap (λ l. MakeFolder path ∷ l) (plain-joined xs (joined_writes xs) (subst NoWrites (sym e) none).1 refl) ∙ e
plain-joined (Remove path ∷ xs) ys none e = ap (λ l. Remove path ∷ l) (plain-joined xs (joined_writes xs) (subst NoWrites (sym e) none).1 refl) ∙ e
plain-joined (Sync ∷ xs) ys none e = ap (λ l. Sync ∷ l) (plain-joined xs (joined_writes xs) (subst NoWrites (sym e) none).1 refl) ∙ e

-- ---- the last call of a course

pushed-some : {A : Type 0} (xs : List A) (x : A) → xs ++ x ∷ [] ≡ [] → ⊥
pushed-some [] x e = absurd (cc e)
pushed-some (y ∷ xs) x e = absurd (cc e)

course-grew : (a mid b : Moment) (call : ChangeCall) (ys : List ChangeCall) → Course a mid → Occurs call mid b → b.state.calls ≡ a.state.calls ++ ys → (zs : List ChangeCall) × (mid.state.calls ≡ a.state.calls ++ zs) × (zs ++ call ∷ [] ≡ ys)
course-grew a mid b call ys course on e =
    let (zs, before) = course_calls a mid course in
    (zs, before, append_cancel_left a.state.calls (zs ++ call ∷ []) ys (sym (on.happens.listed ∙ ap (λ l. l ++ call ∷ []) before ∙ append_assoc a.state.calls zs (call ∷ [])) ∙ e))

course-none : (a b : Moment) → Course a b → b.state.calls ≡ a.state.calls ++ [] → b ≡ a
course-none a b Still e = refl
course-none a b (Call {mid} call course on) e = let grew = course-grew a mid b call [] course on e in absurd (pushed-some grew.0 call grew.2)

pub course-last : (a b : Moment) (ys : List ChangeCall) (call : ChangeCall) → Course a b → b.state.calls ≡ a.state.calls ++ (ys ++ call ∷ []) → (mid : Moment) × Course a mid × (mid.state.calls ≡ a.state.calls ++ ys) × Occurs call mid b
course-last a b ys call Still e = absurd (pushed-some ys call (sym (append_cancel_left a.state.calls [] (ys ++ call ∷ []) (append-nil a.state.calls ∙ e))))
course-last a b ys call (Call {mid} last course on) e =
    let grew = course-grew a mid b last (ys ++ call ∷ []) course on e in
    let same = same_from_push grew.0 ys last call grew.2 in
    (mid, course, grew.1 ∙ ap (λ l. a.state.calls ++ l) same.0, subst (λ x. Occurs x mid b) same.1 on)

-- ---- from moment to moment

module _ (Q : Contents → Type 0) (mark : PathValue) (a : Moment) (now : Q a.state.contents) (left : (d : Contents) → MayBeLeft a.stops d → Q d) where
  abbrev pub OrGone : Contents → Type 0
  OrGone d = Q d ⊎ (d ≡ remove a.state.contents mark)

  abbrev Same : Contents → Type 0
  Same d = d ≡ a.state.contents

  same-or : (d : Contents) → Same d → OrGone d
  same-or d e = inl (subst Q (sym e) now)

  gone-or : (d : Contents) → IsGone mark a.state.contents d → OrGone d
  gone-or d (inl e) = same-or d e
  gone-or d (inr e) = inr e

  gone-turns : Turns Same (Remove mark) (IsGone mark a.state.contents)
  gone-turns c d e (inl same) = inl (same ∙ e)
  gone-turns c d e (inr removed) = inr (removed.1 ∙ ap (λ k. remove k mark) e)

  sync-turns : Turns (IsGone mark a.state.contents) Sync (IsGone mark a.state.contents)
  sync-turns c d gone same = subst (IsGone mark a.state.contents) (sym same) gone

  first : HoldsSince OrGone Q a a
  first = holds_first OrGone Q a now left

  synced : (b : Moment) → Course a b → b.state.calls ≡ a.state.calls ++ (Sync ∷ []) → HoldsSince OrGone Same a b
  synced b course e =
      let (mid, before, calls, on) = course-last a b [] Sync course e in
      holds_synced OrGone Q Same a a b first (subst (λ m. Occurs Sync m b) (course-none a mid before calls) on) (λ d q. inl q) refl

  removed : (b : Moment) → Course a b → b.state.calls ≡ a.state.calls ++ (Sync ∷ Remove mark ∷ []) → HoldsSince OrGone (IsGone mark a.state.contents) a b
  removed b course e =
      let (mid, before, calls, on) = course-last a b (Sync ∷ []) (Remove mark) course e in
      holds_on OrGone Same (IsGone mark a.state.contents) a mid b (Remove mark) (synced mid before calls) on same-or gone-turns

  finished : (b : Moment) → Course a b → b.state.calls ≡ a.state.calls ++ (Sync ∷ Remove mark ∷ Sync ∷ []) → HoldsSince OrGone (IsGone mark a.state.contents) a b
  finished b course e =
      let (mid, before, calls, on) = course-last a b (Sync ∷ Remove mark ∷ []) Sync course e in
      holds_on OrGone (IsGone mark a.state.contents) (IsGone mark a.state.contents) a mid b Sync (removed mid before calls) on gone-or sync-turns

  by-calls : (b : Moment) (made rest : List ChangeCall) → made ++ rest ≡ Sync ∷ Remove mark ∷ Sync ∷ [] → Course a b → b.state.calls ≡ a.state.calls ++ made → LeavesOnly OrGone a.stops b.stops
  by-calls b [] rest is course e = subst (λ m. LeavesOnly OrGone a.stops m.stops) (sym (course-none a b course e)) (leaves_only OrGone Q a a first (λ d q. inl q))
  by-calls b (x ∷ []) rest is course e =
      let one : x ≡ Sync = cc is in
      leaves_only OrGone Same a b (synced b course (e ∙ ap (λ y. a.state.calls ++ (y ∷ [])) one)) same-or
  by-calls b (x ∷ y ∷ []) rest is course e =
      let one : x ≡ Sync = cc is in
      let two : y ≡ Remove mark = cc is in
      leaves_only OrGone (IsGone mark a.state.contents) a b (removed b course (e ∙ ap (λ z. a.state.calls ++ (z ∷ y ∷ [])) one ∙ ap (λ z. a.state.calls ++ (Sync ∷ z ∷ [])) two)) gone-or
  by-calls b (x ∷ y ∷ z ∷ []) rest is course e =
      let one : x ≡ Sync = cc is in
      let two : y ≡ Remove mark = cc is in
      let three : z ≡ Sync = cc is in
      leaves_only OrGone (IsGone mark a.state.contents) a b
      (finished b course (e ∙ ap (λ v. a.state.calls ++ (v ∷ y ∷ z ∷ [])) one ∙ ap (λ v. a.state.calls ++ (Sync ∷ v ∷ z ∷ [])) two ∙ ap (λ v. a.state.calls ++ (Sync ∷ Remove mark ∷ v ∷ [])) three)) gone-or
  by-calls b (x ∷ y ∷ z ∷ w ∷ more) rest is course e = absurd (cc is)

  pub end-leaves : (b : Moment) (done : Bool) → Course a b → Runs (ended mark) a.state.calls b.state.calls a.state.contents b.state.contents done → LeavesOnly OrGone a.stops b.stops
  end-leaves b done course ran = by-calls b ran.made ran.rest (plain-joined (ran.made ++ ran.rest) (Sync ∷ Remove mark ∷ Sync ∷ []) (tt, (tt, (tt, tt))) ran.joins) course ran.grew
