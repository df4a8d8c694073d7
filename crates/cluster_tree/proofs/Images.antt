-- What a stop at any moment of a run may leave.
use Rattle.std.proofs.Common.{◌≡◌, ◌≤◌, ℕ, ◌⊎◌, zero, suc, inl, inr, ⊎_elim, refl, sym, subst, ap, ◌∙◌, List, [], ◌∷◌, ◌++◌, length, drop, take, arith, append_assoc, append-nil, Result, Ok, Err}
use Rattle.std.proofs.lemmas.List.{drop-append-le, append_cancel_left}
use Rattle.std.proofs.lemmas.Grind.{common_steps}
use Rattle.cluster_tree.specs.Contents.{Contents}
use Rattle.cluster_tree.specs.Step.{Step}
use Rattle.cluster_tree.specs.Stops.{Stops, Epoch, with_pending, IsImage, HadBeen, MayBeLeft, LeavesOnly}
use Rattle.cluster_tree.specs.Run.{Moment, Occurs, Course, Still, Call, Pends}
use Rattle.cluster_tree.specs.declared.tree.TreeFault.{TreeFault}
use Rattle.cluster_tree.specs.declared.tree.ChangeCall.{ChangeCall}
use Rattle.cluster_tree.specs.declared.tree.ChangeCall.TheVariants as call

-- one more call is one more step
pub image-more : (calls : List ChangeCall) (ch : ChangeCall) (s c d : Contents) → IsImage s calls c → Step ch c d → IsImage s (calls ++ ch ∷ []) d
image-more [] ch s c d image step = (d, subst (λ x. Step ch x d) image step, refl)
image-more (first ∷ calls) ch s c d image step = (image.0, image.1, image-more calls ch image.0 c d image.2 step)

-- and the last step is that of the last call
image-last : (calls : List ChangeCall) (ch : ChangeCall) (s c : Contents) → IsImage s (calls ++ ch ∷ []) c → (d : Contents) × IsImage s calls d × Step ch d c
image-last [] ch s c image = (s, refl, subst (λ x. Step ch s x) (sym image.2) image.1)
image-last (first ∷ calls) ch s c image =
    let (d, before, step) = image-last calls ch image.0 c image.2 in
    (d, (image.0, image.1, before), step)

-- Q holds of the contents and of what a stop may leave now, and P of what one since the first might have left up to the last sync
pub record HoldsSince (P Q : Contents → Type 0) (first s : Moment) : Type 0 where
  pub now : Q s.state.contents
  pub later : length first.stops.past ≤ length s.stops.past
  pub left : (c : Contents) → MayBeLeft s.stops c → Q c
  pub had : (c : Contents) → HadBeen (drop (length first.stops.past) s.stops.past) c → P c

abbrev pub Within : (Contents → Type 0) → (Contents → Type 0) → Type 0
Within Q P = (c : Contents) → Q c → P c

-- a call makes of what has Q what has R
abbrev pub Turns : (Contents → Type 0) → ChangeCall → (Contents → Type 0) → Type 0
Turns Q ch R = (c d : Contents) → Q c → Step ch c d → R d

abbrev pub KeptBy : (Contents → Type 0) → ChangeCall → Type 0
KeptBy Q ch = Turns Q ch Q

had-more : (past : List Epoch) (e : Epoch) (c : Contents) → HadBeen (past ++ e ∷ []) c → HadBeen past c ⊎ IsImage e.synced e.pending c
had-more [] e c (inl now) = inr now
had-more [] e c (inr had) = absurd had
had-more (f ∷ past) e c (inl now) = inl (inl now)
had-more (f ∷ past) e c (inr had) = ⊎_elim (λ h. inl (inr h)) (λ i. inr i) (had-more past e c had)

none-since : (past : List Epoch) (c : Contents) → HadBeen (drop (length past) past) c → ⊥
none-since [] c had = had
none-since (e ∷ past) c had = none-since past c had

-- before the first call
pub holds_first : (P Q : Contents → Type 0) (first : Moment) → Q first.state.contents → ((c : Contents) → MayBeLeft first.stops c → Q c) → HoldsSince P Q first first
holds_first P Q first now left = record { now = now; later = omega arith; left = left; had = λ c had. absurd (none-since first.stops.past c had) }

-- a pending call
pending-turns : (P Q R : Contents → Type 0) (first a b : Moment) (ch : ChangeCall) → HoldsSince P Q first a → Step ch a.state.contents b.state.contents → b.stops ≡ with_pending ch a.stops → Turns Q ch R → HoldsSince P R first b
pending-turns P Q R first a b ch h step is turns = record {
  now = turns _ _ h.now step;
  later = omega (arith, h.later, ap (λ (s : Stops). length s.past) is);
  left = λ c image. let (d, was, by) = image-last a.stops.now.pending ch a.stops.now.synced c (subst (λ s. MayBeLeft s c) is image) in turns d c (h.left d was) by;
  had = λ c had. h.had c (subst (λ (s : Stops). HadBeen (drop (length first.stops.past) s.past) c) is had);
}

-- after a sync a stop leaves the contents
pub holds_synced : (P Q R : Contents → Type 0) (first a b : Moment) → HoldsSince P Q first a → Occurs call.Sync a b → Within Q P → R a.state.contents → HoldsSince P R first b
holds_synced P Q R first a b h on within here = record {
  now = subst R (sym on.happens.step) here;
  later = let e = ap (λ (s : Stops). length s.past) on.stops in grind (arith, common_steps, h.later, e);
  left = λ c image. subst R (sym (subst (λ s. MayBeLeft s c) on.stops image)) here;
  had = λ c had.
      let more : HadBeen (drop (length first.stops.past) a.stops.past ++ a.stops.now ∷ []) c
      = subst (λ l. HadBeen l c) (drop-append-le (length first.stops.past) a.stops.past (a.stops.now ∷ []) h.later) (subst (λ (s : Stops). HadBeen (drop (length first.stops.past) s.past) c) on.stops had) in
      ⊎_elim (h.had c) (λ i. within c (h.left c i)) (had-more _ a.stops.now c more);
}

-- each call goes on
pub holds_on : (P Q R : Contents → Type 0) (first a b : Moment) (ch : ChangeCall) → HoldsSince P Q first a → Occurs ch a b → Within Q P → Turns Q ch R → HoldsSince P R first b
holds_on P Q R first a b (call.Write path at n) h on within turns = pending-turns P Q R first a b _ h on.happens.step on.stops turns
holds_on P Q R first a b (call.Cut path size) h on within turns = pending-turns P Q R first a b _ h on.happens.step on.stops turns
holds_on P Q R first a b (call.MakeFile path) h on within turns = pending-turns P Q R first a b _ h on.happens.step on.stops turns
holds_on P Q R first a b (call.MakeFolder path) h on within turns = pending-turns P Q R first a b _ h on.happens.step on.stops turns
holds_on P Q R first a b (call.Remove path) h on within turns = pending-turns P Q R first a b _ h on.happens.step on.stops turns
holds_on P Q R first a b call.Sync h on within turns = holds_synced P Q R first a b h on within (turns _ _ h.now refl)

holds-weaker : (P Q R : Contents → Type 0) (first a b : Moment) → HoldsSince P Q first a → Within Q R → b ≡ a → HoldsSince P R first b
holds-weaker P Q R first a b h within same = subst (λ s. HoldsSince P R first s) (sym same) (record { now = within _ h.now; later = h.later; left = λ c i. within c (h.left c i); had = h.had })

-- whatever it answers
pub holds_made : {A : Type 0} (P Q R : Contents → Type 0) (first a b : Moment) (ch : ChangeCall) (result : Result A TreeFault) → HoldsSince P Q first a → Pends ch a b result → Within Q P → Within Q R → Turns Q ch R → HoldsSince P R first b
holds_made P Q R first a b ch (Ok v) h made within kept turns = holds_on P Q R first a b ch h made within turns
holds_made P Q R first a b ch (Err e) h made within kept turns = ⊎_elim (holds-weaker P Q R first a b h kept) (λ m. holds_on P Q R first a b ch h m.1 within turns) made

-- the calls of a course
pub course_calls : (a b : Moment) → Course a b → (xs : List ChangeCall) × (b.state.calls ≡ a.state.calls ++ xs)
course_calls a b Still = ([], sym (append-nil _))
course_calls a b (Call {mid} ch course on) =
    let (xs, e) = course_calls a mid course in
    (xs ++ ch ∷ [], on.happens.listed ∙ ap (λ l. l ++ ch ∷ []) e ∙ append_assoc a.state.calls _ _)

abbrev pub Each : {A : Type 0} → (A → Type 0) → List A → Type 0
Each P [] = Unit {0}
Each P (x ∷ xs) = P x × Each P xs

each-front : {A : Type 0} (P : A → Type 0) (xs : List A) (x : A) → Each P (xs ++ x ∷ []) → Each P xs × P x
each-front P [] x all = (tt, all.0)
each-front P (y ∷ xs) x all = let two = each-front P xs x all.1 in ((all.0, two.0), two.1)

pub each_take : {A : Type 0} (P : A → Type 0) (xs : List A) (n : ℕ) → Each P xs → Each P (take n xs)
each_take P [] zero all = tt
each_take P [] (suc n) all = tt
each_take P (x ∷ xs) zero all = tt
each_take P (x ∷ xs) (suc n) all = (all.0, each_take P xs n all.1)

-- a course of calls that all keep Q
pub holds_run : (P Q : Contents → Type 0) (first a b : Moment) (xs : List ChangeCall) → HoldsSince P Q first a → Within Q P → Course a b → b.state.calls ≡ a.state.calls ++ xs → Each (KeptBy Q) xs → HoldsSince P Q first b
holds_run P Q first a b xs h within Still e all = h
holds_run P Q first a b xs h within (Call {mid} ch course on) e all =
    let (ys, l) = course_calls a mid course in
    let same : ys ++ ch ∷ [] ≡ xs = append_cancel_left a.state.calls _ _ (sym (on.happens.listed ∙ ap (λ k. k ++ ch ∷ []) l ∙ append_assoc a.state.calls _ _) ∙ e) in
    let two = each-front (KeptBy Q) ys ch (subst (Each (KeptBy Q)) (sym same) all) in
    holds_on P Q Q first mid b ch (holds_run P Q first a mid ys h within course l two.0) on within two.1

-- so a stop leaves nothing else
pub leaves_only : (P Q : Contents → Type 0) (first s : Moment) → HoldsSince P Q first s → Within Q P → LeavesOnly P first.stops s.stops
leaves_only P Q first s h within = record { each = λ c. ⊎_elim (λ i. within c (h.left c i)) (h.had c) }
