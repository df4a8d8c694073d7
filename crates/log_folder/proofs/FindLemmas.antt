-- The first element that passes a test, as it is looked for one by one.
use Rattle.std.proofs.Common.{◌≡◌, ◌∙◌, ℕ, zero, suc, ◌+◌, Bool, true, false, cond, List, [], ◌∷◌, take, find, Option, None, Some, refl, ap, sym, add-one, slice_get}

same : {A : Type 0} (x y : A) → Some x ≡ Some y → x ≡ y
same x y e = cc

absent : {A : Type 0} (x : A) → None ≡ Some x → ⊥
absent x e = absurd cc

passed_over : {A : Type 0} (t : Bool) (y : A) (rest : Option A) → cond t (Some y) rest ≡ None → (t ≡ false) × (rest ≡ None)
passed_over true y rest e = absurd (absent y (sym e))
passed_over false y rest e = (refl, e)

pub found_here : {A : Type 0} (p : A → Bool) (xs : List A) (i : ℕ) (x : A) → slice_get xs i ≡ Some x → find p (take i xs) ≡ None → p x ≡ true → find p xs ≡ Some x
found_here p [] i x at none t = absurd (absent x at)
found_here p (y ∷ ys) zero x at none t = let e : y ≡ x = same y x at in ap (λ b. cond b (Some y) (find p ys)) (ap p e ∙ t) ∙ ap (λ z. Some z) e
found_here p (y ∷ ys) (suc i) x at none t =
    let over = passed_over (p y) y (find p (take i ys)) none in
    ap (λ b. cond b (Some y) (find p ys)) over.0 ∙ found_here p ys i x at over.1 t

later : {A : Type 0} (p : A → Bool) (xs : List A) (i : ℕ) (x : A) → slice_get xs i ≡ Some x → find p (take i xs) ≡ None → p x ≡ false → find p (take (suc i) xs) ≡ None
later p [] i x at none t = absurd (absent x at)
later p (y ∷ ys) zero x at none t = ap (λ b. cond b (Some y) None) (ap p (same y x at) ∙ t)
later p (y ∷ ys) (suc i) x at none t =
    let over = passed_over (p y) y (find p (take i ys)) none in
    ap (λ b. cond b (Some y) (find p (take (suc i) ys))) over.0 ∙ later p ys i x at over.1 t

pub found_later : {A : Type 0} (p : A → Bool) (xs : List A) (i : ℕ) (x : A) → slice_get xs i ≡ Some x → find p (take i xs) ≡ None → p x ≡ false → find p (take (i + 1) xs) ≡ None
found_later p xs i x at none t = rw add-one (later p xs i x at none t)

pub ruleset find_steps = (found_here, found_later)
