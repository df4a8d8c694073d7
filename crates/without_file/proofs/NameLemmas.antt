-- Names without one of them.
use Rattle.std.proofs.Common.{◌≡◌, ℕ, ◌+◌, Bool, true, false, not, ◌&&◌, ◌||◌, cond, List, [], ◌∷◌, ◌++◌, filter, take, Some, refl, ap, sym, ◌∙◌, slice_get, bytes_eq, true≢false}
use Rattle.std.proofs.lemmas.List.Elements.{filter_more}
use Rattle.std.proofs.lemmas.Option.{slice_get_within, get_or_from_slice_get}
use Rattle.std.specs.List.{list_any}
use Rattle.without_file.specs.Without.{others}

more_by : (p : List ℕ → Bool) (xs : List (List ℕ)) (i : ℕ) (x : List ℕ) → slice_get xs i ≡ Some x → filter p (take (i + 1) xs) ≡ filter p (take i xs) ++ cond (p x) (x ∷ []) []
more_by p xs i x at = filter_more p xs i x (slice_get_within xs i x at) ∙ ap (λ y. filter p (take i xs) ++ cond (p y) (y ∷ []) []) (get_or_from_slice_get xs i x x at)

-- the next name was added, unless it is the one
pub others-more : (name : List ℕ) (xs : List (List ℕ)) (i : ℕ) (x : List ℕ) (some more : List (List ℕ)) → slice_get xs i ≡ Some x → some ≡ others name (take i xs) → more ≡ some ++ cond (not (bytes_eq x name)) (x ∷ []) [] → more ≡ others name (take (i + 1) xs)
others-more name xs i x some more at is grew = grew ∙ ap (λ l. l ++ cond (not (bytes_eq x name)) (x ∷ []) []) is ∙ sym (more_by (λ n. not (bytes_eq n name)) xs i x at)

dropped : (s t a : Bool) → s ≡ t → a && not t ≡ (s || a) && not t
dropped true true true e = refl
dropped true true false e = refl
dropped true false a e = absurd (true≢false e)
dropped false true true e = refl
dropped false true false e = refl
dropped false false a e = refl

stays : (s t a : Bool) → (s ≡ true → t ≡ true → ⊥) → (s || (a && not t)) ≡ (s || a) && not t
stays true true a never = absurd (never refl refl)
stays true false a never = refl
stays false t a never = refl

-- a name is among them where it was, unless it is the one
pub others-members : (same : (x y : List ℕ) → bytes_eq x y ≡ true → x ≡ y) (n name : List ℕ) (xs : List (List ℕ)) → list_any (bytes_eq n) (others name xs) ≡ list_any (bytes_eq n) xs && not (bytes_eq n name)
others-members same n name [] = refl
others-members same n name (x ∷ xs) =
    elim (bytes_eq x name) as (λ b. bytes_eq x name ≡ b → list_any (bytes_eq n) (cond (not b) (x ∷ others name xs) (others name xs)) ≡ (bytes_eq n x || list_any (bytes_eq n) xs) && not (bytes_eq n name)) [
      | true ↦ λ e. others-members same n name xs ∙ dropped (bytes_eq n x) (bytes_eq n name) (list_any (bytes_eq n) xs) (ap (bytes_eq n) (same x name e))
      | false ↦ λ e. ap (λ r. bytes_eq n x || r) (others-members same n name xs) ∙ stays (bytes_eq n x) (bytes_eq n name) (list_any (bytes_eq n) xs) (λ one two. true≢false (sym two ∙ ap (λ m. bytes_eq m name) (same n x one) ∙ e))
    ] refl
