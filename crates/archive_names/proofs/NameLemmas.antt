-- Names in the order of bytes, and those that pass a test.
use Rattle.std.proofs.Common.{◌≡◌, ◌∙◌, ℕ, ◌+◌, Bool, cond, List, [], ◌∷◌, ◌++◌, filter, take, Some, refl, ap, sym, slice_get}
use Rattle.std.proofs.lemmas.List.Elements.{filter_more}
use Rattle.std.proofs.lemmas.Option.{slice_get_within, get_or_from_slice_get}
use Rattle.std.specs.Ordering.{is_lt, is_some_and, nat_cmp, ordering_then, partial_ordering_then}
use Rattle.std.specs.Cmp.Lexicographic.{slice_cmp, slice_partial_cmp}
use Rattle.std.specs.declared.cmp.Ordering.TheVariants.{Less, Equal, Greater}

agree : (xs ys : List ℕ) → slice_partial_cmp (λ x y. Some (nat_cmp x y)) xs ys ≡ Some (slice_cmp nat_cmp xs ys)
agree [] [] = refl
agree [] (y ∷ ys) = refl
agree (x ∷ xs) [] = refl
agree (x ∷ xs) (y ∷ ys) =
    elim (nat_cmp x y) as (λ o. partial_ordering_then (Some o) (slice_partial_cmp (λ x y. Some (nat_cmp x y)) xs ys) ≡ Some (ordering_then o (slice_cmp nat_cmp xs ys))) [
      | Less ↦ refl
      | Equal ↦ agree xs ys
      | Greater ↦ refl
    ]

pub less_by_cmp : (xs ys : List ℕ) (r : Bool) → r ≡ is_some_and is_lt (slice_partial_cmp (λ x y. Some (nat_cmp x y)) xs ys) → r ≡ is_lt (slice_cmp nat_cmp xs ys)
less_by_cmp xs ys r h = h ∙ ap (is_some_and is_lt) (agree xs ys)

passes_more : (p : List ℕ → Bool) (xs : List (List ℕ)) (i : ℕ) (x : List ℕ) → slice_get xs i ≡ Some x → filter p (take (i + 1) xs) ≡ filter p (take i xs) ++ cond (p x) (x ∷ []) []
passes_more p xs i x at =
    filter_more p xs i x (slice_get_within xs i x at)
    ∙ ap (λ y. filter p (take i xs) ++ cond (p y) (y ∷ []) []) (get_or_from_slice_get xs i x x at)

-- the next name was added where it passes
pub added_on : (p : List ℕ → Bool) (xs : List (List ℕ)) (i : ℕ) (x : List ℕ) (some more : List (List ℕ)) → slice_get xs i ≡ Some x → some ≡ filter p (take i xs) → more ≡ some ++ cond (p x) (x ∷ []) [] → more ≡ filter p (take (i + 1) xs)
added_on p xs i x some more at is grew = grew ∙ ap (λ l. l ++ cond (p x) (x ∷ []) []) is ∙ sym (passes_more p xs i x at)
