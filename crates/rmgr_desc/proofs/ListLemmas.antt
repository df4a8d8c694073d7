-- Lists that a loop writes item by item.
use Rattle.std.proofs.Common.{◌≡◌, ℕ, ◌+◌, ◌++◌, ◌≤◌, ◌<◌, List, Option, Some, None, length, take, get_or, refl, ap, sym, ◌∙◌, arith, append_assoc, append-nil, inl, inr, option_to_list, subst}
use Rattle.std.specs.List.{slice_get}
use Rattle.std.proofs.lemmas.List.{take_all, take_more}
use Rattle.std.proofs.lemmas.Grind.{flat_map-append}
use Rattle.std.proofs.lemmas.Option.{slice_get_cases}
use Rattle.rmgr_desc.specs.Pieces.{or_short}
use Rattle.rmgr_desc.specs.Transaction.{spaced}

one_more : {X : Type 0} (xs : List X) (i : ℕ) (x : X) → i < length xs → slice_get xs i ≡ Some x → get_or xs i x ≡ x → take (i + 1) xs ≡ take i xs ++ option_to_list (slice_get xs i)
one_more xs i x within here at = rw (take_more xs i x within, at, here) refl

none_more : {X : Type 0} (xs : List X) (i : ℕ) → length xs ≤ i → slice_get xs i ≡ None → take (i + 1) xs ≡ take i xs ++ option_to_list (slice_get xs i)
none_more xs i past none = rw (take_all (i + 1) xs (omega arith), take_all i xs past, none) (sym (append-nil xs))

-- the item at the end of what is taken
taken_more : {X : Type 0} (xs : List X) (i : ℕ) → take (i + 1) xs ≡ take i xs ++ option_to_list (slice_get xs i)
taken_more xs i = elim (slice_get_cases xs i).1 [
  | inl found ↦ one_more xs i found.0 found.1 found.2 found.3
  | inr none ↦ none_more xs i none.0 none.1
]

pub spaced_more : {X : Type 0} (f : X → List ℕ) (xs : List X) (i : ℕ) (old : List ℕ) → (old ++ spaced f (take i xs)) ++ spaced f (option_to_list (slice_get xs i)) ≡ old ++ spaced f (take (i + 1) xs)
spaced_more f xs i old = rw (taken_more xs i, flat_map-append) (append_assoc old (spaced f (take i xs)) (spaced f (option_to_list (slice_get xs i))))

-- three texts added one by one
pub added_in_turn : (old a b c x y z : List ℕ) → x ≡ old ++ a → y ≡ x ++ b → z ≡ y ++ c → z ≡ old ++ (a ++ (b ++ c))
added_in_turn old a b c x y z e f g =
    g ∙ ap (λ text. text ++ c) (f ∙ ap (λ text. text ++ b) e) ∙ append_assoc (old ++ a) b c ∙ append_assoc old a (b ++ c)

-- the text of a layout that is whole
pub added_whole : {A : Type 0} (text : A → List ℕ) (o : Option A) (layout : A) (old z : List ℕ) → Some layout ≡ o → z ≡ old ++ text layout
    → z ≡ old ++ or_short text o
added_whole text o layout old z e f = subst (λ o. z ≡ old ++ or_short text o) e f
