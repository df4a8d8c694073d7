-- Block references that a loop goes over one by one.
use Rattle.std.proofs.Common.{◌≡◌, ℕ, ◌+◌, ◌++◌, ◌≤◌, ◌<◌, ◌||◌, Bool, true, false, List, Some, None, length, take, drop, get_or, refl, ap, sym, ◌∙◌, arith, append_assoc, append-nil, inl, inr, option_to_list}
use Rattle.std.specs.List.{slice_get, flat_map, list_any}
use Rattle.std.proofs.lemmas.List.{take_all, take_more, take-append-drop}
use Rattle.std.proofs.lemmas.List.Folds.{list_any-append}
use Rattle.std.proofs.lemmas.Grind.{flat_map-append}
use Rattle.std.proofs.lemmas.Option.{slice_get_cases}

one_more : {X : Type 0} (xs : List X) (i : ℕ) (x : X) → i < length xs → slice_get xs i ≡ Some x → get_or xs i x ≡ x → take (i + 1) xs ≡ take i xs ++ option_to_list (slice_get xs i)
one_more xs i x within here at = rw (take_more xs i x within, at, here) refl

none_more : {X : Type 0} (xs : List X) (i : ℕ) → length xs ≤ i → slice_get xs i ≡ None → take (i + 1) xs ≡ take i xs ++ option_to_list (slice_get xs i)
none_more xs i past none = rw (take_all (i + 1) xs (omega arith), take_all i xs past, none) (sym (append-nil xs))

-- the item at the end of what is taken
taken_more : {X : Type 0} (xs : List X) (i : ℕ) → take (i + 1) xs ≡ take i xs ++ option_to_list (slice_get xs i)
taken_more xs i = elim (slice_get_cases xs i).1 [
  | inl found ↦ one_more xs i found.0 found.1 found.2 found.3
  | inr none ↦ none_more xs i none.0 none.1
]

pub texts_more : {X : Type 0} (f : X → List ℕ) (xs : List X) (i : ℕ) (old : List ℕ) → (old ++ flat_map f (take i xs)) ++ flat_map f (option_to_list (slice_get xs i)) ≡ old ++ flat_map f (take (i + 1) xs)
texts_more f xs i old = rw (taken_more xs i, flat_map-append) (append_assoc old (flat_map f (take i xs)) (flat_map f (option_to_list (slice_get xs i))))

neither : (a b : Bool) → a ≡ false → b ≡ false → (a || b) ≡ false
neither true b x y = absurd cc
neither false b x y = y

pub any_more : {X : Type 0} (p : X → Bool) (xs : List X) (i : ℕ) → list_any p (take i xs) ≡ false → list_any p (option_to_list (slice_get xs i)) ≡ false → list_any p (take (i + 1) xs) ≡ false
any_more p xs i before here = ap (list_any p) (taken_more xs i) ∙ list_any-append p (take i xs) (option_to_list (slice_get xs i)) ∙ neither _ _ before here

second : (a b : Bool) → b ≡ true → (a || b) ≡ true
second true b x = refl
second false b x = x

first : (a b : Bool) → a ≡ true → (a || b) ≡ true
first true b x = refl
first false b x = absurd cc

pub any_found : {X : Type 0} (p : X → Bool) (xs : List X) (i : ℕ) → list_any p (option_to_list (slice_get xs i)) ≡ true → list_any p xs ≡ true
any_found p xs i here =
    let taken : list_any p (take (i + 1) xs) ≡ true =
    ap (list_any p) (taken_more xs i) ∙ list_any-append p (take i xs) (option_to_list (slice_get xs i)) ∙ second (list_any p (take i xs)) (list_any p (option_to_list (slice_get xs i))) here in
    ap (list_any p) (sym (take-append-drop (i + 1) xs)) ∙ list_any-append p (take (i + 1) xs) (drop (i + 1) xs) ∙ first (list_any p (take (i + 1) xs)) (list_any p (drop (i + 1) xs)) taken

pub ruleset text_steps = (texts_more)

pub ruleset any_steps = (any_more, any_found)
