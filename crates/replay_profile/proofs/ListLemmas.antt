-- What is left of a list from a place on, one place further.
use Rattle.std.proofs.Common.{◌≡◌, ◌+◌, ◌<◌, ◌&&◌, ◌||◌, ℕ, suc, Bool, true, false, not, List, [], ◌∷◌, length, drop, Some, None, refl, sym, ◌∙◌, ap, inl, inr, arith}
use Rattle.std.specs.List.{list_all, list_any, slice_get}
use Rattle.std.specs.Option.{option_map_or}
use Rattle.std.proofs.Math.ListN.{get_or}
use Rattle.std.proofs.Math.Seq.{drop-cons}
use Rattle.std.proofs.lemmas.List.{drop_all}
use Rattle.std.proofs.lemmas.Option.{slice_get_cases}
use Rattle.block_refs.specs.declared.placed.Placed.{Placed}
use Rattle.replay_profile.specs.Names.{are_known, is_known_block, is_named}
use Rattle.replay_profile.specs.Values.{passes}

-- it begins with what stands there, or it is empty, and so is what is left behind it
pub data Left {A : Type 0} (xs : List A) (i : ℕ) : Type 0 where
  Begins : (x : A) → slice_get xs i ≡ Some x → drop i xs ≡ x ∷ drop (i + 1) xs → Left xs i
  Ends : slice_get xs i ≡ None → drop i xs ≡ [] → drop (i + 1) xs ≡ [] → Left xs i

begins : {A : Type 0} (xs : List A) (i : ℕ) (x : A) → i < length xs → get_or xs i x ≡ x → drop i xs ≡ x ∷ drop (i + 1) xs
begins xs i x within is =
    let next : suc i ≡ i + 1 = omega arith in
    drop-cons xs i x within ∙ (ap (λ y. y ∷ drop (suc i) xs) is ∙ ap (λ n. x ∷ drop n xs) next)

pub left : {A : Type 0} (xs : List A) (i : ℕ) → Left xs i
left xs i = elim ((slice_get_cases xs i).1) [
  | inl (x, within, e, is) ↦ Begins x e (begins xs i x within is)
  | inr (past, e) ↦ Ends e (drop_all i xs past) (drop_all (i + 1) xs (omega arith))
]

-- each passes: what is left behind decides where the next one does, and else that one
pub all_next : {A : Type 0} (p : A → Bool) (xs : List A) (i : ℕ) → list_all p (drop i xs) ≡ (passes p (slice_get xs i) && list_all p (drop (i + 1) xs))
all_next p xs i = elim (left xs i) [ Begins x e d ↦ rw (d, e) refl | Ends e d behind ↦ rw (d, e, behind) refl ]

pub all_on : {A : Type 0} (p : A → Bool) (xs : List A) (i : ℕ) → list_all p xs ≡ list_all p (drop i xs) → passes p (slice_get xs i) ≡ true → list_all p xs ≡ list_all p (drop (i + 1) xs)
all_on p xs i so is = so ∙ (all_next p xs i ∙ ap (λ b. b && list_all p (drop (i + 1) xs)) is)

pub all_fails : {A : Type 0} (p : A → Bool) (xs : List A) (i : ℕ) → list_all p xs ≡ list_all p (drop i xs) → passes p (slice_get xs i) ≡ false → false ≡ list_all p xs
all_fails p xs i so is = sym (so ∙ (all_next p xs i ∙ ap (λ b. b && list_all p (drop (i + 1) xs)) is))

-- some element passes: where the next one does it is settled, and else what is left behind it decides
any_next : {A : Type 0} (p : A → Bool) (xs : List A) (i : ℕ) → list_any p (drop i xs) ≡ (option_map_or p (slice_get xs i) false || list_any p (drop (i + 1) xs))
any_next p xs i = elim (left xs i) [ Begins x e d ↦ rw (d, e) refl | Ends e d behind ↦ rw (d, e, behind) refl ]

pub any_stops : {A : Type 0} (p : A → Bool) (xs : List A) (i : ℕ) (b : Bool) → b ≡ list_any p (drop i xs) → option_map_or p (slice_get xs i) false ≡ true → true ≡ b
any_stops p xs i b so is = sym (so ∙ (any_next p xs i ∙ ap (λ c. c || list_any p (drop (i + 1) xs)) is))

pub any_on : {A : Type 0} (p : A → Bool) (xs : List A) (i : ℕ) (b : Bool) → b ≡ list_any p (drop i xs) → option_map_or p (slice_get xs i) false ≡ false → b ≡ list_any p (drop (i + 1) xs)
any_on p xs i b so is = so ∙ (any_next p xs i ∙ ap (λ c. c || list_any p (drop (i + 1) xs)) is)

-- the references from a place on: the one there, and those behind it
abbrev pub stands : List Placed → ℕ → Bool
stands blocks i = passes (λ placed. is_known_block placed.block.name && not (is_named placed.block.name (drop (i + 1) blocks))) (slice_get blocks i)

known_next : (blocks : List Placed) (i : ℕ) → are_known (drop i blocks) ≡ (stands blocks i && are_known (drop (i + 1) blocks))
known_next blocks i = elim (left blocks i) [ Begins x e d ↦ rw (d, e) refl | Ends e d behind ↦ rw (d, e, behind) refl ]

pub known_fails : (blocks : List Placed) (i : ℕ) → are_known blocks ≡ are_known (drop i blocks) → stands blocks i ≡ false → false ≡ are_known blocks
known_fails blocks i so is = sym (so ∙ (known_next blocks i ∙ ap (λ b. b && are_known (drop (i + 1) blocks)) is))

pub known_on : (blocks : List Placed) (i : ℕ) → are_known blocks ≡ are_known (drop i blocks) → stands blocks i ≡ true → are_known blocks ≡ are_known (drop (i + 1) blocks)
known_on blocks i so is = so ∙ (known_next blocks i ∙ ap (λ b. b && are_known (drop (i + 1) blocks)) is)
