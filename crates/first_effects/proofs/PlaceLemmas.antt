-- References by their places, and what one of them does.
use Rattle.std.proofs.Common.{◌≡◌, refl, ◌∙◌, sym, ap, ◌&&◌, ◌||◌, ℕ, zero, suc, ◌+◌, Bool, true, false, not, List, [], ◌∷◌, take, Option, None, Some, arith}
use Rattle.std.specs.List.{list_any, slice_get}
use Rattle.std.specs.Option.{option_map_or}
use Rattle.std.specs.Prelude.{option_map}
use Rattle.std.proofs.lemmas.Bool.{and_parts}
use Rattle.block_refs.specs.declared.block_ref.BlockRef.{BlockRef}
use Rattle.block_refs.specs.declared.names.BlockName.{BlockName}
use Rattle.block_refs.specs.declared.placed.Placed.{Placed}
use Rattle.replay_profile.specs.Names.{are_known, is_block, is_known_block, is_named}
use Rattle.first_effects.proofs.NameLemmas.{block_sym, same_block}

pub or_assoc : (a b c : Bool) → (a || (b || c)) ≡ ((a || b) || c)
or_assoc true b c = refl
or_assoc false b c = refl

pub any_more : {A : Type 0} (p : A → Bool) (xs : List A) (i : ℕ) → list_any p (take (i + 1) xs) ≡ (list_any p (take i xs) || option_map_or p (slice_get xs i) false)
any_more {A = A} p xs i = rw (suc_of i) (at xs i)
  where
    suc_of : (n : ℕ) → n + 1 ≡ suc n
    suc_of n = omega arith

    or_false : (b : Bool) → (b || false) ≡ b
    or_false true = refl
    or_false false = refl

    at : (xs : List A) (i : ℕ) → list_any p (take (suc i) xs) ≡ (list_any p (take i xs) || option_map_or p (slice_get xs i) false)
    at [] zero = refl
    at [] (suc i) = refl
    at (x ∷ xs) zero = or_false (p x)
    at (x ∷ xs) (suc i) = ap (λ b. p x || b) (at xs i) ∙ or_assoc (p x) (list_any p (take i xs)) (option_map_or p (slice_get xs i) false)

-- the same of the reference at a place and of its block
pub at_some : (f : BlockRef → Bool) (at : Option Placed) (block : BlockRef) → Some block ≡ option_map (λ placed. placed.block) at → option_map_or (λ placed. f placed.block) at false ≡ f block
at_some f None block e = cc e
at_some f (Some placed) block e = let same : block ≡ placed.block = cc e in ap f (sym same)

none_at : {A : Type 0} (p : A → Bool) (xs : List A) (i : ℕ) (x : A) → list_any p xs ≡ false → slice_get xs i ≡ Some x → p x ≡ false
none_at p [] i x none e = cc e
none_at p (y ∷ ys) i x none e = by_case (p y) i refl (λ k miss h. none_at p ys k x miss h) none e
  where
    by_case : (b : Bool) (i : ℕ) → p y ≡ b → ((k : ℕ) → list_any p ys ≡ false → slice_get ys k ≡ Some x → p x ≡ false)
        → (b || list_any p ys) ≡ false → slice_get (y ∷ ys) i ≡ Some x → p x ≡ false
    by_case true i is later miss h = cc miss
    by_case false zero is later miss h = let same : y ≡ x = cc h in ap p (sym same) ∙ is
    by_case false (suc i) is later miss h = later i miss h

-- what holds of one block by its name holds of no reference before the one that names it
pub alone : (f : BlockRef → Bool) (xs : List Placed) (i : ℕ) (placed : Placed) (name : BlockName) → are_known xs ≡ true → slice_get xs i ≡ Some placed → is_block name placed.block.name ≡ true
    → list_any (λ p. is_block name p.block.name && f p.block) (take i xs) ≡ false
alone f [] i placed name known e is = cc e
alone f (x ∷ xs) zero placed name known e is = refl
alone f (x ∷ xs) (suc i) placed name known e is =
    let t = and_parts (is_known_block x.block.name && not (is_named x.block.name xs)) (are_known xs) known in
    let u = and_parts (is_known_block x.block.name) (not (is_named x.block.name xs)) t.0 in
    let once : is_named x.block.name xs ≡ false = not_true (is_named x.block.name xs) u.1 in
    let other : is_block x.block.name placed.block.name ≡ false = none_at (λ p. is_block x.block.name p.block.name) xs i placed once e in
    let here : is_block name x.block.name ≡ false = ap (λ n. is_block n x.block.name) (same_block name placed.block.name is) ∙ block_sym placed.block.name x.block.name ∙ other in
    ap (λ b. (b && f x.block) || list_any (λ p. is_block name p.block.name && f p.block) (take i xs)) here ∙ alone f xs i placed name t.1 e is
  where
    not_true : (b : Bool) → not b ≡ true → b ≡ false
    not_true true h = cc h
    not_true false h = refl
