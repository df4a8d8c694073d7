-- The blocks of a main fork's file that both clusters have.
use Rattle.std.proofs.Common.{◌≡◌, ◌⊎◌, ℕ, ◌+◌, ◌*◌, ◌/◌, ◌%◌, ◌<◌, ◌≤◌, Bool, true, false, cond, ◌||◌, nat_le, nat_lt, List, length, take, drop, None, Some, is_some, inl, inr, refl, sym, ap, ◌∙◌, true≢false, arith}
use Rattle.std.proofs.lemmas.Bool.Decides.{nat_tests}
use Rattle.std.specs.Prelude.{if◌then◌else◌}
use Rattle.rewound_tree.specs.Laws.{block_of}
use Rattle.rewound_tree.specs.Mixed.{mixed}
use Rattle.rewound_tree.proofs.MixedLemmas.{block_side, mixed_length}
use Rattle.storage_laws.specs.States.{whole_block}

inside : (place size : ℕ) → nat_lt place (size / 8192) ≡ true → 8192 * place + 8192 ≤ size
inside place size h = let l : place < size / 8192 = grind (arith, nat_tests, h) in omega (arith, l)

outside : (place size : ℕ) → 8192 * place + 8192 ≤ size → nat_lt place (size / 8192) ≡ true
outside place size h = let l : place < size / 8192 = omega (arith, h) in grind (arith, nat_tests, l)

-- a whole block of a file is there
there : (place : ℕ) (bytes : List ℕ) → 8192 * place + 8192 ≤ length bytes → whole_block place bytes ≡ Some (block_of place bytes)
there place bytes h =
    ap (λ b. if b then Some (take 8192 (drop (place * 8192) bytes)) else None) (outside place (length bytes) h)
    ∙ ap (λ n. Some (take 8192 (drop n bytes))) (let same : place * 8192 ≡ 8192 * place = omega arith in same)

gone : (place : ℕ) (bytes : List ℕ) → nat_lt place (length bytes / 8192) ≡ false → whole_block place bytes ≡ None
gone place bytes h = ap (λ b. if b then Some (take 8192 (drop (place * 8192) bytes)) else None) h

pub some-block : (place : ℕ) (bytes : List ℕ) → is_some (whole_block place bytes) ≡ nat_lt place (length bytes / 8192)
some-block place bytes = by (nat_lt place (length bytes / 8192))
  where
    by : (b : Bool) → is_some (if b then Some (take 8192 (drop (place * 8192) bytes)) else None) ≡ b
    by true = refl
    by false = refl

either_off : (a b : Bool) → (a || b) ≡ false → a ≡ false
either_off true b h = h
either_off false b h = refl

has_old : (a : Bool) (old place : ℕ) → old % 8192 ≡ 0 → (a || nat_le old (8192 * place)) ≡ false → 8192 * place + 8192 ≤ old
has_old true old place whole h = absurd (true≢false h)
has_old false old place whole h = let more : 8192 * place < old = grind (arith, nat_tests, h) in omega (arith, more, whole)

module _ (wanted : ℕ → Bool) (old new : List ℕ) (place : ℕ) where
  size : length (mixed wanted old new) ≡ length new
  size = mixed_length wanted old new

  -- it is as long as the source's
  pub mixed-there : is_some (whole_block place (mixed wanted old new)) ≡ is_some (whole_block place new)
  mixed-there = some-block place (mixed wanted old new) ∙ ap (λ n. nat_lt place (n / 8192)) size ∙ sym (some-block place new)

  -- a block is the source's, or the target's, where it has one that isn't wanted
  pub mixed-block : length old % 8192 ≡ 0
      → (whole_block place (mixed wanted old new) ≡ whole_block place new)
      ⊎ ((is_some (whole_block place old) ≡ true) × (wanted place ≡ false) × (whole_block place (mixed wanted old new) ≡ whole_block place old))
  mixed-block whole = by (nat_lt place (length new / 8192)) refl
    where
      one : 8192 * place + 8192 ≤ length new → (b : Bool) → (wanted place || nat_le (length old) (8192 * place)) ≡ b
          → (whole_block place (mixed wanted old new) ≡ whole_block place new)
          ⊎ ((is_some (whole_block place old) ≡ true) × (wanted place ≡ false) × (whole_block place (mixed wanted old new) ≡ whole_block place old))
      one room true h = inl
          (there place (mixed wanted old new) (omega (arith, room, size))
          ∙ ap (λ b. Some b) (block_side wanted old new place whole room ∙ ap (λ b. cond b (block_of place new) (block_of place old)) h) ∙ sym (there place new room))
      one room false h =
          let more : 8192 * place + 8192 ≤ length old = has_old (wanted place) (length old) place whole h in
          let own : whole_block place old ≡ Some (block_of place old) = there place old more in
          inr (
            ap is_some own,
            either_off (wanted place) (nat_le (length old) (8192 * place)) h,
            there place (mixed wanted old new) (omega (arith, room, size))
                ∙ ap (λ b. Some b) (block_side wanted old new place whole room ∙ ap (λ b. cond b (block_of place new) (block_of place old)) h) ∙ sym own,
          )

      by : (b : Bool) → nat_lt place (length new / 8192) ≡ b
          → (whole_block place (mixed wanted old new) ≡ whole_block place new)
          ⊎ ((is_some (whole_block place old) ≡ true) × (wanted place ≡ false) × (whole_block place (mixed wanted old new) ≡ whole_block place old))
      by true h = one (inside place (length new) h) (wanted place || nat_le (length old) (8192 * place)) refl
      by false h = inl (gone place (mixed wanted old new) (ap (λ n. nat_lt place (n / 8192)) size ∙ h) ∙ sym (gone place new h))
