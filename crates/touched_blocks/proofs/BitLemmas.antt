-- One bit more in a byte, and an array without bits.
use Rattle.std.proofs.Common.{◌≡◌, ◌∙◌, ap, ◌==◌, ◌||◌, ◌<◌, ◌*◌, ◌/◌, ◌%◌, ◌^◌, ℕ, replicate, get_or, bit_or, arith, false, ⊎_elim}
use Rattle.std.proofs.lemmas.Bool.{cases_eq, cases_lt}
use Rattle.std.proofs.lemmas.Bool.Decides.{nat_tests}
use Rattle.std.proofs.lemmas.List.{get_or-replicate, get_or_past, length-replicate}
use Rattle.std.proofs.lemmas.Nat.Bits.{bit_at_set_same, bit_at_set_other, bit_at-zero}
use Rattle.std.specs.Int.{bit_at, w8}
use Rattle.touched_blocks.specs.Chunk.{is_set}

-- a byte with one more bit
pub one_more : (n k i : ℕ) → k < 8 → (bit_at (bit_or n (1 * 2 ^ k % 2 ^ 8)) i == 1) ≡ (bit_at n i == 1 || k == i)
one_more n k i small =
    let same = bit_at_set_same w8 n k small in
    let other = bit_at_set_other w8 n k small i in
    ⊎_elim (λ e. grind (arith, nat_tests, same, e)) (λ ne. grind (arith, nat_tests, other ne, ne)) (cases_eq i k)

zero_at : (n i : ℕ) → ◌≡◌ {A = ℕ} (get_or (replicate n 0) i 0) 0
zero_at n i = ⊎_elim (λ l. get_or-replicate n i 0 0 l) (λ g. get_or_past (replicate n 0) i 0 (grind (arith, length-replicate, g))) (cases_lt i n)

-- no bit of zeros is set
pub none_set : (n i : ℕ) → is_set (replicate n 0) i ≡ false
none_set n i = ap (λ x. bit_at x (i % 8) == 1) (zero_at n (i / 8)) ∙ ap (λ x. x == 1) (bit_at-zero (i % 8))
