-- Two lists mixed place by place, zeros, and a state as four bytes.
use Rattle.std.proofs.Common.{◌≡◌, ℕ, zero, suc, ◌+◌, ◌*◌, ◌%◌, List, [], ◌∷◌, ◌++◌, bit_xor, replicate, length, refl, ap, ◌∙◌, arith}
use Rattle.std.proofs.lemmas.Nat.{xor_mod}
use Rattle.std.specs.Simd.Lanes.{zip2}
use lib.Bits.{xor_zero_r}
use Rattle.wal_base.specs.Crc.{crc_step, crc_steps, crc_byte, crc_fold}
use Rattle.wal_base.proofs.CrcLinear.{xor_pairs, steps_xor, steps_add}
use Rattle.wal_base.proofs.CrcFold.{fold_append}

byte_mixed : (x y a b : ℕ) → crc_byte (bit_xor x y) (bit_xor a b) ≡ bit_xor (crc_byte x a) (crc_byte y b)
unfolding crc_byte
byte_mixed x y a b =
    ap (λ m. crc_steps 8 (bit_xor (bit_xor x y) m)) (xor_mod a b 8)
    ∙ ap (crc_steps 8) (xor_pairs x y (a % 256) (b % 256))
    ∙ steps_xor 8 (bit_xor x (a % 256)) (bit_xor y (b % 256))

-- the state after mixed bytes is the mix of both states
pub fold_mixed : (x y : ℕ) (a b : List ℕ) → length a ≡ length b → crc_fold (bit_xor x y) (zip2 bit_xor a b) ≡ bit_xor (crc_fold x a) (crc_fold y b)
unfolding crc_fold
fold_mixed x y [] [] e = refl
fold_mixed x y [] (b ∷ ys) e = absurd (omega (arith, e))
fold_mixed x y (a ∷ xs) [] e = absurd (omega (arith, e))
fold_mixed x y (a ∷ xs) (b ∷ ys) e =
    ap (λ s. crc_fold s (zip2 bit_xor xs ys)) (byte_mixed x y a b) ∙ fold_mixed (crc_byte x a) (crc_byte y b) xs ys (omega (arith, e))

-- nothing stays nothing
pub steps_zero : (n : ℕ) → crc_steps n 0 ≡ 0
unfolding crc_steps crc_step
steps_zero zero = refl
steps_zero (suc n) = steps_zero n

eight_more : (n : ℕ) → 8 + 8 * n ≡ 8 * suc n
eight_more n = omega arith

-- zeros only move the state on
pub fold_zeros : (s n : ℕ) → crc_fold s (replicate n 0) ≡ crc_steps (8 * n) s
unfolding crc_fold crc_byte crc_steps
fold_zeros s zero = refl
fold_zeros s (suc n) =
    fold_zeros (crc_byte s 0) n
    ∙ ap (λ x. crc_steps (8 * n) (crc_steps 8 x)) (xor_zero_r s)
    ∙ steps_add 8 (8 * n) s
    ∙ ap (λ k. crc_steps k s) (eight_more n)

pub zeros_after : (s n : ℕ) (bytes : List ℕ) → crc_fold s (bytes ++ replicate n 0) ≡ crc_steps (8 * n) (crc_fold s bytes)
zeros_after s n bytes = fold_append s bytes (replicate n 0) ∙ fold_zeros (crc_fold s bytes) n
