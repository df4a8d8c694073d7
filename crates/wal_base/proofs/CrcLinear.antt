-- Steps of the CRC are linear, so a part of the state goes through the bytes by itself.
use Rattle.std.proofs.Common.{◌≡◌, ℕ, zero, suc, ◌+◌, ◌*◌, ◌/◌, ◌%◌, List, [], ◌∷◌, inl, inr, bit_xor, length, refl, sym, ap, ◌∙◌, arith}
use Rattle.std.proofs.lemmas.Nat.{xor_shr, xor_mod, xor_comm}
use lib.Bits.{xor_assoc, xor_zero_r, xor_self}
use Rattle.wal_base.specs.Crc.{crc_step, crc_steps, crc_byte, crc_fold}
use Rattle.wal_base.proofs.CrcSteps.{step_even, step_odd, mod_two}

pub xor_swap : (a b c : ℕ) → bit_xor a (bit_xor b c) ≡ bit_xor b (bit_xor a c)
xor_swap a b c = sym (xor_assoc a b c) ∙ ap (λ x. bit_xor x c) (xor_comm a b) ∙ xor_assoc b a c

pub xor_pairs : (a b c d : ℕ) → bit_xor (bit_xor a b) (bit_xor c d) ≡ bit_xor (bit_xor a c) (bit_xor b d)
xor_pairs a b c d = xor_assoc a b (bit_xor c d) ∙ ap (bit_xor a) (xor_swap b c d) ∙ sym (xor_assoc a c (bit_xor b d))

both_gone : (a b p : ℕ) → bit_xor (bit_xor a p) (bit_xor b p) ≡ bit_xor a b
both_gone a b p = xor_pairs a p b p ∙ ap (bit_xor (bit_xor a b)) (xor_self p) ∙ xor_zero_r (bit_xor a b)

step_xor : (a b : ℕ) → crc_step (bit_xor a b) ≡ bit_xor (crc_step a) (crc_step b)
step_xor a b =
    let p : ℕ = 0x82F63B78 in
    let half : bit_xor a b / 2 ≡ bit_xor (a / 2) (b / 2) = xor_shr a b 1 in
    let low : bit_xor a b % 2 ≡ bit_xor (a % 2) (b % 2) = xor_mod a b 1 in
    elim (mod_two a) [
      | inl a0 ↦ elim (mod_two b) [
        | inl b0 ↦
            step_even _ (low ∙ ap (λ x. bit_xor x (b % 2)) a0 ∙ ap (bit_xor 0) b0) ∙ half
            ∙ sym (ap (λ x. bit_xor x (crc_step b)) (step_even a a0) ∙ ap (bit_xor (a / 2)) (step_even b b0))
        | inr b1 ↦
            step_odd _ (low ∙ ap (λ x. bit_xor x (b % 2)) a0 ∙ ap (bit_xor 0) b1) ∙ ap (λ x. bit_xor x p) half
            ∙ xor_assoc (a / 2) (b / 2) p
            ∙ sym (ap (λ x. bit_xor x (crc_step b)) (step_even a a0) ∙ ap (bit_xor (a / 2)) (step_odd b b1))
      ]
      | inr a1 ↦ elim (mod_two b) [
        | inl b0 ↦
            step_odd _ (low ∙ ap (λ x. bit_xor x (b % 2)) a1 ∙ ap (bit_xor 1) b0) ∙ ap (λ x. bit_xor x p) half
            ∙ xor_assoc (a / 2) (b / 2) p ∙ ap (bit_xor (a / 2)) (xor_comm (b / 2) p) ∙ sym (xor_assoc (a / 2) p (b / 2))
            ∙ sym (ap (λ x. bit_xor x (crc_step b)) (step_odd a a1) ∙ ap (bit_xor (bit_xor (a / 2) p)) (step_even b b0))
        | inr b1 ↦
            step_even _ (low ∙ ap (λ x. bit_xor x (b % 2)) a1 ∙ ap (bit_xor 1) b1) ∙ half
            ∙ sym (both_gone (a / 2) (b / 2) p)
            ∙ sym (ap (λ x. bit_xor x (crc_step b)) (step_odd a a1) ∙ ap (bit_xor (bit_xor (a / 2) p)) (step_odd b b1))
      ]
    ]

pub steps_xor : (k a b : ℕ) → crc_steps k (bit_xor a b) ≡ bit_xor (crc_steps k a) (crc_steps k b)
unfolding crc_steps
steps_xor zero a b = refl
steps_xor (suc k) a b = ap (crc_steps k) (step_xor a b) ∙ steps_xor k (crc_step a) (crc_step b)

zero_plus : (m : ℕ) → m ≡ 0 + m
zero_plus m = omega arith

plus_suc : (n m : ℕ) → suc (n + m) ≡ suc n + m
plus_suc n m = omega arith

pub steps_add : (n m c : ℕ) → crc_steps m (crc_steps n c) ≡ crc_steps (n + m) c
unfolding crc_steps
steps_add zero m c = ap (λ n. crc_steps n c) (zero_plus m)
steps_add (suc n) m c = steps_add n m (crc_step c) ∙ ap (λ k. crc_steps k c) (plus_suc n m)

byte_xor : (x y b : ℕ) → crc_byte (bit_xor x y) b ≡ bit_xor (crc_steps 8 x) (crc_byte y b)
unfolding crc_byte
byte_xor x y b = ap (crc_steps 8) (xor_assoc x y (b % 256)) ∙ steps_xor 8 x (bit_xor y (b % 256))

one_more : (n : ℕ) → 8 + 8 * n ≡ 8 * suc n
one_more n = omega arith

-- a part of the state goes through the bytes by itself
pub fold_xor : (x y : ℕ) (bytes : List ℕ) → crc_fold (bit_xor x y) bytes ≡ bit_xor (crc_steps (8 * length bytes) x) (crc_fold y bytes)
unfolding crc_fold crc_steps
fold_xor x y [] = refl
fold_xor x y (b ∷ bytes) =
    ap (λ s. crc_fold s bytes) (byte_xor x y b)
    ∙ fold_xor (crc_steps 8 x) (crc_byte y b) bytes
    ∙ ap (λ s. bit_xor s (crc_fold (crc_byte y b) bytes)) (steps_add 8 (8 * length bytes) x ∙ ap (λ n. crc_steps n x) (one_more (length bytes)))
