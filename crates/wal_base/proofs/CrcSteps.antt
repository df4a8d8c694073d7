-- Steps of the CRC: what stands above the low bits only moves down, and a word stays a word.
use Rattle.std.proofs.Common.{◌≡◌, ℕ, zero, suc, ◌+◌, ◌*◌, ◌/◌, ◌%◌, ◌^◌, ◌<◌, ◌⊎◌, inl, inr, bit_xor, refl, sym, ap, ◌∙◌, arith, mul_assoc, pow-suc, pow_pos, lit<}
use Rattle.std.proofs.lemmas.Nat.{xor_block, shr_split, xor_lt, xor_comm, mod_below}
use Rattle.std.proofs.lemmas.Bool.{cases_lt}
use lib.Bits.{xor_assoc, xor_zero_r}
use Rattle.wal_base.specs.Crc.{crc_step, crc_steps}

-- a step of a number whose lowest bit is 0 only halves it
pub step_even : (c : ℕ) → c % 2 ≡ 0 → crc_step c ≡ c / 2
unfolding crc_step
step_even c e = rw e refl

pub step_odd : (c : ℕ) → c % 2 ≡ 1 → crc_step c ≡ bit_xor (c / 2) 0x82F63B78
unfolding crc_step
step_odd c e = rw e refl

pub mod_two : (n : ℕ) → (n % 2 ≡ 0) ⊎ (n % 2 ≡ 1)
mod_two n = elim (cases_lt (n % 2) 1) [ inl a ↦ inl (omega arith) | inr b ↦ inr (omega arith) ]

-- a state is below 2 ^ 32, and stays so
step_below : (c : ℕ) → c < 2 ^ 32 → crc_step c < 2 ^ 32
step_below c h =
    let half : c / 2 < 2 ^ 32 = omega arith in
    elim (mod_two c) [
      | inl even ↦ rw (step_even c even) half
      | inr odd ↦ rw (step_odd c odd) (xor_lt 32 (c / 2) 0x82F63B78 half (lit< tt))
    ]

pub steps_below : (k c : ℕ) → c < 2 ^ 32 → crc_steps k c < 2 ^ 32
unfolding crc_steps
steps_below zero c h = h
steps_below (suc k) c h = steps_below k (crc_step c) (step_below c h)

none_high : (k r : ℕ) → r ≡ 0 * 2 ^ k + r
none_high k r = omega arith

halves : (k a r : ℕ) → ((a * 2 ^ suc k + r) / 2 ≡ a * 2 ^ k + r / 2) × ((a * 2 ^ suc k + r) % 2 ≡ r % 2)
halves k a r =
    let e : a * 2 ^ suc k ≡ (a * 2 ^ k) * 2 = ap (λ p. a * p) (pow-suc 2 k) ∙ sym (mul_assoc a (2 ^ k) 2) in
    (omega (arith, e), omega (arith, e))

-- what stands above the low k bits only moves down in k steps
pub steps_high : (k a r : ℕ) → r < 2 ^ k → crc_steps k (a * 2 ^ k + r) ≡ bit_xor a (crc_steps k r)
unfolding crc_steps
steps_high zero a r h =
    let z : r ≡ 0 = omega arith in
    rw z (sym (xor_zero_r a ∙ omega arith))
steps_high (suc k) a r h =
    let half = halves k a r in
    let low : r / 2 < 2 ^ k = omega (arith, pow-suc 2 k) in
    elim (mod_two r) [
      | inl even ↦
          ap (crc_steps k) (step_even _ (half.1 ∙ even) ∙ half.0)
          ∙ steps_high k a (r / 2) low
          ∙ ap (λ x. bit_xor a (crc_steps k x)) (sym (step_even r even))
      | inr odd ↦
          let p : ℕ = 0x82F63B78 in
          let ph : ℕ = p / 2 ^ k in
          let pl : ℕ = p % 2 ^ k in
          let whole : ph * 2 ^ k + pl ≡ p = shr_split p k in
          let small : pl < 2 ^ k = mod_below p (2 ^ k) (pow_pos k) in
          let x : ℕ = bit_xor (r / 2) pl in
          let x_small : x < 2 ^ k = xor_lt k (r / 2) pl low small in
          let there : crc_step (a * 2 ^ suc k + r) ≡ bit_xor a ph * 2 ^ k + x =
          step_odd _ (half.1 ∙ odd)
          ∙ ap (λ y. bit_xor y p) half.0
          ∙ ap (λ y. bit_xor (a * 2 ^ k + r / 2) y) (sym whole)
          ∙ xor_block k a ph (r / 2) pl low small in
          let here : crc_step r ≡ ph * 2 ^ k + x =
          step_odd r odd
          ∙ ap (λ y. bit_xor (r / 2) y) (sym whole)
          ∙ ap (λ y. bit_xor y (ph * 2 ^ k + pl)) (none_high k (r / 2))
          ∙ xor_block k 0 ph (r / 2) pl low small in
          ap (crc_steps k) there
          ∙ steps_high k (bit_xor a ph) x x_small
          ∙ xor_assoc a ph (crc_steps k x)
          ∙ ap (bit_xor a) (sym (ap (crc_steps k) here ∙ steps_high k ph x x_small))
    ]

-- eight steps go by the low byte
pub steps_by_byte : (c : ℕ) → crc_steps 8 c ≡ bit_xor (crc_steps 8 (c % 256)) (c / 256)
steps_by_byte c =
    ap (crc_steps 8) (sym (shr_split c 8))
    ∙ steps_high 8 (c / 256) (c % 256) (mod_below c 256 (omega arith))
    ∙ xor_comm (c / 256) (crc_steps 8 (c % 256))
