-- The relation of six terms by which bytes are folded onto later ones.
use Rattle.std.proofs.Common.{◌≡◌, ℕ, zero, suc, ◌+◌, ◌*◌, ◌^◌, ◌<◌, ◌≤◌, List, [], ◌∷◌, inl, inr, bit_xor, refl, sym, ap, ◌∙◌, arith, pow-suc, ◌-◌}
use Rattle.std.proofs.lemmas.Nat.{xor_block}
use Rattle.std.proofs.lemmas.Bool.{cases_lt}
use Rattle.wal_base.specs.Crc.{crc_step, crc_steps}
use Rattle.wal_base.proofs.CrcSteps.{step_even}
use Rattle.wal_base.proofs.CrcLinear.{xor_pairs, steps_xor}
use Rattle.wal_base.proofs.CrcMixed.{steps_zero}

-- what a state becomes in so many steps, for each number of a list, all mixed
unfoldable pub steps_sum : List ℕ → ℕ → ℕ
steps_sum [] s = 0
steps_sum (n ∷ ns) s = bit_xor (crc_steps n s) (steps_sum ns s)

sum_zero : (ns : List ℕ) → steps_sum ns 0 ≡ 0
unfolding steps_sum
sum_zero [] = refl
sum_zero (n ∷ ns) = ap (λ x. bit_xor x (steps_sum ns 0)) (steps_zero n) ∙ ap (bit_xor 0) (sum_zero ns)

sum_xor : (ns : List ℕ) (a b : ℕ) → steps_sum ns (bit_xor a b) ≡ bit_xor (steps_sum ns a) (steps_sum ns b)
unfolding steps_sum
sum_xor [] a b = refl
sum_xor (n ∷ ns) a b =
    ap (λ x. bit_xor x (steps_sum ns (bit_xor a b))) (steps_xor n a b)
    ∙ ap (bit_xor (bit_xor (crc_steps n a) (crc_steps n b))) (sum_xor ns a b)
    ∙ xor_pairs (crc_steps n a) (crc_steps n b) (steps_sum ns a) (steps_sum ns b)

-- steps commute
step_late : (n s : ℕ) → crc_steps n (crc_step s) ≡ crc_step (crc_steps n s)
unfolding crc_steps
step_late zero s = refl
step_late (suc n) s = step_late n (crc_step s)

step_mixed : (a b : ℕ) → crc_step (bit_xor a b) ≡ bit_xor (crc_step a) (crc_step b)
unfolding crc_steps
step_mixed a b = steps_xor 1 a b

step_zero : crc_step 0 ≡ 0
unfolding crc_step
step_zero = refl

sum_step : (ns : List ℕ) (s : ℕ) → steps_sum ns (crc_step s) ≡ crc_step (steps_sum ns s)
unfolding steps_sum
sum_step [] s = sym step_zero
sum_step (n ∷ ns) s =
    ap (λ x. bit_xor x (steps_sum ns (crc_step s))) (step_late n s)
    ∙ ap (bit_xor (crc_step (crc_steps n s))) (sum_step ns s)
    ∙ sym (step_mixed (crc_steps n s) (steps_sum ns s))

-- a power of two is halved by a step
halved : (k : ℕ) → crc_step (2 ^ suc k) ≡ 2 ^ k
halved k = step_even (2 ^ suc k) (omega (arith, pow-suc 2 k)) ∙ omega (arith, pow-suc 2 k)

-- what vanishes of the highest bit vanishes of each bit
each_bit : (ns : List ℕ) → steps_sum ns (2 ^ 31) ≡ 0 → (j k : ℕ) → j + k ≡ 31 → steps_sum ns (2 ^ k) ≡ 0
each_bit ns top zero k e = let last : k ≡ 31 = omega (arith, e) in ap (λ i. steps_sum ns (2 ^ i)) last ∙ top
each_bit ns top (suc j) k e =
    ap (steps_sum ns) (sym (halved k))
    ∙ sum_step ns (2 ^ suc k)
    ∙ ap crc_step (each_bit ns top j (suc k) (omega (arith, e)))
    ∙ step_zero

one_high : (k r : ℕ) → 0 < 2 ^ k → r < 2 ^ k → 2 ^ k + r ≡ bit_xor (2 ^ k) r
one_high k r p h =
    let block = xor_block k 1 0 0 r p h in
    let left : 1 * 2 ^ k + 0 ≡ 2 ^ k = omega arith in
    let right : 0 * 2 ^ k + r ≡ r = omega arith in
    sym (ap (λ x. bit_xor x r) (sym left) ∙ ap (bit_xor (1 * 2 ^ k + 0)) (sym right) ∙ block ∙ omega arith)

-- and so of each state
each_state : (ns : List ℕ) → steps_sum ns (2 ^ 31) ≡ 0 → (n s : ℕ) → n ≤ 32 → s < 2 ^ n → steps_sum ns s ≡ 0
each_state ns top zero s le h = let none : s ≡ 0 = omega arith in ap (steps_sum ns) none ∙ sum_zero ns
each_state ns top (suc n) s le h = elim (cases_lt s (2 ^ n)) [
  | inl low ↦ each_state ns top n s (omega arith) low
  | inr high ↦
      let r : ℕ = s - 2 ^ n in
      let small : r < 2 ^ n = omega (arith, pow-suc 2 n) in
      let whole : s ≡ 2 ^ n + r = omega arith in
      ap (steps_sum ns) (whole ∙ one_high n r (omega arith) small)
      ∙ sum_xor ns (2 ^ n) r
      ∙ ap (λ x. bit_xor x (steps_sum ns r)) (each_bit ns top (31 - n) n (omega arith))
      ∙ ap (bit_xor 0) (each_state ns top n r (omega arith) small)
]

-- eight steps for each byte that passes: 304 bytes, and what is left of them at the five distances
abbrev pub distances : List ℕ
distances = 2432 ∷ 1200 ∷ 1016 ∷ 968 ∷ 368 ∷ 112 ∷ []

highest : steps_sum distances (2 ^ 31) ≡ 0
unfolding steps_sum crc_steps crc_step
highest = refl

pub relation : (s : ℕ) → s < 2 ^ 32 → steps_sum distances s ≡ 0
relation s h = each_state distances highest 32 s (omega arith) h
