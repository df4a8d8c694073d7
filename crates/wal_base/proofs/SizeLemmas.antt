-- What holds of each segment size.
use Rattle.std.proofs.Common.{◌≡◌, ℕ, zero, suc, ◌+◌, ◌-◌, ◌*◌, ◌/◌, ◌%◌, ◌^◌, ◌<◌, ◌≤◌, inl, inr, count_ones, refl, sym, ap, ◌∙◌, arith, eqb-true, pow-suc, pow_pos}
use Rattle.std.proofs.lemmas.Nat.{ones_cat, zero_from_ones, pow-add, pow_below}
use Rattle.std.proofs.lemmas.Bool.{cases_lt}
use Rattle.std.proofs.Math.Nat.{mul-div_cancel, pow-le-pow_right}
use Rattle.wal_base.specs.SegSize.{IsSegSize}
use Rattle.wal_base.proofs.CrcSteps.{mod_two}

-- a number with one bit is a power of two
power_from_one_bit : (k n : ℕ) → n < 2 ^ k → count_ones n ≡ 1 → (j : ℕ) × (n ≡ 2 ^ j)
unfolding lib.Count.ones
power_from_one_bit zero n h e =
    let none : n ≡ 0 = omega arith in
    let zero_ones : count_ones 0 ≡ 0 = refl in
    absurd (omega (arith, zero_ones, ap count_ones none, e))
power_from_one_bit (suc k) n h e =
    let half : n / 2 < 2 ^ k = omega (arith, pow-suc 2 k) in
    let whole : n ≡ n / 2 * 2 ^ 1 + n % 2 = omega arith in
    let parts : count_ones n ≡ count_ones (n / 2) + count_ones (n % 2) = ap count_ones whole ∙ ones_cat 1 (n / 2) (n % 2) (omega arith) in
    elim (mod_two n) [
      | inl even ↦
          let last : count_ones (n % 2) ≡ 0 = ap count_ones even in
          let more = power_from_one_bit k (n / 2) half (omega (arith, parts, last, e)) in
          (suc more.0, omega (arith, more.1, pow-suc 2 more.0))
      | inr odd ↦
          let last : count_ones (n % 2) ≡ 1 = ap count_ones odd in
          let none : n / 2 ≡ 0 = zero_from_ones (n / 2) (omega (arith, parts, last, e)) in
          (0, omega arith)
    ]

-- in MiB, and how often it goes into 2 ^ 32
pub record SizeFacts (bytes : ℕ) : Type 0 where
  pub mebibytes : ℕ
  pub whole : bytes ≡ mebibytes * 2 ^ 20
  pub some : 0 < bytes
  pub per_high : ℕ
  pub all : per_high * bytes ≡ 2 ^ 32
  pub fits : 0 < per_high
  pub few : per_high ≤ 4096
  pub quotient : 2 ^ 32 / bytes ≡ per_high

between : (j : ℕ) → 2 ^ 20 ≤ 2 ^ j → 2 ^ j ≤ 2 ^ 30 → (20 ≤ j) × (j ≤ 30)
between j l g = (
  elim (cases_lt j 20) [ inl low ↦ absurd (omega (arith, l, pow_below j 20 low)) | inr high ↦ high ],
  elim (cases_lt 30 j) [ inl high ↦ absurd (omega (arith, g, pow_below 30 j high)) | inr low ↦ low ],
)

power_facts : (j : ℕ) → 20 ≤ j → j ≤ 30 → SizeFacts (2 ^ j)
power_facts j l g =
    let low : j - 20 + 20 ≡ j = omega arith in
    let high : 32 - j + j ≡ 32 = omega arith in
    let all : 2 ^ (32 - j) * 2 ^ j ≡ 2 ^ 32 = sym (pow-add 2 (32 - j) j) ∙ ap (λ k. 2 ^ k) high in
    let short : 32 - j ≤ 12 = omega arith in
    let few : 2 ^ (32 - j) ≤ 2 ^ 12 = pow-le-pow_right (omega arith) short in
    record {
      mebibytes = 2 ^ (j - 20);
      whole = sym (ap (λ k. 2 ^ k) low) ∙ pow-add 2 (j - 20) 20;
      some = pow_pos j;
      per_high = 2 ^ (32 - j);
      all = all;
      fits = pow_pos (32 - j);
      few = few;
      quotient = ap (λ x. x / 2 ^ j) (sym all) ∙ mul-div_cancel (2 ^ (32 - j)) (pow_pos j);
    }

pub exponent : (bytes : ℕ) → IsSegSize bytes → (j : ℕ) × (20 ≤ j) × (j ≤ 30) × (bytes ≡ 2 ^ j)
exponent bytes s =
    let power = power_from_one_bit 31 bytes (omega (arith, s.greatest)) (eqb-true (count_ones bytes) 1 s.power) in
    let j : ℕ = power.0 in
    let range = between j (omega (arith, s.least, power.1)) (omega (arith, s.greatest, power.1)) in
    (j, range.0, range.1, power.1)

pub size_facts : (bytes : ℕ) → IsSegSize bytes → SizeFacts bytes
size_facts bytes s =
    let e = exponent bytes s in
    rw e.3 (power_facts e.0 e.1 e.2)
