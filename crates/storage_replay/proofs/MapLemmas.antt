-- Pairs of bits in a byte.
use Rattle.std.proofs.Common.{◌≡◌, ℕ, ◌*◌, ◌<◌, ◌≤◌, ◌^◌, ap, arith}

pub unit-3 : (pair : ℕ) → 3 ≤ pair → pair < 4 → 64 ≡ 4 ^ pair
unit-3 pair low high = let is : 3 ≡ pair = omega arith in ap (λ k. 4 ^ k) is

pub bits-3 : (pair bits : ℕ) → 3 ≤ pair → pair < 4 → bits * 64 ≡ bits * 4 ^ pair
bits-3 pair bits low high = let is : 3 ≡ pair = omega arith in ap (λ k. bits * 4 ^ k) is

pub ruleset pair_steps = (unit-3, bits-3)
