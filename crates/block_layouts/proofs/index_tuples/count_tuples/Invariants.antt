use Rattle.std.proofs.Common.{◌≡◌, ◌+◌, ◌-◌, ◌≤◌, ℕ, suc, List, length, option_map}
use Rattle.block_layouts.specs.IndexTuples.{count_below}
use Rattle.block_layouts.proofs.index_tuples.count_tuples.Given as goal

-- the tuples before were counted, and end here
pub record Counted (count at : ℕ) (bytes : List ℕ) : Type 0 where
  pub few : count ≤ at
  pub within : at ≤ length bytes
  pub same : option_map (λ n. count + n) (count_below (suc (length bytes) - count) bytes at) ≡ count_below (suc (length bytes)) bytes 0

abbrev pub invariant-loop-at : goal.invariant-loop-at
invariant-loop-at l = Counted l.count l.at l.bytes

abbrev pub decreases-loop-at : goal.decreases-loop-at
decreases-loop-at l = length l.bytes - l.at
