use Rattle.std.proofs.Common.{◌≡◌, ◌-◌, ◌≤◌, ℕ, List, length}
use Rattle.block_layouts.specs.MultiInsert.{tuples_end}
use Rattle.block_layouts.proofs.multi_insert.tuples_end.Given as goal

-- the tuples before are there, and end here
pub record Ended (count i at : ℕ) (bytes : List ℕ) : Type 0 where
  pub within : at ≤ length bytes
  pub same : tuples_end (count - i) bytes at ≡ tuples_end count bytes 0

abbrev pub invariant-loop-i : goal.invariant-loop-i
invariant-loop-i l = Ended l.count l._i l.at l.bytes
