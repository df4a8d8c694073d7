use Rattle.std.proofs.Common.{◌≡◌, ◌+◌, ◌-◌, ◌≤◌, ℕ, List, length}
use Rattle.block_layouts.specs.Shortened.{lists_end}
use Rattle.block_layouts.proofs.shortened.lists_end.Given as goal

-- the lists before were passed over, and end here
pub record Ended (count i first end : ℕ) (bytes : List ℕ) : Type 0 where
  pub most : end ≤ length bytes + 262140
  pub same : lists_end (count - i) bytes end ≡ lists_end count bytes first

abbrev pub invariant-loop-i : goal.invariant-loop-i
invariant-loop-i l = Ended l.count l._i l.first l.end l.bytes
