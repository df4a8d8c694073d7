use Rattle.std.proofs.Common.{◌≡◌, ◌-◌, ℕ, List, true, is_some}
use Rattle.block_layouts.specs.Row.{end_of}
use Rattle.block_layouts.specs.IndexTuples.{item_behind, items_end}
use Rattle.block_layouts.proofs.index_tuples.IndexTuples.get.Given as goal

-- the tuples before were passed over, and the others are there
pub record Passed (left begin index i from : ℕ) (bytes : List ℕ) : Type 0 where
  pub same : end_of item_behind (index - i) bytes from ≡ end_of item_behind index bytes begin
  pub others : is_some (items_end (left - i) bytes from) ≡ true

abbrev pub invariant-loop-i : goal.invariant-loop-i
invariant-loop-i l = Passed l.self-inside.left l.self-inside.at l.at l._i l.from l.self-inside.bytes.now
