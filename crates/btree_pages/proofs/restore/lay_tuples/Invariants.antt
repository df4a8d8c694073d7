use Rattle.std.proofs.Common.{◌≡◌, ◌+◌, ◌++◌, length, take}
use Rattle.btree_pages.proofs.RestoreLemmas.{held}
use Rattle.btree_pages.proofs.restore.lay_tuples.Given as goal

abbrev pub invariant-loop-tuple : goal.invariant-loop-tuple
invariant-loop-tuple l = record {
  room : l.i + length l.tuples ≡ length l.initial.tuples;
  laid : held (take l.i l.into) ++ l.tuples ≡ l.initial.tuples;
}

abbrev pub decreases-loop-tuple : goal.decreases-loop-tuple
decreases-loop-tuple l = length l.tuples
