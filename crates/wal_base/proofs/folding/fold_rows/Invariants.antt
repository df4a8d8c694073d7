use Rattle.std.proofs.Common.{◌≡◌, ◌+◌, ◌*◌, take, drop}
use Rattle.wal_base.specs.Folding.{folded}
use Rattle.wal_base.proofs.folding.fold_rows.Given as goal

abbrev pub invariant-loop-row : goal.invariant-loop-row
invariant-loop-row l = record {
  rows : take (16 * l.row) (drop 304 l.sums) ≡ take (16 * l.row) (folded l.piece l.sums);
  before : take 304 l.sums ≡ take 304 l.fn.sums;
  after : drop (16 * l.row + 304) l.sums ≡ drop (16 * l.row + 304) l.fn.sums;
}
