use Rattle.std.proofs.Common.{◌≡◌, ◌*◌, take, drop}
use Rattle.wal_base.specs.Crc.{crc_fold}
use Rattle.wal_base.specs.Folding.{folded}
use Rattle.wal_base.proofs.folding.last_bytes.Given as goal

abbrev pub invariant-loop-row : goal.invariant-loop-row
invariant-loop-row l = l.state ≡ crc_fold 0 (take (16 * l.row) (drop l.from (folded l.piece l.sums)))
