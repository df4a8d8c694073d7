use Rattle.std.proofs.Common.{◌≡◌, length}
use Rattle.wal_base.specs.Crc.{crc_fold}
use Rattle.wal_base.proofs.folding.add_long.Given as goal

abbrev pub invariant-loop-rest : goal.invariant-loop-rest
invariant-loop-rest l = crc_fold l.state l.rest ≡ crc_fold l.fn.state l.fn.bytes

abbrev pub decreases-loop-rest : goal.decreases-loop-rest
decreases-loop-rest l = length l.rest
