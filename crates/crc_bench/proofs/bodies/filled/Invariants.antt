use Rattle.std.proofs.Common.{◌≡◌, vec_len}
use Rattle.crc_bench.proofs.bodies.filled.Given as goal

abbrev pub invariant-loop-count : goal.invariant-loop-count
invariant-loop-count l = vec_len l.bytes ≡ l._count
