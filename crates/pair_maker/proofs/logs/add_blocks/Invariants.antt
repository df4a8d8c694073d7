use Rattle.std.proofs.Common.{◌≡◌, ◌+◌, ◌*◌, ◌^◌, ◌≤◌, map}
use Rattle.std.specs.List.{range_with_len}
use Rattle.pair_maker.specs.Logs.{block_end, log_upto}
use Rattle.pair_maker.proofs.logs.add_blocks.Given as goal

abbrev pub invariant-loop-block : goal.invariant-loop-block
invariant-loop-block l = record {
  log : l.writer ≡ log_upto l.side l.seed l.block;
  ends : l.ends.items ≡ map (block_end l.side l.seed) (range_with_len 0 l.block);
  low : l.writer.end ≤ 2 ^ 33 + l.block * 2 ^ 32;
}
