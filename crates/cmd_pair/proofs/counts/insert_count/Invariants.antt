use Rattle.std.proofs.Common.{◌≡◌, ◌≤◌, length}
use Rattle.pair_maker.specs.Inserts.{insert_blocks}
use Rattle.cmd_pair.proofs.counts.insert_count.Given as goal

abbrev pub invariant-loop-block : goal.invariant-loop-block
invariant-loop-block l = record {
  counted : l.count ≡ length (insert_blocks l.side l.seed l.block);
  low : l.count ≤ l.block;
}
