use Rattle.std.proofs.Common.{◌*◌, drop}
use Rattle.cluster_tree.specs.Frame.{Came}
use Rattle.pair_maker.specs.Entries.{pages_from}
use Rattle.pair_maker.proofs.PutLemmas.{Reaches}
use Rattle.pair_maker.proofs.putting.write_blocks.Given as goal

abbrev pub invariant-loop-block : goal.invariant-loop-block
invariant-loop-block g l = record {
  reaches : Reaches g.F.Tree l.path 8192 (pages_from l.seed 1 (drop 1 l.ends)) l.fn.tree (8192 * l.block) (pages_from l.seed l.block (drop l.block l.ends)) l.tree;
  came : Came g.F.Tree l.fn.tree l.tree;
}
