use Rattle.std.proofs.Common.{◌≡◌, ◌-◌, ◌/◌, IsTrue, length}
use Rattle.cluster_tree.specs.Frame.{Reads}
use Rattle.cluster_tree.specs.Tree.{bytes_at}
use Rattle.cluster_compare.specs.Same.{block_difference, first_block}
use Rattle.cluster_compare.proofs.BlockLemmas.{first_from}
use Rattle.cluster_compare.proofs.blocks.first_block.Given as goal

abbrev pub invariant-loop-block : goal.invariant-loop-block
invariant-loop-block g l = record {
  reads : Reads g.F.Tree l.fn.tree l.tree;
  far : IsTrue g.F.Tree.tells →
      first_block l.segment.per_file l.segment.number (bytes_at (g.F.Tree.contents l.fn.tree) l.files.first.path) (bytes_at (g.F.Tree.contents l.fn.tree) l.files.second.path)
      ≡ first_from (block_difference l.segment.per_file l.segment.number (bytes_at (g.F.Tree.contents l.fn.tree) l.files.first.path) (bytes_at (g.F.Tree.contents l.fn.tree) l.files.second.path))
      l.block (length (bytes_at (g.F.Tree.contents l.fn.tree) l.files.first.path) / 8192 - l.block);
}
