use Rattle.std.proofs.Common.{◌≡◌, IsTrue, drop}
use Rattle.cluster_tree.specs.Frame.{Reads}
use Rattle.cluster_compare.specs.Compared.{verdict}
use Rattle.cluster_compare.specs.Looks.{AreToldPairs}
use Rattle.cluster_compare.proofs.clusters_compared.first_difference.Given as goal

abbrev pub invariant-loop-pair : goal.invariant-loop-pair
invariant-loop-pair g l = record {
  reads : Reads g.F.Tree l.fn.tree l.tree;
  told : IsTrue g.F.Tree.tells → AreToldPairs (g.F.Tree.contents l.fn.tree) l.clusters.first.now l.clusters.second.now (drop l.pair-index l.pairs);
  far : IsTrue g.F.Tree.tells →
      verdict (g.F.Tree.contents l.fn.tree) l.clusters.per_file l.clusters.first.now l.clusters.second.now (drop l.pair-index l.pairs)
      ≡ verdict (g.F.Tree.contents l.fn.tree) l.clusters.per_file l.clusters.first.now l.clusters.second.now l.pairs;
}
