use Rattle.std.proofs.Common.{length}
use Rattle.cluster_tree.specs.Frame.{Came}
use Rattle.reset_cleanup.proofs.PerformLemmas.{Goes}
use Rattle.reset_cleanup.proofs.performing.remove_all.Given as goal

abbrev pub invariant-loop-path : goal.invariant-loop-path
invariant-loop-path g l = record {
  goes : Goes g.F.Tree l.fn.gone.items l.fn.tree l.gone.items l.tree;
  came : Came g.F.Tree l.fn.tree l.tree;
}

abbrev pub decreases-loop-path : goal.decreases-loop-path
decreases-loop-path g l = length l.gone.items
