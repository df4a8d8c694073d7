use Rattle.std.proofs.Common.{◌≤◌, ◌-◌, IsTrue}
use Rattle.cluster_tree.specs.Frame.{Came}
use Rattle.cluster_tree.specs.PathOrder.{path_eq}
use Rattle.file_edits.specs.Own.{OnOwn}
use Rattle.piece_copies.proofs.PieceLemmas.{IsFar}
use Rattle.piece_copies.proofs.pieces.copy_bytes.Given as goal

abbrev pub invariant-loop-done : goal.invariant-loop-done
invariant-loop-done g l = record {
  within : l.done ≤ l.size;
  far : IsTrue g.F.Tree.tells → IsFar l.from l.to l.size l.done (g.F.Tree.contents l.fn.tree) (g.F.Tree.contents l.tree);
  came : Came g.F.Tree l.fn.tree l.tree;
  own : IsTrue g.F.Tree.tells → OnOwn g.F.Tree.calls (λ q. path_eq q l.to) l.fn.tree l.tree;
}

abbrev pub decreases-loop-done : goal.decreases-loop-done
decreases-loop-done g l = l.size - l.done
