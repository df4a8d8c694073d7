use Rattle.std.proofs.Common.{◌≡◌, ◌-◌, ◌≤◌, true, IsTrue, Ok}
use Rattle.cluster_tree.specs.PathOrder.{path_eq}
use Rattle.cluster_tree.specs.Contents.{entry_at}
use Rattle.cluster_tree.specs.Tree.{file_of, size_of}
use Rattle.cluster_tree.specs.Frame.{Came}
use Rattle.cluster_tree.specs.declared.tree.ChangeCall.TheVariants as call
use Rattle.file_edits.specs.Edits.{edited, padded}
use Rattle.file_edits.specs.Own.{OnOwn}
use Rattle.file_edits.specs.Sparing.{Piece, Spares, spares}
use Rattle.replay_restore.proofs.pages.pad_to.Given as goal

abbrev pub invariant-loop-size : goal.invariant-loop-size
invariant-loop-size g l = record {
  frame : Came g.F.Tree l.fn.tree l.tree;
  own : IsTrue g.F.Tree.tells → OnOwn g.F.Tree.calls (λ q. path_eq q l.path) l.fn.tree l.tree;
  least : l.from ≤ l.size;
  spares : IsTrue g.F.Tree.tells → (piece : Piece) → spares piece (call.Cut l.path l.from) ≡ true → Spares g.F.Tree piece l.fn.tree l.tree;
  sized : IsTrue g.F.Tree.tells → size_of (file_of (entry_at (g.F.Tree.contents l.fn.tree) l.path)) ≡ Ok l.from → size_of (file_of (entry_at (g.F.Tree.contents l.tree) l.path)) ≡ Ok l.size;
  meant : IsTrue g.F.Tree.tells → size_of (file_of (entry_at (g.F.Tree.contents l.fn.tree) l.path)) ≡ Ok l.from → edited l.path (padded l.to) (g.F.Tree.contents l.tree) ≡ edited l.path (padded l.to) (g.F.Tree.contents l.fn.tree);
}

abbrev pub decreases-loop-size : goal.decreases-loop-size
decreases-loop-size g l = l.to - l.size
