use Rattle.std.proofs.Common.{◌≡◌, ◌-◌, true, IsTrue, length}
use Rattle.cluster_tree.specs.PathValue.{front}
use Rattle.cluster_tree.specs.Contents.{entry_at, is_folder}
use Rattle.cluster_tree.specs.Frame.{Came}
use Rattle.file_edits.specs.Edits.{way_made, folders_made, on_way}
use Rattle.file_edits.specs.Own.{OnOwn}
use Rattle.file_edits.specs.Sparing.{Piece, Spares}
use Rattle.file_edits.proofs.ways.make_way.Given as goal

abbrev pub invariant-loop-parts : goal.invariant-loop-parts
invariant-loop-parts g l = record {
  frame : Came g.F.Tree l.fn.tree l.tree;
  own : IsTrue g.F.Tree.tells → OnOwn g.F.Tree.calls (on_way l.root l.path) l.fn.tree l.tree;
  spares : IsTrue g.F.Tree.tells → (piece : Piece) → Spares g.F.Tree piece l.fn.tree l.tree;
  meant : IsTrue g.F.Tree.tells → folders_made (length l.path.parts - l.parts) l.parts l.path (g.F.Tree.contents l.tree) ≡ way_made l.root l.path (g.F.Tree.contents l.fn.tree);
  above : IsTrue g.F.Tree.tells → is_folder (entry_at (g.F.Tree.contents l.tree) (front (l.parts - 1) l.path)) ≡ true;
}
