use Rattle.std.proofs.Common.{◌≡◌, false, drop, IsTrue}
use Rattle.cluster_tree.specs.Frame.{Came}
use Rattle.file_edits.specs.Clearing.{in_turn}
use Rattle.file_edits.specs.Own.{OnOwn}
use Rattle.file_edits.specs.Sparing.{Piece, Spares}
use Rattle.storage_replay.specs.Cutting.{entry_swept}
use Rattle.storage_replay.specs.Files.{is_file_in}
use Rattle.storage_replay.specs.Sparing.{is_swept_in}
use Rattle.storage_replay.proofs.cutting.sweep_names.Given as goal

abbrev pub invariant-loop-at : goal.invariant-loop-at
invariant-loop-at g l = record {
  frame : Came g.F.Tree l.fn.tree l.tree;
  own : IsTrue g.F.Tree.tells → OnOwn g.F.Tree.calls (is_file_in l.folder l.relation) l.fn.tree l.tree;
  spares : IsTrue g.F.Tree.tells → (piece : Piece) → is_swept_in l.folder l.sweep l.relation piece.path ≡ false → Spares g.F.Tree piece l.fn.tree l.tree;
  meant : IsTrue g.F.Tree.tells → in_turn (entry_swept l.sweep l.relation l.folder) (drop l.at l.names) (g.F.Tree.contents l.tree) ≡ in_turn (entry_swept l.sweep l.relation l.folder) l.names (g.F.Tree.contents l.fn.tree);
}
