use Rattle.std.proofs.Common.{◌≡◌, drop, IsTrue}
use Rattle.cluster_tree.specs.Folders.{lies_in}
use Rattle.cluster_tree.specs.Frame.{Came}
use Rattle.file_edits.specs.Clearing.{in_turn}
use Rattle.file_edits.specs.Own.{OnOwn}
use Rattle.slru_replay.specs.Cutting.{file_cut}
use Rattle.slru_replay.proofs.cutting.cut_files.Given as goal

abbrev pub invariant-loop-at : goal.invariant-loop-at
invariant-loop-at g l = record {
  frame : Came g.F.Tree l.fn.tree l.tree;
  own : IsTrue g.F.Tree.tells → OnOwn g.F.Tree.calls (lies_in l.folder) l.fn.tree l.tree;
  meant : IsTrue g.F.Tree.tells → in_turn (file_cut l.area l.first l.last l.folder) (drop l.at l.names) (g.F.Tree.contents l.tree) ≡ in_turn (file_cut l.area l.first l.last l.folder) l.names (g.F.Tree.contents l.fn.tree);
}
