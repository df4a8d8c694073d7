use Rattle.std.proofs.Common.{◌≡◌, ◌+◌, ◌*◌, drop, IsTrue}
use Rattle.cluster_tree.specs.Apart.{is_held}
use Rattle.cluster_tree.specs.Frame.{Came}
use Rattle.file_edits.specs.Clearing.{entry_cleared, in_turn}
use Rattle.file_edits.specs.Own.{OnOwn}
use Rattle.file_edits.proofs.clearing.+clearing.Given as goal

abbrev pub decreases-clear : goal.decreases-clear
decreases-clear g l = l.deeper * 3 + 2

abbrev pub decreases-clear_entry : goal.decreases-clear_entry
decreases-clear_entry g l = l.deeper * 3

abbrev pub decreases-clear_names : goal.decreases-clear_names
decreases-clear_names g l = l.deeper * 3 + 1

abbrev pub invariant-clear_names-loop-at : goal.invariant-clear_names-loop-at
invariant-clear_names-loop-at g l = record {
  frame : Came g.F.Tree l.fn.tree l.tree;
  own : IsTrue g.F.Tree.tells → OnOwn g.F.Tree.calls (is_held l.folder) l.fn.tree l.tree;
  meant : IsTrue g.F.Tree.tells → in_turn (entry_cleared l.deeper l.folder) (drop l.at l.names) (g.F.Tree.contents l.tree) ≡ in_turn (entry_cleared l.deeper l.folder) l.names (g.F.Tree.contents l.fn.tree);
}
