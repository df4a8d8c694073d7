use Rattle.std.proofs.Common.{◌≡◌, ◌+◌, ◌*◌, ◌≤◌, drop, length, IsTrue}
use Rattle.cluster_tree.specs.Contents.{entry_at}
use Rattle.cluster_tree.specs.Folders.{IsListing}
use Rattle.cluster_tree.specs.Frame.{Came}
use Rattle.file_edits.specs.Own.{OnOwn}
use Rattle.replay_restore.specs.Freed.{HasFolders, IsFreeing, goes}
use Rattle.replay_restore.proofs.freeing.+freeing.Given as goal

abbrev pub decreases-free_entry : goal.decreases-free_entry
decreases-free_entry g l = l.deeper * 4

abbrev pub decreases-free_folder : goal.decreases-free_folder
decreases-free_folder g l = l.deeper * 4 + 3

abbrev pub decreases-free_inside : goal.decreases-free_inside
decreases-free_inside g l = l.deeper * 4 + 2

abbrev pub decreases-free_names : goal.decreases-free_names
decreases-free_names g l = l.deeper * 4 + 1

abbrev pub decreases-free_names-loop-at : goal.decreases-free_names-loop-at
decreases-free_names-loop-at g l = l.at

abbrev pub invariant-free_names-loop-at : goal.invariant-free_names-loop-at
invariant-free_names-loop-at g l = record {
  frame : Came g.F.Tree l.fn.tree l.tree;
  within : l.at ≤ length l.names;
  own : IsTrue g.F.Tree.tells → HasFolders l.listed l.path → IsListing (g.F.Tree.contents l.fn.tree) l.path l.names → OnOwn g.F.Tree.calls (goes l.listed (g.F.Tree.contents l.fn.tree) l.path) l.fn.tree l.tree;
  same : IsTrue g.F.Tree.tells → HasFolders l.listed l.path → IsListing (g.F.Tree.contents l.fn.tree) l.path l.names → entry_at (g.F.Tree.contents l.tree) l.path ≡ entry_at (g.F.Tree.contents l.fn.tree) l.path;
  freeing : IsTrue g.F.Tree.tells → HasFolders l.listed l.path → IsListing (g.F.Tree.contents l.fn.tree) l.path l.names → IsFreeing l.listed l.path (drop l.at l.names) (g.F.Tree.contents l.fn.tree) (g.F.Tree.contents l.tree);
}
