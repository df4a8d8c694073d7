use Rattle.std.proofs.Common.{◌≡◌, IsTrue, None, find, take}
use Rattle.cluster_tree.specs.Frame.{Reads}
use Rattle.log_folder.specs.Listing.{is_segment}
use Rattle.log_folder.proofs.listing.first_segment.Given as goal

abbrev pub invariant-loop-at : goal.invariant-loop-at
invariant-loop-at g l = record {
  none : IsTrue g.F.Tree.tells → find (is_segment (g.F.Tree.contents l.fn.tree) l.folder) (take l.at l.names) ≡ None;
  reads : Reads g.F.Tree l.fn.tree l.tree;
}
