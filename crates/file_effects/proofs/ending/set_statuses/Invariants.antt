use Rattle.std.proofs.Common.{◌≡◌, drop, IsTrue}
use Rattle.cluster_tree.specs.Frame.{Came}
use Rattle.file_edits.specs.Own.{OnOwn}
use Rattle.file_effects.specs.Done.{statuses_set}
use Rattle.file_effects.specs.Own.{is_replayed}
use Rattle.file_effects.specs.Touched.{SparesBlocks, no_block_taken}
use Rattle.file_effects.proofs.ending.set_statuses.Given as goal

abbrev pub invariant-loop-place : goal.invariant-loop-place
invariant-loop-place g l = record {
  frame : Came g.F.Tree l.fn.tree l.tree;
  own : IsTrue g.F.Tree.tells → OnOwn g.F.Tree.calls (is_replayed l.at.root) l.fn.tree l.tree;
  spares : IsTrue g.F.Tree.tells → SparesBlocks g.F.Tree l.at.root l.at.per_file no_block_taken l.fn.tree l.tree;
  meant : IsTrue g.F.Tree.tells → statuses_set l.at.root l.status (drop l.place l.xids) (g.F.Tree.contents l.tree) ≡ statuses_set l.at.root l.status l.xids (g.F.Tree.contents l.fn.tree);
}
