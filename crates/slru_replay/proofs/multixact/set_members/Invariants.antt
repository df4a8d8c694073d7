use Rattle.std.proofs.Common.{◌≡◌, drop, IsTrue}
use Rattle.cluster_tree.specs.Frame.{Came}
use Rattle.file_edits.specs.Own.{OnOwn}
use Rattle.slru_replay.specs.Area.{is_of_area}
use Rattle.slru_replay.specs.MultiXact.{members_set}
use Rattle.slru_replay.specs.declared.area.Area.TheVariants.{Members}
use Rattle.slru_replay.proofs.multixact.set_members.Given as goal

abbrev pub invariant-loop-at : goal.invariant-loop-at
invariant-loop-at g l = record {
  frame : Came g.F.Tree l.fn.tree l.tree;
  own : IsTrue g.F.Tree.tells → OnOwn g.F.Tree.calls (is_of_area l.root Members) l.fn.tree l.tree;
  meant : IsTrue g.F.Tree.tells → members_set l.root l.place (drop l.at l.members) (g.F.Tree.contents l.tree) ≡ members_set l.root l.offset l.members (g.F.Tree.contents l.fn.tree);
}
