use Rattle.std.proofs.Common.{◌≡◌, IsTrue, drop, map, take}
use Rattle.cluster_tree.specs.Frame.{Reads}
use Rattle.cmd_archivecleanup.specs.Archivecleanup.{removal, unremoved}
use Rattle.cmd_archivecleanup.proofs.plan.removals.Given as goal

abbrev pub invariant-loop-at : goal.invariant-loop-at
invariant-loop-at g l = record {
  made : l.queue.items ≡ map (removal l.debug l.folder) (take l.at l.names);
  files : IsTrue g.F.Tree.tells → unremoved (g.F.Tree.contents l.fn.tree) l.folder l.names ≡ unremoved (g.F.Tree.contents l.fn.tree) l.folder (drop l.at l.names);
  reads : Reads g.F.Tree l.fn.tree l.tree;
}
