use Rattle.std.proofs.Common.{◌≡◌, ◌++◌, IsTrue, None, take}
use Rattle.cluster_tree.specs.Frame.{Reads}
use Rattle.reset_plan.specs.Removals.{going, kinds_refusal}
use Rattle.reset_plan.proofs.removals.add_all.Given as goal

abbrev pub invariant-loop-at : goal.invariant-loop-at
invariant-loop-at g l = record {
  added : l.gone.items ≡ l.fn.gone.items ++ going l.area l.folder (take l.at l.names);
  none : IsTrue g.F.Tree.tells → kinds_refusal (g.F.Tree.contents l.fn.tree) (going l.area l.folder (take l.at l.names)) ≡ None;
  reads : Reads g.F.Tree l.fn.tree l.tree;
}
