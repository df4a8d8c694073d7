use Rattle.std.proofs.Common.{◌≡◌, ◌≤◌, IsTrue, drop}
use Rattle.cluster_tree.specs.Frame.{Reads}
use Rattle.stored_replay.specs.Shadows.{first_lost}
use Rattle.stored_replay.proofs.shadows.check_copies.Given as goal

abbrev pub invariant-loop-one : goal.invariant-loop-one
invariant-loop-one g l = record {
  passed : IsTrue g.F.Tree.tells → first_lost (g.F.Tree.contents l.fn.tree) l.root 0 l.listed ≡ first_lost (g.F.Tree.contents l.fn.tree) l.root l.files (drop l.one-index l.listed);
  files : l.files ≤ l.one-index;
  reads : Reads g.F.Tree l.fn.tree l.tree;
}
