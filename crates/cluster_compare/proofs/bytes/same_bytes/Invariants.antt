use Rattle.std.proofs.Common.{◌≡◌, ◌≤◌, ◌-◌, IsTrue, take}
use Rattle.cluster_tree.specs.Frame.{Reads}
use Rattle.cluster_tree.specs.Tree.{bytes_at}
use Rattle.cluster_compare.proofs.bytes.same_bytes.Given as goal

abbrev pub invariant-loop-done : goal.invariant-loop-done
invariant-loop-done g l = record {
  within : l.done ≤ l.size;
  reads : Reads g.F.Tree l.fn.tree l.tree;
  same : IsTrue g.F.Tree.tells → take l.done (bytes_at (g.F.Tree.contents l.fn.tree) l.files.first.path) ≡ take l.done (bytes_at (g.F.Tree.contents l.fn.tree) l.files.second.path);
}

abbrev pub decreases-loop-done : goal.decreases-loop-done
decreases-loop-done g l = l.size - l.done
