use Rattle.std.proofs.Common.{◌≤◌, ◌-◌, Ok}
use Rattle.cluster_tree.specs.Frame.{Came}
use Rattle.rewind_writes.proofs.CopyLemmas.{Copied}
use Rattle.rewind_writes.proofs.copying.copy_range.Given as goal

abbrev pub invariant-loop-done : goal.invariant-loop-done
invariant-loop-done g l = record {
  within : l.done ≤ l.size;
  far : Copied g.F.Tree l.from l.to l.at l.size l.done l.fn.tree l.tree (Ok tt);
  came : Came g.F.Tree l.fn.tree l.tree;
}

abbrev pub decreases-loop-done : goal.decreases-loop-done
decreases-loop-done g l = l.size - l.done
