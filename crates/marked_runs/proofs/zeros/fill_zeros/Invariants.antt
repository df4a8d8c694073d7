use Rattle.std.proofs.Common.{◌≡◌, ◌≤◌, ◌-◌, IsTrue, None, Ok, replicate}
use Rattle.cluster_tree.specs.Change.{first_refusal}
use Rattle.cluster_tree.specs.Frame.{Came}
use Rattle.cluster_tree.specs.Run.{state_by}
use Rattle.marked_runs.specs.Carried.{Carried}
use Rattle.marked_runs.specs.Runs.{writes_at}
use Rattle.marked_runs.proofs.zeros.fill_zeros.Given as goal

abbrev pub invariant-loop-done : goal.invariant-loop-done
invariant-loop-done g l = record {
  within : l.done ≤ l.size;
  far : IsTrue g.F.Tree.tells → first_refusal (g.F.Tree.contents l.fn.tree) (writes_at l.path l.at (replicate l.size 0)) ≡ None
      → Carried (writes_at l.path l.at (replicate l.done 0)) (state_by g.F.Tree.contents g.F.Tree.calls l.fn.tree) (state_by g.F.Tree.contents g.F.Tree.calls l.tree) (Ok tt);
  came : Came g.F.Tree l.fn.tree l.tree;
}

abbrev pub decreases-loop-done : goal.decreases-loop-done
decreases-loop-done g l = l.size - l.done
