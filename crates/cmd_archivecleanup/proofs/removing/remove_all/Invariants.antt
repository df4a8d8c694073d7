use Rattle.std.proofs.Common.{◌≤◌, Bool, IsTrue, length}
use Rattle.cluster_tree.specs.Frame.{Came}
use Rattle.acts.specs.Acts.{Sunk, seen, sunk}
use Rattle.run_acts.proofs.UnseenSteps.{LeadsUnseen}
use Rattle.cmd_archivecleanup.specs.Archivecleanup.{AreFiles, removals}
use Rattle.cmd_archivecleanup.proofs.RanLemmas.{RanTo}
use Rattle.cmd_archivecleanup.proofs.removing.remove_all.Given as goal

abbrev pub invariant-loop-removal : goal.invariant-loop-removal
invariant-loop-removal g l =
    let contents = g.F.Tree.contents in
    let calls = g.F.Tree.calls in
    let first = sunk (g.E.Sink.written l.fn.err) (g.E.Sink.failed_writes l.fn.err) in
    let now = sunk (g.E.Sink.written l.err) (g.E.Sink.failed_writes l.err) in
    record {
      files : IsTrue g.F.Tree.tells → AreFiles (contents l.tree) l.queue.items;
      leads : (o : Bool) (out : Sunk) → LeadsUnseen (IsTrue g.F.Tree.tells) o g.E.Sink.tells (λ c. removals c l.fn.queue.items) (seen (contents l.fn.tree) (calls l.fn.tree) out first)
          (λ c. removals c l.queue.items) (seen (contents l.tree) (calls l.tree) out now);
      ran : IsTrue g.F.Tree.tells → RanTo l.fn.queue.items (calls l.fn.tree) (contents l.fn.tree) l.queue.items (calls l.tree) (contents l.tree);
      frame : Came g.F.Tree l.fn.tree l.tree;
      later : g.E.Sink.failed_writes l.fn.err ≤ g.E.Sink.failed_writes l.err;
    }

abbrev pub decreases-loop-removal : goal.decreases-loop-removal
decreases-loop-removal g l = length l.queue.items
