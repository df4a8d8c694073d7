use Rattle.std.proofs.Common.{length}
use Rattle.cluster_tree.specs.Frame.{Came}
use Rattle.rewind_writes.specs.Steps.{AllAreFit}
use Rattle.resumed_writes.proofs.AgainLemmas.{GoesAgain}
use Rattle.resumed_writes.proofs.stepping.take_all.Given as goal

abbrev pub invariant-loop-step : goal.invariant-loop-step
invariant-loop-step g l = record {
  goes : GoesAgain g.F.Tree l.fn.steps.items l.fn.tree l.steps.items l.tree;
  fit : AllAreFit l.steps.items;
  came : Came g.F.Tree l.fn.tree l.tree;
}

abbrev pub decreases-loop-step : goal.decreases-loop-step
decreases-loop-step g l = length l.steps.items
