use Rattle.std.proofs.Common.{◌≡◌, ◌++◌, IsTrue}
use Rattle.cluster_tree.specs.Frame.{Reads}
use Rattle.rewind_writes.specs.Steps.{AllAreFit}
use Rattle.resume_core.specs.Source.{first_lost}
use Rattle.resume_core.proofs.source.check_steps.Given as goal

abbrev pub invariant-loop-step : goal.invariant-loop-step
invariant-loop-step g l = record {
  passed : IsTrue g.F.Tree.tells → first_lost (g.F.Tree.contents l.fn.tree) l.steps.items ≡ first_lost (g.F.Tree.contents l.fn.tree) (l.step-iterator.head.now ++ l.step-iterator.wrapped.now);
  fit : AllAreFit (l.step-iterator.head.now ++ l.step-iterator.wrapped.now);
  reads : Reads g.F.Tree l.fn.tree l.tree;
}
