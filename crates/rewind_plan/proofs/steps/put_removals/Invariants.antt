use Rattle.std.proofs.Common.{◌≡◌, ◌++◌, drop}
use Rattle.rewind_writes.specs.Steps.{AllAreFit}
use Rattle.rewind_plan.specs.Between.{between}
use Rattle.rewind_plan.specs.Planned.{removal_steps}
use Rattle.rewind_plan.proofs.steps.put_removals.Given as goal

abbrev pub invariant-loop-pair : goal.invariant-loop-pair
invariant-loop-pair l = record {
  put : removal_steps (between l.clusters) (drop l.pair-index l.pairs) ++ l.steps.items ≡ removal_steps (between l.clusters) l.pairs ++ l.initial.steps.items;
  fit : AllAreFit l.initial.steps.items → AllAreFit l.steps.items;
}
