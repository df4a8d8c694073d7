use Rattle.std.proofs.Common.{◌≡◌, ◌++◌, drop}
use Rattle.rewind_writes.specs.Steps.{AllAreFit}
use Rattle.rewind_plan.specs.Between.{between}
use Rattle.rewind_plan.specs.Planned.{folder_steps}
use Rattle.rewind_plan.proofs.steps.put_folders.Given as goal

abbrev pub invariant-loop-at : goal.invariant-loop-at
invariant-loop-at l = record {
  put : l.steps.items ≡ folder_steps (between l.clusters) (drop l.at l.pairs) ++ l.initial.steps.items;
  fit : AllAreFit l.initial.steps.items → AllAreFit l.steps.items;
}
