use Rattle.std.proofs.Common.{◌≡◌, ◌++◌, ◌-◌, ◌^◌, map, length}
use Rattle.rewind_writes.specs.Steps.{AllAreFit}
use Rattle.rewind_plan.specs.Blocks.{AllEnd, range_step}
use Rattle.rewind_plan.proofs.files.put_ranges.Given as goal

abbrev pub invariant-loop-run : goal.invariant-loop-run
invariant-loop-run l = record {
  done : map (range_step l.from l.to) l.runs.items ++ l.steps.items ≡ map (range_step l.from l.to) l.fn.runs.items ++ l.initial.steps.items;
  fit : AllAreFit l.initial.steps.items → AllAreFit l.steps.items;
  ends : AllEnd (2 ^ 51 - 1) l.runs.items;
}

abbrev pub decreases-loop-run : goal.decreases-loop-run
decreases-loop-run l = length l.runs.items
