use Rattle.std.proofs.Common.{◌≡◌, drop}
use Rattle.rewind_plan.specs.Checks.{first_difference}
use Rattle.rewind_plan.proofs.checks.first_difference.Given as goal

abbrev pub invariant-loop-pair : goal.invariant-loop-pair
invariant-loop-pair l = first_difference (drop l.pair-index l.pairs) ≡ first_difference l.pairs
