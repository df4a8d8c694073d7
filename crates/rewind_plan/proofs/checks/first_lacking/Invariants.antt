use Rattle.std.proofs.Common.{◌≡◌, drop}
use Rattle.rewind_plan.specs.Between.{between}
use Rattle.rewind_plan.specs.Room.{first_lacking}
use Rattle.rewind_plan.proofs.checks.first_lacking.Given as goal

abbrev pub invariant-loop-pair : goal.invariant-loop-pair
invariant-loop-pair l = first_lacking (between l.clusters) (drop l.pair-index l.pairs) ≡ first_lacking (between l.clusters) l.pairs
