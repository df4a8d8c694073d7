use Rattle.std.proofs.Common.{◌≡◌, take}
use Rattle.cluster_tree.specs.PathValue.{below}
use Rattle.rewind_plan.proofs.place.place.Given as goal

abbrev pub invariant-loop-at : goal.invariant-loop-at
invariant-loop-at l = l.place ≡ below l.root (take l.at l.path.parts)
