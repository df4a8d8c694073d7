use Rattle.std.proofs.Common.{◌≡◌, take}
use Rattle.cluster_tree.specs.PathValue.{below}
use Rattle.cluster_compare.proofs.places.place.Given as goal

abbrev pub invariant-loop-at : goal.invariant-loop-at
invariant-loop-at l = l.place ≡ below l.root (take l.at l.path.parts)
