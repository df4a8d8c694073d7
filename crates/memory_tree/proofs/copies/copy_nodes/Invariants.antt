use Rattle.std.proofs.Common.{◌≡◌, map, take}
use Rattle.memory_tree.specs.Memory.{pair_of}
use Rattle.memory_tree.proofs.copies.copy_nodes.Given as goal

abbrev pub invariant-loop-placed : goal.invariant-loop-placed
invariant-loop-placed l = map pair_of l.copy.items ≡ map pair_of (take l.placed-index l.nodes)
