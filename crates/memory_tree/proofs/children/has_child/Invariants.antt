use Rattle.std.proofs.Common.{◌≡◌, false, take}
use Rattle.std.specs.List.{list_any}
use Rattle.cluster_tree.specs.Folders.{lies_in}
use Rattle.memory_tree.proofs.children.has_child.Given as goal

abbrev pub invariant-loop-placed : goal.invariant-loop-placed
invariant-loop-placed l = list_any (λ placed. lies_in l.folder placed.path) (take l.placed-index l.nodes) ≡ false
