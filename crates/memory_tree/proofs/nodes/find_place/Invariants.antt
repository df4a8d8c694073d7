use Rattle.std.proofs.Common.{◌≡◌, None, take, map, string_bytes}
use Rattle.std.specs.FinMap.{get}
use Rattle.memory_tree.specs.Memory.{contents_of}
use Rattle.cluster_tree.specs.PathValue.{path_of}
use Rattle.memory_tree.proofs.nodes.find_place.Given as goal

abbrev pub invariant-loop-i : goal.invariant-loop-i
invariant-loop-i l = get (contents_of (take l.i l.nodes)) (path_of l.absolute (map string_bytes l.parts)) ≡ None
