use Rattle.std.proofs.Common.{◌≡◌, ℕ, List, [], ◌∷◌, map, take, bytes_eq, string_bytes, is_some, true}
use Rattle.std.specs.FinMap.{get}
use Rattle.std.specs.List.{list_all, list_any}
use Rattle.std.specs.List.Sorted.{IsStrictlySortedBy}
use Rattle.std.specs.String.{string_cmp}
use Rattle.cluster_tree.specs.PathValue.{below, is_part}
use Rattle.memory_tree.specs.Memory.{contents_of}
use Rattle.memory_tree.proofs.children.name_set.Given as goal

abbrev pub invariant-loop-placed : goal.invariant-loop-placed
invariant-loop-placed l = record {
  ordered : IsStrictlySortedBy string_cmp l.names.keys;
  members : (name : List ℕ) → list_any (bytes_eq name) (map string_bytes l.names.keys) ≡ is_some (get (contents_of (take l.placed-index l.nodes)) (below l.folder (name ∷ [])));
  proper : list_all is_part (map string_bytes l.names.keys) ≡ true;
}
