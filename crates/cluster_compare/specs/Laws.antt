-- What follows from the definitions, for callers.
use Rattle.std.specs.Prelude.{◌≡◌, ◌↔◌, ℕ, List, Ok}
use Rattle.cluster_tree.specs.Contents.{Contents}
use Rattle.cluster_tree.specs.PathValue.{PathValue}
use Rattle.file_walk.specs.Pairs.{pairs_of}
use Rattle.file_walk.specs.Walk.{HasParts, walk_of}
use Rattle.file_walk.specs.declared.entry.Entry.{Entry}
use Rattle.cluster_compare.specs.Same.{IsSameCluster}
use Rattle.cluster_compare.specs.Compared.{verdict}
use Rattle.cluster_compare.specs.declared.compared.Compared.TheVariants.{Same}

-- a comparison of two walks shows no difference exactly where the clusters are the same
abbrev pub ComparedExactly : Type 0
ComparedExactly = (c : Contents) (per_file : ℕ) (first second : PathValue) (found there : List Entry) →
    HasParts c first → HasParts c second → walk_of c first ≡ Ok found → walk_of c second ≡ Ok there →
    (verdict c per_file first second (pairs_of found there) ≡ Same) ↔ IsSameCluster per_file c first c second
