-- Where the three clusters of a pair stand. Own: "A pair from a number".
use Rattle.std.specs.Prelude.{◌≡◌, ℕ, ◌+◌, ◌≤◌, true, List, [], ◌∷◌, None, codes, length}
use Rattle.std.specs.List.{list_all}
use Rattle.cluster_tree.specs.Contents.{Contents, IsTree, entry_at}
use Rattle.cluster_tree.specs.PathValue.{PathValue, below, is_part}
use Rattle.pair_maker.specs.Clusters.{copy_entries}
use Rattle.pair_maker.specs.Pair.{PairStands, last_named}

abbrev pub target_of : PathValue → PathValue
target_of root = below root (codes "t" ∷ [])

abbrev pub source_of : PathValue → PathValue
source_of root = below root (codes "s" ∷ [])

abbrev pub copy_of : PathValue → PathValue
copy_of root = below root (codes "c" ∷ [])

-- A pair of so many blocks, 4096 at most, stands below a root, in a tree; and the root leaves room.
pub record HasPair (root : PathValue) (seed blocks : ℕ) (c : Contents) : Type 0 where
  pub few : blocks ≤ 4096
  pub room : length root.parts ≤ 60
  pub proper : list_all is_part root.parts ≡ true
  pub tree : IsTree c
  pub stands : PairStands root seed blocks c

-- the copy of a pair stands below a root, path by path
abbrev pub CopyStands : PathValue → (seed blocks : ℕ) → Contents → Type 0
CopyStands other seed blocks d = (parts : List (List ℕ)) → entry_at d (below other parts) ≡ last_named None (copy_entries seed blocks) parts

-- So it does in a tree, at a root that is no deeper than those of a pair.
pub record HasCopy (root other : PathValue) (seed blocks : ℕ) (d : Contents) : Type 0 where
  pub room : length other.parts ≤ length root.parts + 1
  pub tree : IsTree d
  pub stands : CopyStands other seed blocks d

-- that of a pair stands so at its own root
abbrev pub PairHasCopy : Type 0
PairHasCopy = (root : PathValue) (seed blocks : ℕ) (c : Contents) → HasPair root seed blocks c → HasCopy root (copy_of root) seed blocks c
