-- A pair that is tried in one tree: its target is rewound and then replayed, and its copy is replayed behind it; both end as the same cluster.
-- Own: "A pair from a number", "Clusters that grew from one state".
use Rattle.std.specs.Prelude.{None, ◌≡◌, ℕ, Ok}
use Rattle.cluster_compare.specs.Same.{IsSameCluster}
use Rattle.cluster_tree.specs.Contents.{Contents, IsTree, entry_at}
use Rattle.cluster_tree.specs.PathValue.{Holds, PathValue}
use Rattle.replay_core.specs.Replayed.{After, after_replay}
use Rattle.rewind_core.specs.Fits.{IsRewound}
use Rattle.pair_laws.specs.Grew.{pair_rewind}
use Rattle.pair_laws.specs.Stands.{CopyStands, HasPair, copy_of, target_of}

-- nothing was changed but at a root and below it
abbrev pub StaysBut : PathValue → (old new : Contents) → Type 0
StaysBut root old new = (path : PathValue) → (Holds root path → ⊥) → entry_at new path ≡ entry_at old path

-- whatever is done to the target alone, the pair's copy stands as it did
abbrev pub CopyStays : Type 0
CopyStays = (root : PathValue) (seed blocks : ℕ) (c d : Contents) → HasPair root seed blocks c → StaysBut (target_of root) c d → CopyStands (copy_of root) seed blocks d

-- the target is rewound, and replayed; then the copy is
pub record IsTried (root : PathValue) (seed blocks : ℕ) (c c' : Contents) (target copy : After) : Type 0 where
  pub rewound : IsRewound c (pair_rewind root seed blocks c) c'
  pub target_ends : after_replay None c' (target_of root) ≡ Ok target
  pub target_alone : StaysBut (target_of root) c' target.files
  pub tree : IsTree target.files
  pub copy_ends : after_replay None target.files (copy_of root) ≡ Ok copy
  pub copy_alone : StaysBut (copy_of root) target.files copy.files

-- so what is left at both is the same cluster, of files of 131072 blocks at most
abbrev pub PairsEndTheSame : Type 0
PairsEndTheSame = (root : PathValue) (seed blocks : ℕ) (c c' : Contents) (target copy : After) → HasPair root seed blocks c → IsTried root seed blocks c c' target copy
    → IsSameCluster 131072 copy.files (copy_of root) copy.files (target_of root)
