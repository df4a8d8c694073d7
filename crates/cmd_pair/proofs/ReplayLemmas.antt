-- The replay of a cluster of a pair stays in its place.
use Rattle.std.proofs.Common.{◌≡◌, ◌≤◌, ◌⊎◌, inl, inr, codes, length, sym, subst}
use Rattle.cluster_tree.specs.PathValue.{PathValue}
use Rattle.cluster_tree.specs.Run.{State}
use Rattle.pair_laws.specs.Stands.{copy_of, target_of}
use Rattle.replay_core.specs.Within.{StaysWithin}
use Rattle.cmd_pair.specs.Stays.{StaysInPair}
use Rattle.cmd_pair.proofs.PlaceLemmas.{below-room}
use Rattle.cmd_pair.proofs.StayLemmas.{at-copy, at-target, within-stays}

-- the target or the copy
abbrev IsPlace : (root cluster : PathValue) → Type 0
IsPlace root cluster = (cluster ≡ target_of root) ⊎ (cluster ≡ copy_of root)

pub cluster-room : (root cluster : PathValue) → length root.parts ≤ 60 → IsPlace root cluster → length cluster.parts ≤ 61
cluster-room root cluster room (inl is) = subst (λ (x : PathValue). length x.parts ≤ 61) (sym is) (below-room root (codes "t") room)
cluster-room root cluster room (inr is) = subst (λ (x : PathValue). length x.parts ≤ 61) (sym is) (below-room root (codes "c") room)

pub cluster-stays : (root cluster : PathValue) (a b : State) → IsPlace root cluster → StaysWithin cluster a b → StaysInPair root a b
cluster-stays root cluster a b (inl is) stays = within-stays root cluster a b (at-target root cluster is) stays
cluster-stays root cluster a b (inr is) stays = within-stays root cluster a b (at-copy root cluster is) stays
