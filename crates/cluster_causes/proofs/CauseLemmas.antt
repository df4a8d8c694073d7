-- Faults of a cluster come while a command looks.
use Rattle.std.proofs.Common.{inl, inr, refl}
use Rattle.clusters.specs.declared.fault.ClusterFault.{ClusterFault}
use Rattle.clusters.specs.declared.fault.ClusterFault.TheVariants as cluster
use Rattle.run_acts.specs.Causes.{IsOfLook}
use Rattle.cluster_causes.specs.Clusters.{cluster_cause}

pub cluster_looks : (f : ClusterFault) → IsOfLook (cluster_cause f)
cluster_looks (cluster.Unfinished path) = inr (inr refl)
cluster_looks (cluster.ControlMissing root) = inr (inr refl)
cluster_looks (cluster.Size root n) = inr (inr refl)
cluster_looks (cluster.Crc root stored computed) = inr (inr refl)
cluster_looks (cluster.Version root n) = inr (inr refl)
cluster_looks (cluster.Catalog root n) = inr (inr refl)
cluster_looks (cluster.Shape root field n) = inr (inr refl)
cluster_looks (cluster.HistoryMissing root tli) = inr (inr refl)
cluster_looks (cluster.BadLine root tli n) = inr (inr refl)
cluster_looks (cluster.NotRising root tli n) = inr (inr refl)
cluster_looks cluster.ReadFault = inl refl
cluster_looks (cluster.Changed path) = inr (inr refl)
cluster_looks cluster.OutOfMemory = inr (inl refl)
