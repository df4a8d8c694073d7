-- Faults of clusters as faults of a replay.
use Rattle.std.proofs.Common.{◌≡◌, ◌⊎◌, inl, inr, Option, Some, Result, Err, option_map, ap}
use Rattle.clusters.specs.Faults.{IsFree}
use Rattle.clusters.specs.declared.fault.ClusterFault.{ClusterFault}
use Rattle.replay_start.specs.Faults.{told_by}
use Rattle.replay_start.specs.Faults as faults
use Rattle.replay_start.specs.declared.fault.ReplayFault.TheVariants as fault

free_by : (e : ClusterFault) → IsFree e → faults.IsFree (fault.Cluster e)
free_by e (inl read) = inl (ap fault.Cluster read)
free_by e (inr memory) = inr (ap fault.Cluster memory)

-- a test of a cluster that refuses
pub refused-by : (o : Option ClusterFault) (e : ClusterFault) → IsFree e ⊎ (o ≡ Some e) → faults.IsFree (fault.Cluster e) ⊎ (option_map fault.Cluster o ≡ Some (fault.Cluster e))
refused-by o e (inl free) = inl (free_by e free)
refused-by o e (inr is) = inr (ap (option_map fault.Cluster) is)

-- and what a cluster doesn't say
pub told-err : {A : Type 0} (meant : Result A ClusterFault) (e : ClusterFault) → IsFree e ⊎ (meant ≡ Err e) → faults.IsFree (fault.Cluster e) ⊎ (told_by meant ≡ Err (fault.Cluster e))
told-err meant e (inl free) = inl (free_by e free)
told-err meant e (inr is) = inr (ap told_by is)

pub ruleset fault_steps = (refused-by, told-err)
