-- The faults that don't depend on the contents. Own: "Answers and their causes".
use Rattle.std.specs.Prelude.{◌≡◌, ◌⊎◌, Result, Ok, Err}
use Rattle.clusters.specs.declared.fault.ClusterFault.{ClusterFault}
use Rattle.clusters.specs.declared.fault.ClusterFault.TheVariants as cluster
use Rattle.stored_replay.specs.declared.fault.StoredReplayFault.{StoredReplayFault}
use Rattle.stored_replay.specs.declared.fault.StoredReplayFault.TheVariants as fault

-- a fault of the device or want of memory, which may come at any point
abbrev pub IsFree : StoredReplayFault → Type 0
IsFree e = (e ≡ fault.Cluster cluster.ReadFault) ⊎ (e ≡ fault.Cluster cluster.OutOfMemory)

-- what a cluster says, or why that isn't taken up
abbrev pub told_by : {A : Type 0} → Result A ClusterFault → Result A StoredReplayFault
told_by (Ok v) = Ok v
told_by (Err e) = Err (fault.Cluster e)
