-- The faults of a resume: those that don't depend on the contents, and those of a cluster. Own: "Answers and their causes".
use Rattle.std.specs.Prelude.{◌≡◌, ◌⊎◌, Result, Ok, Err}
use Rattle.clusters.specs.declared.fault.ClusterFault.{ClusterFault}
use Rattle.clusters.specs.declared.fault.ClusterFault.TheVariants as cluster
use Rattle.rewind_survey.specs.declared.fault.RewindFault.TheVariants as rewind
use Rattle.resume_core.specs.declared.fault.ResumeFault.{ResumeFault}
use Rattle.resume_core.specs.declared.fault.ResumeFault.TheVariants as fault

-- a fault of the device or want of memory, which may come at any point
abbrev pub IsFree : ResumeFault → Type 0
IsFree e = (e ≡ fault.Rewind (rewind.Cluster cluster.ReadFault)) ⊎ (e ≡ fault.Rewind (rewind.Cluster cluster.OutOfMemory))

-- a fault of a cluster as one of a resume
abbrev pub of_cluster : ClusterFault → ResumeFault
of_cluster e = fault.Rewind (rewind.Cluster e)

-- what a cluster says, or why a resume is refused for it
abbrev pub told_by : {A : Type 0} → Result A ClusterFault → Result A ResumeFault
told_by (Ok v) = Ok v
told_by (Err e) = Err (of_cluster e)
