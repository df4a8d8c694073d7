-- The faults of a rewind: those that don't depend on the contents, those of a cluster, and those of a walk over a log. Own: "Answers and their causes".
use Rattle.std.specs.Prelude.{◌≡◌, ◌⊎◌, Result, Ok, Err}
use Rattle.clusters.specs.declared.fault.ClusterFault.{ClusterFault}
use Rattle.clusters.specs.declared.fault.ClusterFault.TheVariants as cluster
use Rattle.log_walk.specs.declared.fault.LogWalkFault.{LogWalkFault}
use Rattle.log_walk.specs.declared.fault.LogWalkFault.TheVariants as walk
use Rattle.rewind_survey.specs.declared.fault.RewindFault.{RewindFault}
use Rattle.rewind_survey.specs.declared.fault.RewindFault.TheVariants as fault

-- a fault of the device or want of memory, which may come at any point
abbrev pub IsFree : RewindFault → Type 0
IsFree e = (e ≡ fault.Cluster cluster.ReadFault) ⊎ (e ≡ fault.Cluster cluster.OutOfMemory)

-- what a cluster says, or why a rewind is refused for it
abbrev pub told_by : {A : Type 0} → Result A ClusterFault → Result A RewindFault
told_by (Ok v) = Ok v
told_by (Err e) = Err (fault.Cluster e)

-- a fault of a walk over the target's log as one of a rewind
abbrev pub of_walk : LogWalkFault → RewindFault
of_walk (walk.LogEnds at why) = fault.LogEnds at why
of_walk (walk.BadParts at offset) = fault.BadParts at offset
of_walk (walk.Compressed at id) = fault.Compressed at id
of_walk (walk.NoCommonCheckpoint at) = fault.NoCommonCheckpoint at
of_walk (walk.UnknownSpecial at manager info) = fault.UnknownSpecial at manager info
of_walk (walk.EndNotRecord end found) = fault.EndNotRecord end found
of_walk walk.ReadFault = fault.Cluster cluster.ReadFault
of_walk walk.OutOfMemory = fault.Cluster cluster.OutOfMemory

-- what a walk says, or why a rewind is refused for it
abbrev pub walked : {A : Type 0} → Result A LogWalkFault → Result A RewindFault
walked (Ok v) = Ok v
walked (Err e) = Err (of_walk e)
