-- The faults of a replay: those that don't depend on the contents, those of a cluster, and those of the log's records. Own:
-- "Answers and their causes".
use Rattle.std.specs.Prelude.{◌≡◌, ◌⊎◌, Result, Ok, Err}
use Rattle.clusters.specs.declared.fault.ClusterFault.{ClusterFault}
use Rattle.clusters.specs.declared.fault.ClusterFault.TheVariants as cluster
use Rattle.replay_profile.specs.declared.fault.ProfileFault.{ProfileFault}
use Rattle.replay_profile.specs.declared.fault.ProfileFault.TheVariants as profile
use Rattle.wal_records.specs.declared.fault.LogFault.{LogFault}
use Rattle.wal_records.specs.declared.fault.LogFault.TheVariants as log
use Rattle.replay_start.specs.declared.fault.ReplayFault.{ReplayFault}
use Rattle.replay_start.specs.declared.fault.ReplayFault.TheVariants as fault

-- a failed read or want of memory, which may come at any point
abbrev pub IsFree : ReplayFault → Type 0
IsFree e = (e ≡ fault.Cluster cluster.ReadFault) ⊎ (e ≡ fault.Cluster cluster.OutOfMemory)

-- what a cluster says, or why a replay is refused for it
abbrev pub told_by : {A : Type 0} → Result A ClusterFault → Result A ReplayFault
told_by (Ok v) = Ok v
told_by (Err e) = Err (fault.Cluster e)

-- why a record isn't taken
abbrev pub of_profile : ProfileFault → ReplayFault
of_profile (profile.BadParts start offset) = fault.BadParts start offset
of_profile (profile.Compressed start id) = fault.Compressed start id
of_profile (profile.NotInProfile start manager info) = fault.NotInProfile start manager info

-- why the log isn't read
abbrev pub of_log : LogFault → ReplayFault
of_log log.ReadFault = fault.Cluster cluster.ReadFault
of_log log.OutOfMemory = fault.Cluster cluster.OutOfMemory
