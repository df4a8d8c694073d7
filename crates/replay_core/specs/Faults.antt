-- The faults of records and of changes, as those of a replay. Own: "Answers and their causes".
use Rattle.std.specs.Prelude.{[], ◌∷◌, Result, Ok, Err}
use Rattle.cluster_tree.specs.Causes.{IsAmong}
use Rattle.cluster_tree.specs.declared.file_fault.FileFault.{FileFault}
use Rattle.cluster_tree.specs.declared.file_fault.FileFault.TheVariants as file
use Rattle.marked_runs.specs.declared.faults.PerformFault.{PerformFault}
use Rattle.marked_runs.specs.declared.faults.PerformFault.TheVariants as perform
use Rattle.block_replay.specs.declared.faults.RecordFault.{RecordFault}
use Rattle.block_replay.specs.declared.faults.RecordFault.TheVariants as record_fault
use Rattle.clusters.specs.declared.fault.ClusterFault.TheVariants as cluster
use Rattle.replay_start.specs.declared.fault.ReplayFault.{ReplayFault}
use Rattle.replay_start.specs.declared.fault.ReplayFault.TheVariants as fault

-- what is answered whatever stands there: a device failed, or memory was wanting
abbrev pub IsFree : ReplayFault → Type 0
IsFree = IsAmong (fault.Cluster cluster.ReadFault ∷ fault.WriteFault ∷ fault.Cluster cluster.OutOfMemory ∷ [])

-- a fault of the files
abbrev pub of_file : FileFault → ReplayFault
of_file file.ReadFault = fault.Cluster cluster.ReadFault
of_file file.WriteFault = fault.WriteFault
of_file (file.Link path) = fault.Link path
of_file (file.NotFolder path) = fault.NotFolder path
of_file (file.IsFolder path) = fault.KindsDiffer path
of_file (file.NameNotText path) = fault.NameNotText path
of_file (file.TooDeep path) = fault.TooDeep path
of_file (file.Changed path) = fault.Cluster (cluster.Changed path)
of_file file.OutOfMemory = fault.Cluster cluster.OutOfMemory

-- a fault of a record
abbrev pub of_record : RecordFault → ReplayFault
of_record (record_fault.RedoFailed start name why) = fault.RedoFailed start name why
of_record (record_fault.File cause) = of_file cause

-- what records leave, or why a replay ends there
abbrev pub recorded : {A : Type 0} → Result A RecordFault → Result A ReplayFault
recorded (Ok value) = Ok value
recorded (Err e) = Err (of_record e)

-- why changes broke off
abbrev pub of_perform : PerformFault → ReplayFault
of_perform perform.ReadFault = fault.Cluster cluster.ReadFault
of_perform perform.WriteFault = fault.WriteFault
of_perform (perform.Changed path) = fault.Cluster (cluster.Changed path)
