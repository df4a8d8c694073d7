-- The faults of a replay that can be started again, by where they come from. Own: "Answers and their causes".
use Rattle.cluster_tree.specs.declared.file_fault.FileFault.{FileFault}
use Rattle.file_walk.specs.Faults as walks
use Rattle.replay_core.specs.Faults as cores
use Rattle.replay_start.specs.declared.fault.ReplayFault.TheVariants as replay
use Rattle.restart_start.specs.declared.fault.RestartFault.{RestartFault as StartFault}
use Rattle.restart_start.specs.declared.fault.RestartFault.TheVariants as start
use Rattle.stored_replay.specs.declared.fault.StoredReplayFault.{StoredReplayFault}
use Rattle.stored_replay.specs.declared.fault.StoredReplayFault.TheVariants as stored
use Rattle.replay_restart.specs.declared.fault.RestartFault.{RestartFault}
use Rattle.replay_restart.specs.declared.fault.RestartFault.TheVariants as fault

-- what is answered whatever stands there: a device failed, or memory was wanting
abbrev pub IsFree : RestartFault → Type 0
IsFree (fault.Replay e) = cores.IsFree e
IsFree (fault.Walk e) = walks.IsFree e
IsFree (fault.BadPlan root number) = ⊥
IsFree (fault.ShadowDiffers path) = ⊥
IsFree (fault.NotRestartable name) = ⊥

-- a fault of the files
abbrev pub of_files : FileFault → RestartFault
of_files e = fault.Replay (cores.of_file e)

-- of what the mark tells
abbrev pub of_stored : StoredReplayFault → RestartFault
of_stored (stored.Cluster e) = fault.Replay (replay.Cluster e)
of_stored (stored.BadPlan root number) = fault.BadPlan root number
of_stored (stored.ShadowDiffers path) = fault.ShadowDiffers path

-- of what is checked before the first change
abbrev pub of_start : StartFault → RestartFault
of_start (start.Replay e) = fault.Replay e
of_start (start.Walk e) = fault.Walk e
of_start (start.NotRestartable name) = fault.NotRestartable name
