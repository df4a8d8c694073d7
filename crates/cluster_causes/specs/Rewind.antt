-- The faults of a rewind as causes of a run. Own: "The line of a cause".
use Rattle.rewind_survey.specs.declared.fault.RewindFault.{RewindFault}
use Rattle.rewind_survey.specs.declared.fault.RewindFault.TheVariants as fault
use Rattle.run_acts.specs.declared.cause.Cause.{Cause}
use Rattle.run_acts.specs.declared.cause.Cause.TheVariants as cause
use Rattle.run_acts.specs.declared.cause.HistoryCause.TheVariants as history
use Rattle.run_acts.specs.declared.cause.LogCause.TheVariants as logs
use Rattle.run_acts.specs.declared.cause.PathCause.TheVariants as paths
use Rattle.run_acts.specs.declared.cause.RewindCause.TheVariants as rewind
use Rattle.cluster_causes.specs.Clusters.{cluster_cause}

-- the cause of a fault of a rewind
abbrev pub rewind_cause : RewindFault → Cause
rewind_cause (fault.Cluster e) = cluster_cause e
rewind_cause (fault.SystemsDiffer target source) = cause.Rewind (rewind.SystemsDiffer target source)
rewind_cause (fault.NoHints root) = cause.Rewind (rewind.NoHints root)
rewind_cause (fault.NotClean root n) = cause.Rewind (rewind.NotClean root n)
rewind_cause fault.NoCommonAncestor = cause.History history.NoCommonAncestor
rewind_cause (fault.LogEnds at why) = cause.Log (logs.LogEnds at why)
rewind_cause (fault.BadParts at offset) = cause.Log (logs.BadParts at offset)
rewind_cause (fault.Compressed at id) = cause.Log (logs.Compressed at id)
rewind_cause (fault.NoCommonCheckpoint at) = cause.Rewind (rewind.NoCommonCheckpoint at)
rewind_cause (fault.UnknownSpecial at manager info) = cause.Rewind (rewind.UnknownSpecial at manager info)
rewind_cause (fault.EndNotRecord end found) = cause.Rewind (rewind.EndNotRecord end found)
rewind_cause (fault.Link path) = cause.Paths (paths.Link path)
rewind_cause (fault.NotFolder root) = cause.Paths (paths.NotFolder root)
rewind_cause (fault.NameNotText path) = cause.Paths (paths.NameNotText path)
rewind_cause (fault.TooDeep path) = cause.Paths (paths.TooDeep path)
rewind_cause (fault.OddSize path n) = cause.Rewind (rewind.OddSize path n)
rewind_cause (fault.KindsDiffer path) = cause.Rewind (rewind.KindsDiffer path)
rewind_cause fault.WriteFault = cause.WriteFault
