-- The faults of a cluster as causes of a run. Own: "The line of a cause".
use Rattle.clusters.specs.declared.fault.ClusterFault.{ClusterFault}
use Rattle.clusters.specs.declared.fault.ClusterFault.TheVariants as fault
use Rattle.run_acts.specs.declared.cause.Cause.{Cause}
use Rattle.run_acts.specs.declared.cause.Cause.TheVariants as cause
use Rattle.run_acts.specs.declared.cause.ControlCause.TheVariants as control
use Rattle.run_acts.specs.declared.cause.HistoryCause.TheVariants as history

-- the cause of a fault of a cluster
abbrev pub cluster_cause : ClusterFault → Cause
cluster_cause (fault.Unfinished path) = cause.Unfinished path
cluster_cause (fault.ControlMissing root) = cause.Control (control.ControlMissing root)
cluster_cause (fault.Size root n) = cause.Control (control.Size root n)
cluster_cause (fault.Crc root stored computed) = cause.Control (control.Crc root stored computed)
cluster_cause (fault.Version root n) = cause.Control (control.Version root n)
cluster_cause (fault.Catalog root n) = cause.Control (control.Catalog root n)
cluster_cause (fault.Shape root field n) = cause.Control (control.Shape root field n)
cluster_cause (fault.HistoryMissing root tli) = cause.History (history.HistoryMissing root tli)
cluster_cause (fault.BadLine root tli n) = cause.History (history.BadLine root tli n)
cluster_cause (fault.NotRising root tli n) = cause.History (history.NotRising root tli n)
cluster_cause fault.ReadFault = cause.ReadFault
cluster_cause (fault.Changed path) = cause.Changed path
cluster_cause fault.OutOfMemory = cause.OutOfMemory
