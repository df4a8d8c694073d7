-- The faults of changes that were planned as causes of a run. Own: "The line of a cause".
use Rattle.marked_runs.specs.declared.faults.PerformFault.{PerformFault}
use Rattle.marked_runs.specs.declared.faults.PerformFault.TheVariants as perform
use Rattle.run_acts.specs.declared.cause.Cause.{Cause}
use Rattle.run_acts.specs.declared.cause.Cause.TheVariants as cause

-- the cause of changes that broke off
abbrev pub perform_cause : PerformFault → Cause
perform_cause perform.ReadFault = cause.ReadFault
perform_cause perform.WriteFault = cause.WriteFault
perform_cause (perform.Changed path) = cause.Changed path
