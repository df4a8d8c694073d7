-- Why changes that are done again broke off, with the path that it is about. Own: "A rewind that is resumed".
use Rattle.std.specs.Prelude.{Result, Ok, Err}
use Rattle.cluster_tree.specs.PathValue.{PathValue}
use Rattle.marked_runs.specs.declared.faults.StepFault.{StepFault}
use Rattle.marked_runs.specs.declared.faults.StepFault.TheVariants as step
use Rattle.resumed_writes.specs.declared.faults.StoredPerformFault.{StoredPerformFault}
use Rattle.resumed_writes.specs.declared.faults.StoredPerformFault.TheVariants as stored

-- why a read of the source at a path broke off
abbrev pub at_source : PathValue → StepFault → StoredPerformFault
at_source path step.ReadFault = stored.ReadFault
at_source path step.WriteFault = stored.WriteFault
at_source path step.Contradicted = stored.Changed path

-- the outcome of a change of the target at a path
abbrev pub at_target : PathValue → Result (Unit {0}) StepFault → Result (Unit {0}) StoredPerformFault
at_target path (Ok u) = Ok u
at_target path (Err step.ReadFault) = Err stored.ReadFault
at_target path (Err step.WriteFault) = Err stored.WriteFault
at_target path (Err step.Contradicted) = Err (stored.TargetDiffers path)
