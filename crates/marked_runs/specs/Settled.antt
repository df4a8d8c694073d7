-- The answer of a changing call that nothing was to refuse. Own: "Answers and their causes".
use Rattle.std.specs.Prelude.{Result, Ok, Err}
use Rattle.cluster_tree.specs.declared.tree.TreeFault.{TreeFault}
use Rattle.cluster_tree.specs.declared.tree.TreeFault.TheVariants as fault
use Rattle.marked_runs.specs.declared.faults.StepFault.{StepFault}
use Rattle.marked_runs.specs.declared.faults.StepFault.TheVariants as step

-- a refusal contradicts what was asked
abbrev pub fault_of : TreeFault → StepFault
fault_of fault.Failed = step.WriteFault
fault_of fault.Absent = step.Contradicted
fault_of fault.IsFolder = step.Contradicted
fault_of fault.NotFolder = step.Contradicted
fault_of fault.Link = step.Contradicted
fault_of fault.NameNotText = step.Contradicted
fault_of fault.Exists = step.Contradicted
fault_of fault.NotEmpty = step.Contradicted
fault_of fault.PastEnd = step.Contradicted
fault_of fault.OutOfMemory = step.Contradicted

-- the outcome of the step
abbrev pub settled : Result (Unit {0}) TreeFault → Result (Unit {0}) StepFault
settled (Ok u) = Ok u
settled (Err e) = Err (fault_of e)
