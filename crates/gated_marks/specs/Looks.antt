-- Why a look broke off that nothing was to refuse. Own: "Answers and their causes".
use Rattle.cluster_tree.specs.declared.tree.TreeFault.{TreeFault}
use Rattle.cluster_tree.specs.declared.tree.TreeFault.TheVariants as fault
use Rattle.marked_runs.specs.declared.faults.StepFault.{StepFault}
use Rattle.marked_runs.specs.declared.faults.StepFault.TheVariants as step

-- a refusal contradicts what was asked
abbrev pub of_look : TreeFault → StepFault
of_look fault.Failed = step.ReadFault
of_look fault.Absent = step.Contradicted
of_look fault.IsFolder = step.Contradicted
of_look fault.NotFolder = step.Contradicted
of_look fault.Link = step.Contradicted
of_look fault.NameNotText = step.Contradicted
of_look fault.Exists = step.Contradicted
of_look fault.NotEmpty = step.Contradicted
of_look fault.PastEnd = step.Contradicted
of_look fault.OutOfMemory = step.Contradicted
