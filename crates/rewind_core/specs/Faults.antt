-- The faults of a walk and of what is carried out, as those of a rewind. Own: "Answers and their causes".
use Rattle.std.specs.Prelude.{Result, Ok, Err}
use Rattle.cluster_tree.specs.declared.file_fault.FileFault.{FileFault}
use Rattle.cluster_tree.specs.declared.file_fault.FileFault.TheVariants as file
use Rattle.file_walk.specs.declared.fault.WalkFault.{WalkFault}
use Rattle.file_walk.specs.declared.fault.WalkFault.TheVariants as walk
use Rattle.marked_runs.specs.declared.faults.PerformFault.{PerformFault}
use Rattle.marked_runs.specs.declared.faults.PerformFault.TheVariants as perform
use Rattle.clusters.specs.declared.fault.ClusterFault.TheVariants as cluster
use Rattle.rewind_survey.specs.declared.fault.RewindFault.{RewindFault}
use Rattle.rewind_survey.specs.declared.fault.RewindFault.TheVariants as fault

-- of those a walk answers the ones of the root, of a read and of memory alone; the others keep their names, and a folder in a file's
-- place is what changed
abbrev pub of_file : FileFault → RewindFault
of_file file.ReadFault = fault.Cluster cluster.ReadFault
of_file file.WriteFault = fault.WriteFault
of_file (file.Link path) = fault.Link path
of_file (file.NotFolder path) = fault.NotFolder path
of_file (file.IsFolder path) = fault.Cluster (cluster.Changed path)
of_file (file.NameNotText path) = fault.NameNotText path
of_file (file.TooDeep path) = fault.TooDeep path
of_file (file.Changed path) = fault.Cluster (cluster.Changed path)
of_file file.OutOfMemory = fault.Cluster cluster.OutOfMemory

abbrev pub of_walk : WalkFault → RewindFault
of_walk (walk.Link path) = fault.Link path
of_walk (walk.NameNotText path) = fault.NameNotText path
of_walk (walk.TooDeep path) = fault.TooDeep path
of_walk (walk.OddSize path size) = fault.OddSize path size
of_walk (walk.File cause) = of_file cause

-- what a walk tells, or why a rewind is refused for it
abbrev pub seen : {A : Type 0} → Result A WalkFault → Result A RewindFault
seen (Ok v) = Ok v
seen (Err e) = Err (of_walk e)

abbrev pub of_perform : PerformFault → RewindFault
of_perform perform.ReadFault = fault.Cluster cluster.ReadFault
of_perform perform.WriteFault = fault.WriteFault
of_perform (perform.Changed path) = fault.Cluster (cluster.Changed path)
