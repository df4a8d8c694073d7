-- The faults of files and of walks as causes of a run. Own: "The line of a cause".
use Rattle.cluster_tree.specs.declared.file_fault.FileFault.{FileFault}
use Rattle.cluster_tree.specs.declared.file_fault.FileFault.TheVariants as file
use Rattle.file_walk.specs.declared.fault.WalkFault.{WalkFault}
use Rattle.file_walk.specs.declared.fault.WalkFault.TheVariants as walk
use Rattle.run_acts.specs.declared.cause.Cause.{Cause}
use Rattle.run_acts.specs.declared.cause.Cause.TheVariants as cause
use Rattle.run_acts.specs.declared.cause.PathCause.TheVariants as paths
use Rattle.run_acts.specs.declared.cause.RewindCause.TheVariants as rewind

-- the cause of a fault of files
abbrev pub file_cause : FileFault → Cause
file_cause file.ReadFault = cause.ReadFault
file_cause file.WriteFault = cause.WriteFault
file_cause (file.Link path) = cause.Paths (paths.Link path)
file_cause (file.NotFolder path) = cause.Paths (paths.NotFolder path)
file_cause (file.IsFolder path) = cause.Rewind (rewind.KindsDiffer path)
file_cause (file.NameNotText path) = cause.Paths (paths.NameNotText path)
file_cause (file.TooDeep path) = cause.Paths (paths.TooDeep path)
file_cause (file.Changed path) = cause.Changed path
file_cause file.OutOfMemory = cause.OutOfMemory

-- the cause of a fault of a walk
abbrev pub walk_cause : WalkFault → Cause
walk_cause (walk.Link path) = cause.Paths (paths.Link path)
walk_cause (walk.NameNotText path) = cause.Paths (paths.NameNotText path)
walk_cause (walk.TooDeep path) = cause.Paths (paths.TooDeep path)
walk_cause (walk.OddSize path n) = cause.Rewind (rewind.OddSize path n)
walk_cause (walk.File e) = file_cause e
