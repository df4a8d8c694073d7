-- Which faults a walk may answer, and why. Own: "Answers and their causes".
use Rattle.std.specs.Prelude.{◌≡◌, ◌⊎◌}
use Rattle.cluster_tree.specs.PathValue.{PathValue}
use Rattle.cluster_tree.specs.declared.file_fault.FileFault.{FileFault}
use Rattle.cluster_tree.specs.declared.file_fault.FileFault.TheVariants as file
use Rattle.file_walk.specs.declared.fault.WalkFault.{WalkFault}
use Rattle.file_walk.specs.declared.fault.WalkFault.TheVariants as fault

-- a fault of the device or want of memory, which may come at any point
abbrev pub IsFree : WalkFault → Type 0
IsFree e = (e ≡ fault.File file.ReadFault) ⊎ (e ≡ fault.File file.OutOfMemory)

-- want of memory
abbrev pub IsMemory : WalkFault → Type 0
IsMemory e = e ≡ fault.File file.OutOfMemory

-- a fault of the device is told as a failed read, of the tree as what changed, and of the root as no folder
abbrev pub IsFileRow : PathValue → FileFault → Type 0
IsFileRow root file.ReadFault = Unit {0}
IsFileRow root file.WriteFault = ⊥
IsFileRow root (file.Link path) = ⊥
IsFileRow root (file.NotFolder path) = path ≡ root
IsFileRow root (file.IsFolder path) = ⊥
IsFileRow root (file.NameNotText path) = ⊥
IsFileRow root (file.TooDeep path) = ⊥
IsFileRow root (file.Changed path) = Unit {0}
IsFileRow root file.OutOfMemory = Unit {0}

abbrev pub IsRowOf : PathValue → WalkFault → Type 0
IsRowOf root (fault.Link path) = Unit {0}
IsRowOf root (fault.NameNotText path) = Unit {0}
IsRowOf root (fault.TooDeep path) = Unit {0}
IsRowOf root (fault.OddSize path size) = Unit {0}
IsRowOf root (fault.File cause) = IsFileRow root cause
