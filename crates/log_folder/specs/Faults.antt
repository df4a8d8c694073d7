-- The faults of a search for a log by what they come from. Own: "Answers and their causes".
use Rattle.std.specs.Prelude.{◌≡◌, ◌⊎◌}
use Rattle.log_folder.specs.declared.fault.FolderFault.{FolderFault}
use Rattle.log_folder.specs.declared.fault.FolderFault.TheVariants as fault

-- a fault of the device or want of memory, which may come at any point
abbrev pub IsFree : FolderFault → Type 0
IsFree e = (e ≡ fault.ReadFault) ⊎ (e ≡ fault.OutOfMemory)

-- one that the words alone don't decide
abbrev pub IsOfTree : FolderFault → Type 0
IsOfTree (fault.NotFolder path) = Unit {0}
IsOfTree (fault.Link path) = Unit {0}
IsOfTree (fault.NameNotText path) = Unit {0}
IsOfTree (fault.NoWal path) = Unit {0}
IsOfTree (fault.BadSegment path) = Unit {0}
IsOfTree fault.Usage = ⊥
IsOfTree fault.ReadFault = Unit {0}
IsOfTree fault.OutOfMemory = Unit {0}
