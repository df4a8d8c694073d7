-- What a path that a listing names turns out to be.
use Rattle.std.specs.Prelude.{◌≡◌, ◌⊎◌, ℕ, true, false, List, length, None, Some, Result, MatchResult}
use Rattle.std.specs.List.{list_all}
use Rattle.cluster_tree.specs.Contents.{Contents, Entry, FolderEntry, FileEntry, entry_at}
use Rattle.cluster_tree.specs.Folders.{IsListing}
use Rattle.cluster_tree.specs.PathValue.{PathValue, is_part}
use Rattle.file_walk.specs.declared.fault.WalkFault.{WalkFault}
use Rattle.cluster_tree.specs.declared.file_fault.FileFault.TheVariants as file
use Rattle.cluster_tree.specs.declared.tree.TreeFault.{TreeFault}
use Rattle.cluster_tree.specs.declared.tree.TreeFault.TheVariants as tree
use Rattle.file_walk.specs.declared.fault.WalkFault.TheVariants as fault
use Rattle.file_walk.specs.declared.see.Seen.{Seen}
use Rattle.file_walk.specs.declared.see.Seen.TheVariants as seen
use Rattle.file_walk.specs.Faults.{IsFree}
use Rattle.file_walk.specs.Walk.{entry_flaw, size_flaw}

-- a file of this size without a flaw, or a folder of these names
abbrev pub IsSeen : Contents → (own full : PathValue) → Seen → Type 0
IsSeen c own full (seen.File size) =
    (bytes : List ℕ) × (entry_at c full ≡ Some (FileEntry bytes)) × (length bytes ≡ size) × (size_flaw own size ≡ None)
IsSeen c own full (seen.Folder names) = (entry_at c full ≡ Some (FolderEntry false)) × IsListing c full names

-- what stands there has this flaw
pub record HasFlaw (c : Contents) (own full : PathValue) (flaw : WalkFault) : Type 0 where
  pub entry : Entry
  pub there : entry_at c full ≡ Some entry
  pub flawed : entry_flaw own entry ≡ Some flaw

-- what stands there, or its flaw; else the device failed, or memory was wanting
abbrev pub FitsSeen : Contents → (own full : PathValue) → Result Seen WalkFault → Type 0
FitsSeen c own full result = MatchResult result (IsSeen c own full) (λ e. IsFree e ⊎ HasFlaw c own full e)

-- over every tree, the names of a folder are parts of paths
abbrev pub HasNames : Seen → Type 0
HasNames (seen.File size) = Unit {0}
HasNames (seen.Folder names) = list_all is_part names ≡ true

-- what the refusal of a listing is told as, where a folder was there
abbrev pub told_as : (own full : PathValue) → TreeFault → WalkFault
told_as own full tree.Failed = fault.File file.ReadFault
told_as own full tree.OutOfMemory = fault.File file.OutOfMemory
told_as own full tree.NameNotText = fault.NameNotText own
told_as own full tree.Absent = fault.File (file.Changed full)
told_as own full tree.IsFolder = fault.File (file.Changed full)
told_as own full tree.NotFolder = fault.File (file.Changed full)
told_as own full tree.Link = fault.File (file.Changed full)
told_as own full tree.Exists = fault.File (file.Changed full)
told_as own full tree.NotEmpty = fault.File (file.Changed full)
told_as own full tree.PastEnd = fault.File (file.Changed full)
