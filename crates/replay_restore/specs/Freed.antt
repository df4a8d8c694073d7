-- Places that are freed of what isn't listed. Own: "What a replay brings back".
use Rattle.std.specs.Prelude.{◌≡◌, ◌⊎◌, ℕ, Bool, true, false, not, ◌&&◌, ◌||◌, List, [], ◌∷◌, bytes_eq, codes, length, Option, None, Some, Result, Ok, Err}
use Rattle.std.specs.List.{list_any}
use Rattle.cluster_tree.specs.Apart.{is_held}
use Rattle.cluster_tree.specs.Contents.{Contents, Entry, FileEntry, FolderEntry, LinkEntry, entry_at, is_folder}
use Rattle.cluster_tree.specs.PathOrder.{path_eq}
use Rattle.cluster_tree.specs.PathValue.{PathValue, below}
use Rattle.cluster_tree.specs.declared.tree.Kind.{Kind}
use Rattle.cluster_tree.specs.declared.tree.Kind.TheVariants as kind
use Rattle.cluster_tree.specs.declared.file_fault.FileFault.{FileFault}
use Rattle.cluster_tree.specs.declared.file_fault.FileFault.TheVariants as fault
use Rattle.file_edits.specs.Answers.{IsFree}
use Rattle.replay_list.specs.declared.listed.Listed.{Listed}
use Rattle.replay_restore.specs.Listing.{has_file, has_folder, is_restored_at, stays}

-- what stands at a path; a link is refused
abbrev pub kind_asked : PathValue → Option Entry → Result Kind FileFault
kind_asked path None = Ok kind.Absent
kind_asked path (Some (FolderEntry bad)) = Ok kind.Folder
kind_asked path (Some (FileEntry bytes)) = Ok kind.File
kind_asked path (Some LinkEntry) = Err (fault.Link path)

-- whatever is listed below a path, itself at or below this one, has that path listed as a folder
abbrev pub HasFolders : List Listed → PathValue → Type 0
HasFolders listed top = (path q : PathValue) → is_held top path ≡ true → is_held path q ≡ true → path_eq q path ≡ false
    → (has_folder listed q || has_file listed q) ≡ true → has_folder listed path ≡ true

-- a path at or below this one, at which stands what isn't listed there in its kind
abbrev pub goes : List Listed → Contents → (top path : PathValue) → Bool
goes listed c top path = is_held top path && not (stays listed path (entry_at c path))

-- at and below a path nothing is left but what is listed in its kind, and no folder with a name that isn't text
pub record IsFreed (listed : List Listed) (top : PathValue) (old new : Contents) : Type 0 where
  pub gone : (path : PathValue) → goes listed old top path ≡ true → entry_at new path ≡ None
  pub sound : (path : PathValue) (bad : Bool) → is_held top path ≡ true → entry_at new path ≡ Some (FolderEntry bad) → bad ≡ false

-- a link at or below a path, a folder with a name that isn't text, or one of 64 parts
abbrev pub IsBlocked : (top : PathValue) → Contents → FileFault → Type 0
IsBlocked top c fault.ReadFault = ⊥
IsBlocked top c fault.WriteFault = ⊥
IsBlocked top c (fault.Link path) = (is_held top path ≡ true) × (entry_at c path ≡ Some LinkEntry)
IsBlocked top c (fault.NotFolder path) = ⊥
IsBlocked top c (fault.IsFolder path) = ⊥
IsBlocked top c (fault.NameNotText path) = (is_held top path ≡ true) × (entry_at c path ≡ Some (FolderEntry true))
IsBlocked top c (fault.TooDeep path) = (is_held top path ≡ true) × (length path.parts ≡ 64) × (is_folder (entry_at c path) ≡ true)
IsBlocked top c (fault.Changed path) = ⊥
IsBlocked top c fault.OutOfMemory = ⊥

-- .. or a fault of the device or want of memory
abbrev pub IsHindered : (top : PathValue) → Contents → FileFault → Type 0
IsHindered top c e = IsFree e ⊎ IsBlocked top c e

-- .. of a name in a folder, which may have 64 parts itself
abbrev pub IsHinderedIn : (folder : PathValue) → (name : List ℕ) → Contents → FileFault → Type 0
IsHinderedIn folder name c e = IsHindered (below folder (name ∷ [])) c e ⊎ ((length folder.parts ≡ 64) × (e ≡ fault.TooDeep folder))

-- of these names all is freed, and what lies below others is as it was
pub record IsFreeing (listed : List Listed) (folder : PathValue) (done : List (List ℕ)) (first now : Contents) : Type 0 where
  pub freed : (name : List ℕ) → list_any (bytes_eq name) done ≡ true → IsFreed listed (below folder (name ∷ [])) first now
  pub left : (name : List ℕ) → list_any (bytes_eq name) done ≡ false → (q : PathValue) → is_held (below folder (name ∷ [])) q ≡ true → entry_at now q ≡ entry_at first q

-- the names of the areas and the label
abbrev pub area_names : List (List ℕ)
area_names = codes "backup_label" ∷ codes "base" ∷ codes "global" ∷ codes "pg_multixact" ∷ codes "pg_xact" ∷ []

-- a path that is brought back, at which stands what isn't listed there in its kind
abbrev pub goes_in : List Listed → Contents → (root path : PathValue) → Bool
goes_in listed c root path = is_restored_at root path && not (stays listed path (entry_at c path))

-- the label
abbrev pub label_path : PathValue → PathValue
label_path root = below root (codes "backup_label" ∷ [])

-- a folder stands there
abbrev pub IsLabelFolder : PathValue → Contents → FileFault → Type 0
IsLabelFolder root c e = (e ≡ fault.IsFolder (label_path root)) × (is_folder (entry_at c (label_path root)) ≡ true)

-- what stands at or below the areas or the label is in the way, or a fault of the device came, or memory was wanting
abbrev pub IsRefusal : PathValue → Contents → FileFault → Type 0
IsRefusal root c e = IsFree e ⊎ (IsLabelFolder root c e ⊎ ((top : PathValue) × (is_restored_at root top ≡ true) × IsBlocked top c e))

-- at and below the areas and the label nothing is left but what is listed in its kind, and no folder with a name that isn't text
pub record AreFreed (listed : List Listed) (root : PathValue) (old new : Contents) : Type 0 where
  pub gone : (path : PathValue) → goes_in listed old root path ≡ true → entry_at new path ≡ None
  pub sound : (path : PathValue) (bad : Bool) → is_restored_at root path ≡ true → entry_at new path ≡ Some (FolderEntry bad) → bad ≡ false
