-- What the calls on a tree answer and leave: POSIX.1-2017, System Interfaces: stat, pread, pwrite, open, mkdir, ftruncate. Own: "The tree of files".
use Rattle.std.specs.Prelude.{◌≡◌, ℕ, ◌+◌, ◌≤◌, ◌⊎◌, cond, nat_lt, List, [], ◌∷◌, length, take, drop, Option, None, Some, Result, Ok, Err, IfErr, MatchResult, is_some}
use Rattle.std.specs.FinMap.{insert}
use Rattle.cluster_tree.specs.PathValue.{PathValue}
use Rattle.cluster_tree.specs.Contents.{Entry, FolderEntry, FileEntry, LinkEntry, Contents, entry_at, parent}
use Rattle.layout.specs.Splice.{splice}
use Rattle.cluster_tree.specs.Causes.{Rose, IsAmong}
use Rattle.cluster_tree.specs.declared.tree.Kind.{Kind}
use Rattle.cluster_tree.specs.declared.tree.Kind.TheVariants as kind
use Rattle.cluster_tree.specs.declared.tree.TreeFault.{TreeFault}
use Rattle.cluster_tree.specs.declared.tree.TreeFault.TheVariants as fault

-- the kind of an entry
abbrev pub kind_of : Option Entry → Result Kind TreeFault
kind_of None = Ok kind.Absent
kind_of (Some (FolderEntry _)) = Ok kind.Folder
kind_of (Some (FileEntry _)) = Ok kind.File
kind_of (Some LinkEntry) = Err fault.Link

-- the bytes of a file
abbrev pub file_of : Option Entry → Result (List ℕ) TreeFault
file_of None = Err fault.Absent
file_of (Some (FolderEntry _)) = Err fault.IsFolder
file_of (Some (FileEntry bytes)) = Ok bytes
file_of (Some LinkEntry) = Err fault.Link

-- the size of a file in bytes
abbrev pub size_of : Result (List ℕ) TreeFault → Result ℕ TreeFault
size_of (Ok bytes) = Ok (length bytes)
size_of (Err f) = Err f

-- n bytes of a file from an offset on
abbrev pub range_of : Result (List ℕ) TreeFault → ℕ → ℕ → Result (List ℕ) TreeFault
range_of (Ok bytes) at n = cond (nat_lt (length bytes) (at + n)) (Err fault.PastEnd) (Ok (take n (drop at bytes)))
range_of (Err f) at n = Err f

-- the bytes of a file, and none where there is no file
abbrev pub bytes_in : Option Entry → List ℕ
bytes_in None = []
bytes_in (Some (FolderEntry _)) = []
bytes_in (Some (FileEntry bytes)) = bytes
bytes_in (Some LinkEntry) = []

-- the bytes of the file at a path, and none where there is no file
abbrev pub bytes_at : Contents → PathValue → List ℕ
bytes_at c path = bytes_in (entry_at c path)

-- why there is no such offset in a file, if so
abbrev pub refusal_past : Result (List ℕ) TreeFault → ℕ → Option TreeFault
refusal_past (Ok bytes) at = cond (nat_lt (length bytes) at) (Some fault.PastEnd) None
refusal_past (Err f) at = Some f

-- why a write is refused, if it is
abbrev pub write_refusal : Contents → PathValue → ℕ → Option TreeFault
write_refusal c path at = refusal_past (file_of (entry_at c path)) at

-- the contents after a write
abbrev pub written : Contents → PathValue → ℕ → List ℕ → Contents
written c path at bytes = insert c path (FileEntry (splice (bytes_at c path) at bytes))

-- why a cut is refused, if it is
abbrev pub cut_refusal : Contents → PathValue → ℕ → Option TreeFault
cut_refusal c path size = refusal_past (file_of (entry_at c path)) size

-- the contents after a cut
abbrev pub shortened : Contents → PathValue → ℕ → Contents
shortened c path size = insert c path (FileEntry (take size (bytes_at c path)))

-- why nothing can be made in this parent, if so
abbrev pub refusal_in : Option Entry → Option TreeFault
refusal_in None = Some fault.Absent
refusal_in (Some (FolderEntry _)) = None
refusal_in (Some (FileEntry _)) = Some fault.NotFolder
refusal_in (Some LinkEntry) = Some fault.Link

-- why an entry isn't made, if so
abbrev pub make_refusal : Contents → PathValue → Option TreeFault
make_refusal c path = cond (is_some (entry_at c path)) (Some fault.Exists) (refusal_in (entry_at c (parent path)))

-- what a call may answer whatever stands there: the device failed
abbrev pub HasFailed : TreeFault → Type 0
HasFailed e = e ≡ fault.Failed

-- no other refusals come than these, and `Failed`
abbrev pub RefusesOnly : {A : Type 0} → List TreeFault → Result A TreeFault → Type 0
RefusesOnly faults result = IfErr result (λ e. IsAmong (fault.Failed ∷ faults) e)

-- why no file stands at a path
abbrev pub file_faults : List TreeFault
file_faults = fault.Absent ∷ fault.IsFolder ∷ fault.Link ∷ []

-- why a place of a file can't be reached
abbrev pub range_faults : List TreeFault
range_faults = fault.Absent ∷ fault.IsFolder ∷ fault.Link ∷ fault.PastEnd ∷ []

-- why an entry can't be made
abbrev pub make_faults : List TreeFault
make_faults = fault.Exists ∷ fault.Absent ∷ fault.NotFolder ∷ fault.Link ∷ []

-- why no folder stands at a path
abbrev pub folder_faults : List TreeFault
folder_faults = fault.Absent ∷ fault.NotFolder ∷ fault.Link ∷ []

-- why a folder can't be listed
abbrev pub list_faults : List TreeFault
list_faults = fault.Absent ∷ fault.NotFolder ∷ fault.Link ∷ fault.NameNotText ∷ fault.OutOfMemory ∷ []

-- why an entry can't be removed
abbrev pub remove_faults : List TreeFault
remove_faults = fault.Absent ∷ fault.NotEmpty ∷ fault.Link ∷ []

-- what a listing answers whatever stands there: the device failed, or there was no memory
abbrev pub IsFreeOfListing : TreeFault → Type 0
IsFreeOfListing = IsAmong (fault.Failed ∷ fault.OutOfMemory ∷ [])

-- a call's own count doesn't fall, `Failed` comes only where it rose, and with every other answer it stays, as the other count always does
pub record Counts {F A : Type 0} (own other : F → ℕ) (old new : F) (result : Result A TreeFault) : Type 0 where
  pub later : own old ≤ own new
  pub failed : result ≡ Err fault.Failed → Rose (own old) (own new)
  pub kept : MatchResult result (λ _. own new ≡ own old) (λ e. (e ≡ fault.Failed) ⊎ (own new ≡ own old))
  pub stays : other new ≡ other old
