-- What calls that ask tell of an entry.
use Rattle.std.proofs.Common.{◌≡◌, ℕ, Bool, true, false, List, [], length, Option, None, Some, Ok, Err, refl, ap, sym}
use Rattle.cluster_tree.specs.PathValue.{PathValue}
use Rattle.cluster_tree.specs.Contents.{Contents, Entry, FolderEntry, FileEntry, LinkEntry}
use Rattle.cluster_tree.specs.Tree.{kind_of, size_of, file_of}
use Rattle.cluster_tree.specs.Folders.{list_refusal, IsListing}
use Rattle.cluster_tree.proofs.NamesLemmas.{listing_names}
use Rattle.cluster_tree.specs.declared.tree.Kind.TheVariants as kind
use Rattle.cluster_tree.specs.declared.tree.TreeFault.TheVariants as tree_fault
use Rattle.cluster_tree.specs.declared.file_fault.FileFault.{FileFault}
use Rattle.cluster_tree.specs.declared.file_fault.FileFault.TheVariants as fault
use Rattle.file_edits.specs.Asking.{file_asked, folder_asked, size_asked, names_asked}

pub size-file : (path : PathValue) (o : Option Entry) (n : ℕ) → size_of (file_of o) ≡ Ok n → size_asked (file_asked path o) ≡ Ok (Some n)
size-file path None n e = absurd cc
size-file path (Some (FolderEntry bad)) n e = absurd cc
size-file path (Some (FileEntry bytes)) n e = let same : length bytes ≡ n = cc in ap (λ k. Ok (Some k)) same
size-file path (Some LinkEntry) n e = absurd cc

pub size-absent : (path : PathValue) (o : Option Entry) → size_of (file_of o) ≡ Err tree_fault.Absent → size_asked (file_asked path o) ≡ Ok None
size-absent path None e = refl
size-absent path (Some (FolderEntry bad)) e = absurd cc
size-absent path (Some (FileEntry bytes)) e = absurd cc
size-absent path (Some LinkEntry) e = absurd cc

pub size-folder : (path : PathValue) (o : Option Entry) → size_of (file_of o) ≡ Err tree_fault.IsFolder → size_asked (file_asked path o) ≡ Err (fault.IsFolder path)
size-folder path None e = absurd cc
size-folder path (Some (FolderEntry bad)) e = refl
size-folder path (Some (FileEntry bytes)) e = absurd cc
size-folder path (Some LinkEntry) e = absurd cc

pub size-link : (path : PathValue) (o : Option Entry) → size_of (file_of o) ≡ Err tree_fault.Link → size_asked (file_asked path o) ≡ Err (fault.Link path)
size-link path None e = absurd cc
size-link path (Some (FolderEntry bad)) e = absurd cc
size-link path (Some (FileEntry bytes)) e = absurd cc
size-link path (Some LinkEntry) e = refl

pub kind-absent : (path : PathValue) (o : Option Entry) → kind_of o ≡ Ok kind.Absent → folder_asked path o ≡ Ok false
kind-absent path None e = refl
kind-absent path (Some (FolderEntry bad)) e = absurd cc
kind-absent path (Some (FileEntry bytes)) e = absurd cc
kind-absent path (Some LinkEntry) e = absurd cc

pub kind-folder : (path : PathValue) (o : Option Entry) → kind_of o ≡ Ok kind.Folder → folder_asked path o ≡ Ok true
kind-folder path None e = absurd cc
kind-folder path (Some (FolderEntry bad)) e = refl
kind-folder path (Some (FileEntry bytes)) e = absurd cc
kind-folder path (Some LinkEntry) e = absurd cc

pub kind-file : (path : PathValue) (o : Option Entry) → kind_of o ≡ Ok kind.File → folder_asked path o ≡ Err (fault.NotFolder path)
kind-file path None e = absurd cc
kind-file path (Some (FolderEntry bad)) e = absurd cc
kind-file path (Some (FileEntry bytes)) e = refl
kind-file path (Some LinkEntry) e = absurd cc

pub kind-link : (path : PathValue) (o : Option Entry) → kind_of o ≡ Err tree_fault.Link → folder_asked path o ≡ Err (fault.Link path)
kind-link path None e = absurd cc
kind-link path (Some (FolderEntry bad)) e = absurd cc
kind-link path (Some (FileEntry bytes)) e = absurd cc
kind-link path (Some LinkEntry) e = refl

pub ruleset asked_steps = (size-file, size-absent, size-folder, size-link, kind-absent, kind-folder, kind-file, kind-link)

pub names-listed : (c : Contents) (path : PathValue) (o : Option Entry) (names : List (List ℕ)) → list_refusal o ≡ None → IsListing c path names → names_asked c path o ≡ Ok names
names-listed c path None names e listing = absurd cc
names-listed c path (Some (FolderEntry true)) names e listing = absurd cc
names-listed c path (Some (FolderEntry false)) names e listing = ap (λ l. Ok l) (sym (listing_names c path names listing))
names-listed c path (Some (FileEntry bytes)) names e listing = absurd cc
names-listed c path (Some LinkEntry) names e listing = absurd cc

pub names-absent : (c : Contents) (path : PathValue) (o : Option Entry) → list_refusal o ≡ Some tree_fault.Absent → names_asked c path o ≡ Ok []
names-absent c path None e = refl
names-absent c path (Some (FolderEntry true)) e = absurd cc
names-absent c path (Some (FolderEntry false)) e = absurd cc
names-absent c path (Some (FileEntry bytes)) e = absurd cc
names-absent c path (Some LinkEntry) e = absurd cc

pub names-file : (c : Contents) (path : PathValue) (o : Option Entry) → list_refusal o ≡ Some tree_fault.NotFolder → names_asked c path o ≡ Err (fault.NotFolder path)
names-file c path None e = absurd cc
names-file c path (Some (FolderEntry true)) e = absurd cc
names-file c path (Some (FolderEntry false)) e = absurd cc
names-file c path (Some (FileEntry bytes)) e = refl
names-file c path (Some LinkEntry) e = absurd cc

pub names-link : (c : Contents) (path : PathValue) (o : Option Entry) → list_refusal o ≡ Some tree_fault.Link → names_asked c path o ≡ Err (fault.Link path)
names-link c path None e = absurd cc
names-link c path (Some (FolderEntry true)) e = absurd cc
names-link c path (Some (FolderEntry false)) e = absurd cc
names-link c path (Some (FileEntry bytes)) e = absurd cc
names-link c path (Some LinkEntry) e = refl

pub names-bad : (c : Contents) (path : PathValue) (o : Option Entry) → list_refusal o ≡ Some tree_fault.NameNotText → names_asked c path o ≡ Err (fault.NameNotText path)
names-bad c path None e = absurd cc
names-bad c path (Some (FolderEntry true)) e = refl
names-bad c path (Some (FolderEntry false)) e = absurd cc
names-bad c path (Some (FileEntry bytes)) e = absurd cc
names-bad c path (Some LinkEntry) e = absurd cc

pub ruleset listed_steps = (names-listed, names-absent, names-file, names-link, names-bad)

-- a refusal that tells of an entry of a wrong kind
abbrev pub is_of_kind : FileFault → Bool
is_of_kind (fault.Link _) = true
is_of_kind (fault.NotFolder _) = true
is_of_kind (fault.IsFolder _) = true
is_of_kind (fault.NameNotText _) = true
is_of_kind _ = false

-- what is asked is refused by the entry's kind alone

pub file-kind : (path : PathValue) (o : Option Entry) (e : FileFault) → file_asked path o ≡ Err e → is_of_kind e ≡ true
file-kind path None e is = absurd cc
file-kind path (Some (FolderEntry bad)) e is = let same : fault.IsFolder path ≡ e = cc in ap is_of_kind (sym same)
file-kind path (Some (FileEntry bytes)) e is = absurd cc
file-kind path (Some LinkEntry) e is = let same : fault.Link path ≡ e = cc in ap is_of_kind (sym same)

pub folder-kind : (path : PathValue) (o : Option Entry) (e : FileFault) → folder_asked path o ≡ Err e → is_of_kind e ≡ true
folder-kind path None e is = absurd cc
folder-kind path (Some (FolderEntry bad)) e is = absurd cc
folder-kind path (Some (FileEntry bytes)) e is = let same : fault.NotFolder path ≡ e = cc in ap is_of_kind (sym same)
folder-kind path (Some LinkEntry) e is = let same : fault.Link path ≡ e = cc in ap is_of_kind (sym same)

pub names-kind : (c : Contents) (path : PathValue) (o : Option Entry) (e : FileFault) → names_asked c path o ≡ Err e → is_of_kind e ≡ true
names-kind c path None e is = absurd cc
names-kind c path (Some (FolderEntry true)) e is = let same : fault.NameNotText path ≡ e = cc in ap is_of_kind (sym same)
names-kind c path (Some (FolderEntry false)) e is = absurd cc
names-kind c path (Some (FileEntry bytes)) e is = let same : fault.NotFolder path ≡ e = cc in ap is_of_kind (sym same)
names-kind c path (Some LinkEntry) e is = let same : fault.Link path ≡ e = cc in ap is_of_kind (sym same)
