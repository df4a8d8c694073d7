-- What stands at a path.
use Rattle.std.proofs.Common.{◌≡◌, Option, None, Some, Ok, Err, true, refl}
use Rattle.cluster_tree.specs.Contents.{Entry, FileEntry, FolderEntry, LinkEntry, is_file, is_folder}
use Rattle.cluster_tree.specs.PathValue.{PathValue}
use Rattle.cluster_tree.specs.Tree.{kind_of}
use Rattle.cluster_tree.specs.declared.file_fault.FileFault.{FileFault}
use Rattle.cluster_tree.specs.declared.file_fault.FileFault.TheVariants as fault
use Rattle.cluster_tree.specs.declared.tree.Kind.{Kind}
use Rattle.cluster_tree.specs.declared.tree.Kind.TheVariants as kind
use Rattle.cluster_tree.specs.declared.tree.TreeFault.TheVariants as tree_fault
use Rattle.replay_restore.specs.Freed.{kind_asked}

pub kind-told : (path : PathValue) (o : Option Entry) (k : Kind) → kind_of o ≡ Ok k → kind_asked path o ≡ Ok k
kind-told path None k e = cc
kind-told path (Some (FolderEntry bad)) k e = cc
kind-told path (Some (FileEntry bytes)) k e = cc
kind-told path (Some LinkEntry) k e = absurd cc

pub kind-link : (path : PathValue) (o : Option Entry) → kind_of o ≡ Err tree_fault.Link → kind_asked path o ≡ Err (fault.Link path)
kind-link path None e = absurd cc
kind-link path (Some (FolderEntry bad)) e = absurd cc
kind-link path (Some (FileEntry bytes)) e = absurd cc
kind-link path (Some LinkEntry) e = refl

pub ruleset kind_steps = (kind-told, kind-link)

pub told-absent : (path : PathValue) (o : Option Entry) → kind_asked path o ≡ Ok kind.Absent → o ≡ None
told-absent path None e = refl
told-absent path (Some (FolderEntry bad)) e = absurd cc
told-absent path (Some (FileEntry bytes)) e = absurd cc
told-absent path (Some LinkEntry) e = absurd cc

pub told-file : (path : PathValue) (o : Option Entry) → kind_asked path o ≡ Ok kind.File → is_file o ≡ true
told-file path None e = absurd cc
told-file path (Some (FolderEntry bad)) e = absurd cc
told-file path (Some (FileEntry bytes)) e = refl
told-file path (Some LinkEntry) e = absurd cc

pub told-folder : (path : PathValue) (o : Option Entry) → kind_asked path o ≡ Ok kind.Folder → is_folder o ≡ true
told-folder path None e = absurd cc
told-folder path (Some (FolderEntry bad)) e = refl
told-folder path (Some (FileEntry bytes)) e = absurd cc
told-folder path (Some LinkEntry) e = absurd cc

pub told-link : (path : PathValue) (o : Option Entry) (e : FileFault) → kind_asked path o ≡ Err e → (e ≡ fault.Link path) × (o ≡ Some LinkEntry)
told-link path None e is = absurd cc
told-link path (Some (FolderEntry bad)) e is = absurd cc
told-link path (Some (FileEntry bytes)) e is = absurd cc
told-link path (Some LinkEntry) e is = (cc, refl)
