-- What lies below a root, and what is wrong there. Own: "The order of a walk", "A path too deep is told unasked".
use Rattle.std.specs.Prelude.{◌≡◌, ℕ, ◌+◌, ◌%◌, ◌==◌, Bool, true, false, not, cond, ◌&&◌, nat_lt, List, length, drop, filter, map, Option, None, Some, Result, Ok, option_map, is_some, if◌then◌else◌}
use Rattle.std.specs.FinMap.{entries}
use Rattle.std.specs.List.{filter_map, list_all}
use Rattle.cluster_tree.specs.Causes.{first_of, unless}
use Rattle.cluster_tree.specs.Contents.{Contents, Entry, FolderEntry, FileEntry, LinkEntry, entry_at}
use Rattle.cluster_tree.specs.PathOrder.{path_eq}
use Rattle.cluster_tree.specs.PathValue.{PathValue, below, front, is_part, path_of}
use Rattle.cluster_tree.specs.declared.file_fault.FileFault.TheVariants as file
use Rattle.file_walk.specs.declared.entry.Entry.{Entry as Walked}
use Rattle.file_walk.specs.declared.entry.EntryKind.{EntryKind}
use Rattle.file_walk.specs.declared.entry.EntryKind.TheVariants.{File, Folder}
use Rattle.file_walk.specs.declared.fault.WalkFault.{WalkFault}
use Rattle.file_walk.specs.declared.fault.WalkFault.TheVariants as fault
use Rattle.file_walk.specs.Actions.{here}
use Rattle.file_walk.specs.Relations.{relation_of}

-- whether a path, of proper parts as all paths are, lies below a root
abbrev pub lies_below : PathValue → PathValue → Bool
lies_below root path =
    nat_lt (length root.parts) (length path.parts) && path_eq root (front (length root.parts) path) && list_all is_part path.parts

-- the same path from the root on
abbrev pub from_root : PathValue → PathValue → PathValue
from_root root path = path_of false (drop (length root.parts) path.parts)

-- each path below a root, from the root on, and what stands there, in the order of paths
unfoldable pub found_below : Contents → PathValue → List (PathValue × Entry)
found_below c root = map (λ e. (from_root root e.0, e.1)) (filter (λ e. lies_below root e.0) (entries c))

-- a main fork's file has whole blocks
abbrev pub size_flaw : PathValue → ℕ → Option WalkFault
size_flaw own size = if is_some (relation_of own) && not (size % 8192 == 0) then Some (fault.OddSize own size) else None

-- what is wrong with what stands at a path, if anything
abbrev pub entry_flaw : PathValue → Entry → Option WalkFault
entry_flaw own (FolderEntry bad) = cond bad (Some (fault.NameNotText own)) None
entry_flaw own (FileEntry bytes) = size_flaw own (length bytes)
entry_flaw own LinkEntry = Some (fault.Link own)

-- a path has at most 64 parts, those of the root included
abbrev pub flaw_at : (depth : ℕ) → PathValue × Entry → Option WalkFault
flaw_at depth found =
    if nat_lt 64 (depth + length found.0.parts) then Some (fault.TooDeep (front 64 found.0)) else entry_flaw found.0 found.1

-- why there is nothing to walk below a root, if so
abbrev pub root_flaw : PathValue → Option Entry → Option WalkFault
root_flaw root None = Some (fault.File (file.NotFolder root))
root_flaw root (Some (FolderEntry bad)) = cond bad (Some (fault.NameNotText here)) None
root_flaw root (Some (FileEntry bytes)) = Some (fault.File (file.NotFolder root))
root_flaw root (Some LinkEntry) = Some (fault.File (file.NotFolder root))

-- the kind of what stands at a path, none for a link
abbrev pub kind_of_entry : Entry → Option EntryKind
kind_of_entry (FolderEntry bad) = Some Folder
kind_of_entry (FileEntry bytes) = Some (File (length bytes))
kind_of_entry LinkEntry = None

abbrev pub kind_there : Option Entry → Option EntryKind
kind_there None = None
kind_there (Some entry) = kind_of_entry entry

abbrev pub walked : PathValue × Entry → Option Walked
walked found = option_map (λ kind. record { path = found.0; kind = kind }) (kind_of_entry found.1)

-- the entries below a root, or the flaw of the root, or else that of the least path
unfoldable pub walk_of : Contents → PathValue → Result (List Walked) WalkFault
walk_of c root =
    unless (root_flaw root (entry_at c root))
    (unless (first_of (map (flaw_at (length root.parts)) (found_below c root))) (Ok (filter_map walked (found_below c root))))

-- what stands below a root has a path of proper parts
abbrev pub HasParts : Contents → PathValue → Type 0
HasParts c root = (parts : List (List ℕ)) → is_some (entry_at c (below root parts)) ≡ true → list_all is_part (below root parts).parts ≡ true
