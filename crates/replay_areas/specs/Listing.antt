-- What a replay's mark lists of a cluster. Own: "The list in a replay's mark".
use Rattle.std.specs.Prelude.{Bool, true, false, List, [], ◌∷◌, codes, length, map, Option, None, Some, Result, Ok, is_some}
use Rattle.std.specs.List.{cons_option}
use Rattle.cluster_tree.specs.Causes.{given}
use Rattle.cluster_tree.specs.Contents.{Contents, Entry as Standing, FileEntry, FolderEntry, LinkEntry, entry_at}
use Rattle.cluster_tree.specs.PathValue.{PathValue, below}
use Rattle.file_walk.specs.declared.entry.Entry.{Entry}
use Rattle.file_walk.specs.declared.entry.EntryKind.{EntryKind}
use Rattle.file_walk.specs.declared.entry.EntryKind.TheVariants as kind
use Rattle.file_walk.specs.declared.fault.WalkFault.{WalkFault}
use Rattle.file_walk.specs.Relations.{relation_of}
use Rattle.file_walk.specs.Walk.{walk_of}
use Rattle.replay_list.specs.declared.listed.Listed.{Listed}
use Rattle.replay_list.specs.declared.listed.Listed.TheVariants.{Folder, Page, File}
use Rattle.areas_alone.specs.Alone.{areas_of}

-- what is listed of a path, by whether it is that of a main fork's file and by the kind of what stands there
abbrev pub listed_by : (is_main : Bool) → PathValue → EntryKind → Listed
listed_by is_main path kind.Folder = Folder path
listed_by true path (kind.File size) = Page path size
listed_by false path (kind.File size) = File path size

-- of what a walk found below a root
abbrev pub listed_as : PathValue → Entry → Listed
listed_as root entry = listed_by (is_some (relation_of entry.path)) (below root entry.path.parts) entry.kind

-- the label of a backup
abbrev pub label_path : PathValue → PathValue
label_path root = below root (codes "backup_label" ∷ [])

-- which is listed where a file stands there
abbrev pub label_listed : PathValue → Option Standing → Option Listed
label_listed path None = None
label_listed path (Some (FolderEntry bad)) = None
label_listed path (Some (FileEntry bytes)) = Some (File path (length bytes))
label_listed path (Some LinkEntry) = None

abbrev pub label_in : Contents → PathValue → Option Listed
label_in c root = label_listed (label_path root) (entry_at c (label_path root))

-- the label, and then what a walk found
abbrev pub listed_below : Contents → PathValue → List Entry → List Listed
listed_below c root entries = cons_option (label_in c root) (map (listed_as root) entries)

-- what is listed of a cluster, or what is wrong with the least path at or below the folders that replay changes
unfoldable pub areas_listed : Contents → PathValue → Result (List Listed) WalkFault
areas_listed c root = given (walk_of (areas_of c root) root) (λ entries. Ok (listed_below c root entries))
