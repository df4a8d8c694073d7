-- What a list tells of a path. Own: "What a replay brings back".
use Rattle.std.specs.Prelude.{ℕ, Bool, true, false, ◌&&◌, ◌||◌, List, [], ◌∷◌, bytes_eq, codes, Option, None, Some}
use Rattle.std.specs.List.{list_any}
use Rattle.cluster_tree.specs.Apart.{is_held}
use Rattle.cluster_tree.specs.Contents.{Entry, FolderEntry, FileEntry, LinkEntry, parent}
use Rattle.cluster_tree.specs.PathOrder.{path_eq}
use Rattle.cluster_tree.specs.PathValue.{PathValue}
use Rattle.mark_lines.specs.Paths.{parts_below}
use Rattle.replay_list.specs.Areas.{is_area}
use Rattle.replay_list.specs.Lines.{path_at}
use Rattle.replay_list.specs.declared.listed.Listed.{Listed}
use Rattle.replay_list.specs.declared.listed.Listed.TheVariants.{Folder, Page, File}

-- parts behind the root begin with the name of an area, or of the label
abbrev pub is_named : List (List ℕ) → Bool
is_named [] = false
is_named (name ∷ more) = is_area name || bytes_eq name (codes "backup_label")

-- the paths that are brought back: at or below the areas and the label
abbrev pub is_restored_at : (root path : PathValue) → Bool
is_restored_at root path = is_held root path && is_named (parts_below root path)

-- a folder is listed at this path
abbrev pub is_folder_at : PathValue → Listed → Bool
is_folder_at path (Folder at) = path_eq path at
is_folder_at path (Page at size) = false
is_folder_at path (File at size) = false

abbrev pub has_folder : List Listed → PathValue → Bool
has_folder listed path = list_any (is_folder_at path) listed

-- a file is
abbrev pub is_file_at : PathValue → Listed → Bool
is_file_at path (Folder at) = false
is_file_at path (Page at size) = path_eq path at
is_file_at path (File at size) = path_eq path at

abbrev pub has_file : List Listed → PathValue → Bool
has_file listed path = list_any (is_file_at path) listed

-- what stands at a path is listed there in its kind
abbrev pub stays : List Listed → PathValue → Option Entry → Bool
stays listed path None = false
stays listed path (Some (FolderEntry bad)) = has_folder listed path
stays listed path (Some (FileEntry bytes)) = has_file listed path
stays listed path (Some LinkEntry) = false

-- the folder that a path lies in is the root, or is listed
abbrev pub is_under : PathValue → List Listed → PathValue → Bool
is_under root listed path = path_eq root (parent path) || has_folder listed (parent path)

-- and so is that of each path of a list, before it
abbrev pub is_closed : PathValue → (before : List Listed) → List Listed → Bool
is_closed root before [] = true
is_closed root before (one ∷ more) = is_under root before (path_at one) && is_closed root (one ∷ before) more
