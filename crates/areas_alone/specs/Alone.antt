-- A tree in which, of what lies below a root, only the folders that replay changes are seen. Own: "The list in a replay's mark".
use Rattle.std.specs.Prelude.{ℕ, Bool, false, ◌&&◌, not, cond, List, [], ◌∷◌, codes, filter, is_some}
use Rattle.std.specs.FinMap.{get, insert, retain_keys}
use Rattle.cluster_tree.specs.Apart.{is_held}
use Rattle.cluster_tree.specs.Contents.{Contents, FolderEntry, entry_at, is_folder}
use Rattle.cluster_tree.specs.PathValue.{PathValue, below}
use Rattle.mark_lines.specs.Paths.{parts_below}
use Rattle.replay_list.specs.Areas.{is_area}

-- whether parts behind the root begin with the name of no such folder
abbrev pub is_elsewhere : List (List ℕ) → Bool
is_elsewhere [] = false
is_elsewhere (name ∷ more) = not (is_area name)

-- whether a path lies below a root, and not at or below these folders
abbrev pub lies_elsewhere : (root path : PathValue) → Bool
lies_elsewhere root path = is_held root path && is_elsewhere (parts_below root path)

-- a folder, whatever names it holds, is one of sound names
abbrev pub with_sound : Contents → PathValue → Contents
with_sound c path = cond (is_folder (entry_at c path)) (insert c path (FolderEntry false)) c

-- contents without what lies elsewhere below a root; so its names there, which may be no text, don't matter
unfoldable pub areas_of : Contents → PathValue → Contents
areas_of c root = with_sound (retain_keys c (λ path. not (lies_elsewhere root path))) root

-- the names of these folders, in ascending order
abbrev pub area_names : List (List ℕ)
area_names = codes "base" ∷ codes "global" ∷ codes "pg_multixact" ∷ codes "pg_xact" ∷ []

-- those at which something stands in a root
unfoldable pub areas_in : Contents → PathValue → List (List ℕ)
areas_in c root = filter (λ name. is_some (get c (below root (name ∷ [])))) area_names
