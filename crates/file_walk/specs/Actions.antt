-- What a rewind does at a path: PostgreSQL 16, src/bin/pg_rewind/filemap.c, decide_file_action. Own: "Actions of a rewind".
use Rattle.std.specs.Prelude.{ℕ, Bool, false, ◌||◌, ◌&&◌, nat_eq, nat_lt, List, [], ◌∷◌, codes, bytes_eq, Option, None, Some, is_some, if◌then◌else◌}
use Rattle.std.specs.List.{ends_with, list_any}
use Rattle.cluster_tree.specs.Folders.{last_part}
use Rattle.cluster_tree.specs.PathValue.{PathValue, path_of}
use Rattle.file_walk.specs.declared.action.Action.{Action}
use Rattle.file_walk.specs.declared.action.Action.TheVariants.{Nothing, MakeFolder, Copy, Tail, Cut, Remove, KindsDiffer}
use Rattle.file_walk.specs.declared.entry.EntryKind.{EntryKind}
use Rattle.file_walk.specs.declared.entry.EntryKind.TheVariants.{File, Folder}
use Rattle.file_walk.specs.Excluded.{is_excluded}
use Rattle.file_walk.specs.Relations.{relation_of}

-- the root, as a path from itself on
abbrev pub here : PathValue
here = path_of false []

-- the control file, which a rewind writes by itself
abbrev pub is_control : List (List ℕ) → Bool
is_control [] = false
is_control (first ∷ []) = false
is_control (first ∷ second ∷ []) = bytes_eq first (codes "global") && bytes_eq second (codes "pg_control")
is_control (first ∷ second ∷ third ∷ parts) = false

abbrev pub mark_names : List (List ℕ)
mark_names = codes "pg_rewind.unfinished" ∷ codes "pg_walreplay.unfinished" ∷ codes "pg_resetwal.unfinished" ∷ []

-- the mark of a run that isn't finished
abbrev pub is_mark : List (List ℕ) → Bool
is_mark [] = false
is_mark (first ∷ []) = list_any (bytes_eq first) mark_names
is_mark (first ∷ second ∷ parts) = false

abbrev pub is_kept : PathValue → Bool
is_kept path = is_control path.parts || is_mark path.parts

-- a path whose text ends in PG_VERSION, which is as much as that its last part does
abbrev pub is_version : PathValue → Bool
is_version path = ends_with nat_eq (last_part path) (codes "PG_VERSION")

-- a main fork's file by its sizes in bytes; blocks inside both are copied besides, where they were touched
abbrev pub block_action : (old new : ℕ) → Action
block_action old new = if nat_lt old new then Tail else if nat_lt new old then Cut else Nothing

-- a file of both
abbrev pub file_action : PathValue → (old new : ℕ) → Action
file_action path old new =
    if is_version path then Nothing else if is_some (relation_of path) then block_action old new else Copy

-- what the source alone has
abbrev pub made : EntryKind → Action
made (File size) = Copy
made Folder = MakeFolder

-- what both have
abbrev pub both : PathValue → (target source : EntryKind) → Action
both path (File old) (File new) = file_action path old new
both path (File old) Folder = KindsDiffer
both path Folder (File new) = KindsDiffer
both path Folder Folder = Nothing

-- by what the target and the source have
abbrev pub by_kinds : PathValue → (target source : Option EntryKind) → Action
by_kinds path None None = Nothing
by_kinds path None (Some kind) = made kind
by_kinds path (Some kind) None = Remove
by_kinds path (Some target) (Some source) = both path target source

-- what is excluded goes
abbrev pub cleared : Option EntryKind → Action
cleared None = Nothing
cleared (Some kind) = Remove

-- the first of these rules that fits
unfoldable pub action_at : PathValue → (target source : Option EntryKind) → Action
action_at path target source =
    if is_kept path then Nothing else if is_excluded path then cleared target else by_kinds path target source
