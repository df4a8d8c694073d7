-- The paths of two walks side by side, each once, in the order of their texts. Own: "The order of a walk".
use Rattle.std.specs.Prelude.{List, ◌++◌, map, Option}
use Rattle.std.specs.FinMap.{from_entries, get, keys}
use Rattle.cluster_tree.specs.PathValue.{PathValue, path_cmp}
use Rattle.file_walk.specs.declared.entry.Entry.{Entry}
use Rattle.file_walk.specs.declared.entry.EntryKind.{EntryKind}
use Rattle.file_walk.specs.declared.pair.Pair.{Pair}

-- a path and its kind
abbrev pub kind_at : Entry → PathValue × EntryKind
kind_at entry = (entry.path, entry.kind)

-- what a walk has at a path
abbrev pub kind_in : List Entry → PathValue → Option EntryKind
kind_in entries path = get (from_entries {R = path_cmp} (map kind_at entries)) path

-- the paths of either, ascending
abbrev pub paths_of : (target source : List Entry) → List PathValue
paths_of target source = keys (from_entries {R = path_cmp} (map kind_at (target ++ source)))

-- what both have at a path
abbrev pub pair_at : (target source : List Entry) → PathValue → Pair
pair_at target source path = record { path = path; target = kind_in target path; source = kind_in source path }

unfoldable pub pairs_of : (target source : List Entry) → List Pair
pairs_of target source = map (pair_at target source) (paths_of target source)
