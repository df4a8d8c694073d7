-- The files of a log's folder that have the name of a segment: PostgreSQL 16, src/include/access/xlog_internal.h, IsXLogFileName;
-- src/bin/pg_waldump/pg_waldump.c, search_directory. Own: "Segments are files", "The folder of a dump".
use Rattle.std.specs.Prelude.{ℕ, Bool, ◌&&◌, if◌then◌else◌, List, [], ◌∷◌, find, Option, None, Some}
use Rattle.std.specs.Result.{is_ok}
use Rattle.cluster_tree.specs.PathValue.{PathValue, below}
use Rattle.cluster_tree.specs.Contents.{Contents, entry_at}
use Rattle.cluster_tree.specs.Folders.{names_in}
use Rattle.cluster_tree.specs.Tree.{file_of}
use Rattle.wal_base.specs.Hex.{is_long_name}

-- whether a file stands at a path
abbrev pub is_file : Contents → PathValue → Bool
is_file c path = is_ok (file_of (entry_at c path))

-- the path of a file in a folder, where its name is that of a segment
unfoldable pub segment_path : PathValue → List ℕ → Option PathValue
segment_path folder name = if is_long_name name then Some (below folder (name ∷ [])) else None

-- whether a folder has a file of this name, and it is that of a segment
unfoldable pub is_segment : Contents → PathValue → List ℕ → Bool
is_segment c folder name = is_long_name name && is_file c (below folder (name ∷ []))

-- the least name of a segment that a folder has a file of
unfoldable pub least_segment : Contents → PathValue → Option (List ℕ)
least_segment c folder = find (is_segment c folder) (names_in c folder)
