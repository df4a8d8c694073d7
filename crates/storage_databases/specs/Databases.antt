-- The folders of databases: PostgreSQL 16, src/backend/commands/dbcommands.c, dbase_redo and CreateDirAndVersionFile.
-- Own: "Databases and maps in replay".
use Rattle.std.specs.Prelude.{ℕ, List, [], ◌∷◌, codes, Option, None, Some, Result, Ok}
use Rattle.cluster_tree.specs.PathValue.{PathValue, below}
use Rattle.cluster_tree.specs.Contents.{Contents, entry_at}
use Rattle.cluster_tree.specs.Causes.{given}
use Rattle.cluster_tree.specs.declared.file_fault.FileFault.{FileFault}
use Rattle.file_edits.specs.Asking.{file_asked}
use Rattle.file_edits.specs.Clearing.{tree_removed}
use Rattle.file_edits.specs.Edits.{file_edited, laid}
use Rattle.relation_files.specs.Paths.{database_parts}

-- the folder of a database in the default tablespace, and the file that tells its version
abbrev pub database_folder : PathValue → ℕ → PathValue
database_folder root database = below root (database_parts database)

abbrev pub version_file : PathValue → ℕ → PathValue
version_file root database = below (database_folder root database) (codes "PG_VERSION" ∷ [])

-- 16 and a newline
abbrev pub version_text : List ℕ
version_text = 49 ∷ 54 ∷ 10 ∷ []

abbrev pub version_by : PathValue → PathValue → Contents → Option (List ℕ) → Result Contents FileFault
version_by root path c (Some bytes) = Ok c
version_by root path c None = file_edited root path (laid 0 0 version_text) c

-- a database that has that file, made with the folders on its way where nothing stood
unfoldable pub database_made : PathValue → ℕ → Contents → Result Contents FileFault
database_made root database c = given (file_asked (version_file root database) (entry_at c (version_file root database))) (version_by root (version_file root database) c)

-- no folder of a database, nor anything in it
abbrev pub database_dropped : PathValue → ℕ → Contents → Result Contents FileFault
database_dropped root database c = tree_removed (database_folder root database) c
