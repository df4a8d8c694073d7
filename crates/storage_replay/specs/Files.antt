-- The files of a relation's forks, and whose paths they are: PostgreSQL 16, src/backend/storage/smgr/md.c.
use Rattle.std.specs.Prelude.{ℕ, ◌<◌, ◌≤◌, Bool, ◌||◌, ◌&&◌, length}
use Rattle.block_refs.specs.declared.names.RelName.{RelName}
use Rattle.cluster_tree.specs.PathValue.{PathValue}
use Rattle.cluster_tree.specs.Folders.{lies_in, last_part}
use Rattle.file_edits.specs.Edits.{on_way}
use Rattle.relation_files.specs.Paths.{relation_folder}
use Rattle.relation_files.specs.Reading.{is_of_number}
use Rattle.storage_replay.specs.declared.files.Files.{Files}

-- a root that has room for the paths of files, and a size of files that a control file can have
pub record AreFit (files : Files) : Type 0 where
  pub room : length files.root.parts ≤ 61
  pub some : 0 < files.per_file
  pub most : files.per_file ≤ 131072

-- the files of the relation of a number in a folder
abbrev pub is_file_in : PathValue → ℕ → PathValue → Bool
is_file_in folder relation path = lies_in folder path && is_of_number relation (last_part path)

-- the paths of a relation: its files, and the folders that lead there
abbrev pub is_of_relation : PathValue → RelName → PathValue → Bool
is_of_relation root rel path = on_way root (relation_folder root rel) path || is_file_in (relation_folder root rel) rel.relation path
