-- Where the files of relations lie: PostgreSQL 16, src/common/relpath.c, GetDatabasePath and GetRelationPath;
-- src/include/catalog/pg_tablespace.dat, pg_default (1663) and pg_global (1664). Own: "Tablespaces in replay".
use Rattle.std.specs.Prelude.{ℕ, ◌==◌, List, [], ◌∷◌, codes, decimal, if◌then◌else◌}
use Rattle.block_refs.specs.declared.names.Fork.{Fork}
use Rattle.block_refs.specs.declared.names.RelName.{RelName}
use Rattle.cluster_tree.specs.PathValue.{PathValue, below}
use Rattle.relation_files.specs.Names.{name_of}

-- the folder of a database in the default tablespace
abbrev pub database_parts : ℕ → List (List ℕ)
database_parts database = codes "base" ∷ decimal database ∷ []

-- that of shared relations
abbrev pub global_parts : List (List ℕ)
global_parts = codes "global" ∷ []

-- the folder of a relation: every tablespace but pg_global is taken for pg_default
abbrev pub folder_parts : RelName → List (List ℕ)
folder_parts rel = if rel.space == 1664 then global_parts else database_parts rel.database

abbrev pub relation_folder : PathValue → RelName → PathValue
relation_folder root rel = below root (folder_parts rel)

-- a file of a relation
abbrev pub relation_file : PathValue → RelName → Fork → ℕ → PathValue
relation_file root rel fork segment = below (relation_folder root rel) (name_of rel.relation fork segment ∷ [])
