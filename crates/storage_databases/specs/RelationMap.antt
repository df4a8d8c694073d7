-- Relation maps: PostgreSQL 16, src/backend/utils/cache/relmapper.c, relmap_redo and write_relmap_file.
-- Own: "Databases and maps in replay".
use Rattle.std.specs.Prelude.{ℕ, ◌==◌, Bool, false, List, [], ◌∷◌, codes, Option, None, Some, Result, Ok, if◌then◌else◌}
use Rattle.block_refs.specs.Bytes.{main_bytes}
use Rattle.block_refs.specs.Parts.{PartsView}
use Rattle.cluster_tree.specs.PathValue.{PathValue, below}
use Rattle.cluster_tree.specs.Contents.{Contents}
use Rattle.cluster_tree.specs.declared.file_fault.FileFault.{FileFault}
use Rattle.file_edits.specs.Edits.{file_edited, on_way}
use Rattle.record_layouts.specs.RelMap.{relmap_update_of}
use Rattle.record_layouts.specs.declared.relmap.RelMapUpdate.{RelMapUpdate}
use Rattle.relation_files.specs.Paths.{database_parts, global_parts}
use Rattle.wal_records.specs.Reading.{LogRecord}

-- the shared map lies in global, another in its database's folder
abbrev pub map_parts : ℕ → List (List ℕ)
map_parts database = if database == 0 then global_parts else database_parts database

abbrev pub map_file : PathValue → ℕ → PathValue
map_file root database = below (below root (map_parts database)) (codes "pg_filenode.map" ∷ [])

-- what a record says of a map, if its layout is whole
abbrev pub update_in : LogRecord → PartsView → Option RelMapUpdate
update_in rec parts = relmap_update_of (main_bytes rec.body parts)

-- the map's file becomes these bytes; a record whose layout is short changes nothing
abbrev pub map_written : PathValue → Option RelMapUpdate → Contents → Result Contents FileFault
map_written root None c = Ok c
map_written root (Some update) c = file_edited root (map_file root update.database) (λ _. update.map) c

-- the paths of that file: it, and the folders that lead there
abbrev pub is_of_map : PathValue → Option RelMapUpdate → PathValue → Bool
is_of_map root None path = false
is_of_map root (Some update) path = on_way root (map_file root update.database) path
