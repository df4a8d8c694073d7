-- Forks that are made and cut, and relations that are dropped: PostgreSQL 16, src/backend/catalog/storage.c, smgr_redo;
-- src/include/catalog/storage_xlog.h; src/backend/storage/smgr/md.c, mdcreate and mdunlink. Own: "Cutting forks".
use Rattle.std.specs.Prelude.{ℕ, ◌/◌, ◌%◌, ◌==◌, Bool, Result, Ok, if◌then◌else◌}
use Rattle.block_refs.specs.declared.names.Fork.{Fork}
use Rattle.block_refs.specs.declared.names.Fork.TheVariants.{Main}
use Rattle.block_refs.specs.declared.names.RelName.{RelName}
use Rattle.cluster_tree.specs.PathValue.{PathValue}
use Rattle.cluster_tree.specs.Contents.{Contents}
use Rattle.cluster_tree.specs.Causes.{given}
use Rattle.cluster_tree.specs.declared.file_fault.FileFault.{FileFault}
use Rattle.file_edits.specs.Edits.{file_edited}
use Rattle.relation_files.specs.Paths.{relation_file}
use Rattle.storage_replay.specs.Cutting.{fork_cut, files_swept}
use Rattle.storage_replay.specs.MapBits.{map_cut}
use Rattle.storage_replay.specs.declared.sweep.Sweep.TheVariants.{Remove}

-- the first file of a fork, made where it isn't there
abbrev pub created : PathValue → RelName → Fork → Contents → Result Contents FileFault
created root rel fork c = file_edited root (relation_file root rel fork 0) (λ bytes. bytes) c

-- the main fork made, and cut
unfoldable pub main_cut : PathValue → (per_file : ℕ) → RelName → (blocks : ℕ) → Contents → Result Contents FileFault
main_cut root per_file rel blocks c = given (created root rel Main c) (fork_cut root per_file rel Main blocks)

-- what the flags say: SMGR_TRUNCATE_HEAP (1) and SMGR_TRUNCATE_VM (2)
abbrev pub cuts_main : ℕ → Bool
cuts_main flags = flags % 2 == 1

abbrev pub cuts_map : ℕ → Bool
cuts_map flags = flags / 2 % 2 == 1

abbrev pub main_by : PathValue → (per_file : ℕ) → RelName → (blocks flags : ℕ) → Contents → Result Contents FileFault
main_by root per_file rel blocks flags c = if cuts_main flags then main_cut root per_file rel blocks c else Ok c

abbrev pub map_by : PathValue → (per_file : ℕ) → RelName → (blocks flags : ℕ) → Contents → Result Contents FileFault
map_by root per_file rel blocks flags c = if cuts_map flags then map_cut root per_file rel blocks c else Ok c

-- a relation cut to so many blocks, the forks that the flags say
unfoldable pub truncated : PathValue → (per_file : ℕ) → RelName → (blocks flags : ℕ) → Contents → Result Contents FileFault
truncated root per_file rel blocks flags c = given (main_by root per_file rel blocks flags c) (map_by root per_file rel blocks flags)

-- every file of a relation removed
abbrev pub relation_dropped : PathValue → RelName → Contents → Result Contents FileFault
relation_dropped root rel c = files_swept root Remove rel c
