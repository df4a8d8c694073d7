-- Which bytes of files the calls on forks leave as they are: PostgreSQL 16, src/backend/storage/smgr/md.c, mdextend, mdwrite,
-- mdtruncate and mdunlink. Own: "Calls that spare bytes".
use Rattle.std.specs.Prelude.{◌≡◌, ℕ, ◌+◌, ◌*◌, ◌/◌, ◌%◌, ◌==◌, Bool, false, not, ◌&&◌, Option, None, Some}
use Rattle.block_refs.specs.declared.names.BlockName.{BlockName}
use Rattle.block_refs.specs.declared.names.Fork.{Fork}
use Rattle.block_refs.specs.declared.names.RelName.{RelName}
use Rattle.cluster_tree.specs.Folders.{lies_in, last_part}
use Rattle.cluster_tree.specs.PathValue.{PathValue}
use Rattle.cluster_tree.specs.declared.tree.ChangeCall.{ChangeCall}
use Rattle.cluster_tree.specs.declared.tree.ChangeCall.TheVariants.{Write, Cut}
use Rattle.file_edits.specs.Sparing.{Piece, spares}
use Rattle.relation_files.specs.Paths.{relation_file, relation_folder}
use Rattle.relation_files.specs.Reading.{file_named}
use Rattle.relation_files.specs.declared.file_name.FileName.{FileName}
use Rattle.storage_replay.specs.Cutting.{name_swept, same_fork}
use Rattle.storage_replay.specs.declared.sweep.Sweep.{Sweep}
use Rattle.storage_replay.specs.declared.sweep.Sweep.TheVariants.{Empty}

-- a block of a fork, as the piece of a file that holds it
abbrev pub piece_of : PathValue → (per_file : ℕ) → BlockName → Piece
piece_of root per_file name = record {
  path = relation_file root name.rel name.fork (name.block / per_file);
  from = name.block % per_file * 8192;
  to = (name.block % per_file + 1) * 8192;
}

-- a piece that ends where a block does: a file that grows keeps its whole blocks
abbrev pub EndsABlock : Piece → Type 0
EndsABlock piece = piece.to % 8192 ≡ 0

-- the call that writes a block in its place
abbrev pub block_write : PathValue → (per_file : ℕ) → BlockName → ChangeCall
block_write root per_file name = Write (relation_file root name.rel name.fork (name.block / per_file)) (name.block % per_file * 8192) 8192

-- the call that cuts a file before the first block that goes
abbrev pub block_cut : PathValue → (per_file : ℕ) → RelName → Fork → (blocks : ℕ) → ChangeCall
block_cut root per_file rel fork blocks = Cut (relation_file root rel fork (blocks / per_file)) (blocks % per_file * 8192)

-- whether a path is that of a file of a folder which a sweep is about
abbrev pub is_swept_in : (folder : PathValue) → Sweep → (relation : ℕ) → PathValue → Bool
is_swept_in folder sweep relation path = lies_in folder path && name_swept sweep relation (file_named (last_part path))

abbrev pub is_swept : PathValue → Sweep → RelName → PathValue → Bool
is_swept root sweep rel = is_swept_in (relation_folder root rel) sweep rel.relation

-- a fork that is cut to so many blocks keeps a piece that lies before the cut in its file, and is in no file behind it
abbrev pub keeps_piece : PathValue → (per_file : ℕ) → RelName → Fork → (blocks : ℕ) → Piece → Bool
keeps_piece root per_file rel fork blocks piece = spares piece (block_cut root per_file rel fork blocks) && not (is_swept root (Empty fork (blocks / per_file)) rel piece.path)

-- whether a path is that of a file of a fork
abbrev pub file_of_fork : (relation : ℕ) → Fork → Option FileName → Bool
file_of_fork relation fork None = false
file_of_fork relation fork (Some file) = file.relation == relation && same_fork file.fork fork

abbrev pub is_of_fork : PathValue → RelName → Fork → PathValue → Bool
is_of_fork root rel fork path = lies_in (relation_folder root rel) path && file_of_fork rel.relation fork (file_named (last_part path))
