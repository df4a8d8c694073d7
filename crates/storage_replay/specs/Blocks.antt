-- Blocks that are read and written: PostgreSQL 16, src/backend/storage/smgr/md.c, mdread, mdwrite and mdextend;
-- src/backend/access/transam/xlogutils.c, XLogReadBufferExtended. Own: "Growth of forks".
use Rattle.std.specs.Prelude.{ℕ, zero, suc, ◌+◌, ◌-◌, ◌*◌, ◌/◌, ◌%◌, nat_lt, List, ◌++◌, length, take, replicate, Result, Ok, if◌then◌else◌}
use Rattle.block_refs.specs.declared.names.Fork.{Fork}
use Rattle.block_refs.specs.declared.names.RelName.{RelName}
use Rattle.block_refs.specs.declared.names.BlockName.{BlockName}
use Rattle.cluster_tree.specs.PathValue.{PathValue}
use Rattle.cluster_tree.specs.Contents.{Contents}
use Rattle.cluster_tree.specs.Causes.{given}
use Rattle.cluster_tree.specs.declared.file_fault.FileFault.{FileFault}
use Rattle.file_edits.specs.Edits.{file_edited, laid}
use Rattle.relation_files.specs.Paths.{relation_file}

-- a file's bytes with blocks of zeros behind the whole ones up to so many; a torn end becomes zeros with them
abbrev pub grown : ℕ → List ℕ → List ℕ
grown blocks bytes =
    if nat_lt (length bytes / 8192) blocks then take (length bytes / 8192 * 8192) bytes ++ replicate ((blocks - length bytes / 8192) * 8192) 0 else bytes

-- a file of a fork grown to a full one
abbrev pub file_filled : PathValue → (per_file : ℕ) → RelName → Fork → (file : ℕ) → Contents → Result Contents FileFault
file_filled root per_file rel fork file c = file_edited root (relation_file root rel fork file) (grown per_file) c

-- so many files of a fork, from one on
unfoldable pub files_filled : PathValue → (per_file : ℕ) → RelName → Fork → (count file : ℕ) → Contents → Result Contents FileFault
files_filled root per_file rel fork zero file c = Ok c
files_filled root per_file rel fork (suc count) file c = given (file_filled root per_file rel fork file c) (files_filled root per_file rel fork count (file + 1))

-- a block laid at its place, behind the blocks before it
abbrev pub block_laid : (place : ℕ) → List ℕ → List ℕ → List ℕ
block_laid place page bytes = laid (place * 8192) (place * 8192) page (grown place bytes)

-- in the file of a block
abbrev pub block_in_file : PathValue → (per_file : ℕ) → BlockName → List ℕ → Contents → Result Contents FileFault
block_in_file root per_file name page c =
    file_edited root (relation_file root name.rel name.fork (name.block / per_file)) (block_laid (name.block % per_file) page) c

-- a block of a fork, whose files before the block's are filled first
unfoldable pub block_put : PathValue → (per_file : ℕ) → BlockName → List ℕ → Contents → Result Contents FileFault
block_put root per_file name page c =
    given (files_filled root per_file name.rel name.fork (name.block / per_file) 0 c) (block_in_file root per_file name page)
