-- The length of a fork: PostgreSQL 16, src/backend/storage/smgr/md.c, mdnblocks and _mdnblocks; src/include/storage/block.h,
-- MaxBlockNumber. Own: "Lengths of forks".
use Rattle.std.specs.Prelude.{ℕ, zero, suc, ◌+◌, ◌-◌, ◌*◌, ◌/◌, ◌^◌, Bool, min, nat_lt, Option, None, Some, Result, Ok, if◌then◌else◌}
use Rattle.block_refs.specs.declared.names.Fork.{Fork}
use Rattle.block_refs.specs.declared.names.RelName.{RelName}
use Rattle.cluster_tree.specs.PathValue.{PathValue}
use Rattle.cluster_tree.specs.Contents.{Contents, entry_at}
use Rattle.cluster_tree.specs.Causes.{given}
use Rattle.cluster_tree.specs.declared.file_fault.FileFault.{FileFault}
use Rattle.file_edits.specs.Asking.{file_asked, size_asked}
use Rattle.relation_files.specs.Paths.{relation_file}

-- a block has 8192 bytes; of a file as many whole blocks count as a full one has
abbrev pub blocks_in : (per_file size : ℕ) → ℕ
blocks_in per_file size = min per_file (size / 8192)

-- a file that isn't there has none
abbrev pub blocks_of : ℕ → Option ℕ → ℕ
blocks_of per_file None = 0
blocks_of per_file (Some size) = blocks_in per_file size

-- the size of a file of a fork, if it is there
abbrev pub file_size : PathValue → RelName → Fork → Contents → (file : ℕ) → Result (Option ℕ) FileFault
file_size root rel fork c file = size_asked (file_asked (relation_file root rel fork file) (entry_at c (relation_file root rel fork file)))

-- the blocks up to and with the first file that isn't full, of so many files from one on, all before it being full
unfoldable pub counted : ((file : ℕ) → Result (Option ℕ) FileFault) → (per_file count file : ℕ) → Result ℕ FileFault
counted sizes per_file zero file = Ok (file * per_file)
counted sizes per_file (suc count) file =
    given (sizes file) (λ size. if nat_lt (blocks_of per_file size) per_file then Ok (file * per_file + blocks_of per_file size) else counted sizes per_file count (file + 1))

-- the greatest length: a block's number is below it
abbrev pub most_blocks : ℕ
most_blocks = 2 ^ 32 - 1

-- so many files hold as many blocks
abbrev pub all_files : ℕ → ℕ
all_files per_file = most_blocks / per_file + 1

-- none where the first file isn't there
abbrev pub length_by : ((file : ℕ) → Result (Option ℕ) FileFault) → ℕ → Option ℕ → Result (Option ℕ) FileFault
length_by sizes per_file None = Ok None
length_by sizes per_file (Some size) = given (counted sizes per_file (all_files per_file) 0) (λ blocks. Ok (Some (min most_blocks blocks)))

-- the length of a fork in blocks
abbrev pub fork_length : PathValue → (per_file : ℕ) → RelName → Fork → Contents → Result (Option ℕ) FileFault
fork_length root per_file rel fork c = given (file_size root rel fork c 0) (length_by (file_size root rel fork c) per_file)

-- whether a fork has a block of a number, which its files up to that one tell
abbrev pub has_block : PathValue → (per_file : ℕ) → RelName → Fork → (block : ℕ) → Contents → Result Bool FileFault
has_block root per_file rel fork block c = given (counted (file_size root rel fork c) per_file (block / per_file + 1) 0) (λ blocks. Ok (nat_lt block blocks))
