-- The visibility map: PostgreSQL 16, src/backend/access/heap/visibilitymap.c, HEAPBLK_TO_MAPBLOCK, HEAPBLK_TO_MAPBYTE,
-- HEAPBLK_TO_OFFSET, visibilitymap_clear and visibilitymap_prepare_truncate; src/include/access/visibilitymapdefs.h.
use Rattle.std.specs.Prelude.{ℕ, ◌+◌, ◌-◌, ◌*◌, ◌/◌, ◌%◌, ◌^◌, ◌==◌, Bool, List, ◌∷◌, slice_index, replicate, bit_and, Result, Ok, if◌then◌else◌}
use Rattle.block_refs.specs.declared.names.Fork.TheVariants.{Visibility}
use Rattle.block_refs.specs.declared.names.RelName.{RelName}
use Rattle.cluster_tree.specs.PathValue.{PathValue}
use Rattle.cluster_tree.specs.Contents.{Contents}
use Rattle.cluster_tree.specs.Causes.{given}
use Rattle.cluster_tree.specs.declared.file_fault.FileFault.{FileFault}
use Rattle.file_edits.specs.Edits.{file_edited, laid}
use Rattle.relation_files.specs.Paths.{relation_file}
use Rattle.storage_replay.specs.Lengths.{has_block}
use Rattle.storage_replay.specs.Cutting.{fork_cut}
use Rattle.storage_replay.specs.declared.map_edit.MapEdit.{MapEdit}
use Rattle.storage_replay.specs.declared.map_edit.MapEdit.TheVariants.{Clear, Cut}

-- a page of the map has two bits for each of 32672 heap blocks, behind its header of 24 bytes
abbrev pub map_page : ℕ → ℕ
map_page block = block / 32672

-- the byte of a heap block in its page, and which pair of that byte, the lowest being 0
abbrev pub map_byte : ℕ → ℕ
map_byte block = 24 + block % 32672 / 4

abbrev pub map_pair : ℕ → ℕ
map_pair block = block % 4

-- where that byte stands in its file
abbrev pub map_at : (per_file block : ℕ) → ℕ
map_at per_file block = map_page block % per_file * 8192 + map_byte block

-- what becomes of that byte: it loses bits of its pair, or those of its pair and of the pairs above it
abbrev pub new_byte : MapEdit → (block byte : ℕ) → ℕ
new_byte (Clear bits) block byte = bit_and byte (255 - bits % 4 * 4 ^ map_pair block)
new_byte Cut block byte = byte % 4 ^ map_pair block

-- and how many bytes behind it in the page become zeros
abbrev pub zeros_behind : MapEdit → (block : ℕ) → ℕ
zeros_behind (Clear bits) block = 0
zeros_behind Cut block = 8191 - map_byte block

-- the bytes of a file of the map after that
abbrev pub bits_edited : (per_file block : ℕ) → MapEdit → List ℕ → List ℕ
bits_edited per_file block edit old =
    laid (map_at per_file block) (map_at per_file block) (new_byte edit block (slice_index old (map_at per_file block)) ∷ replicate (zeros_behind edit block) 0) old

-- bits of a heap block in the file of their page
abbrev pub map_in_file : PathValue → (per_file : ℕ) → RelName → (block : ℕ) → MapEdit → Contents → Result Contents FileFault
map_in_file root per_file rel block edit c = file_edited root (relation_file root rel Visibility (map_page block / per_file)) (bits_edited per_file block edit) c

-- where the map has that page
unfoldable pub map_edited : PathValue → (per_file : ℕ) → RelName → (block : ℕ) → MapEdit → Contents → Result Contents FileFault
map_edited root per_file rel block edit c =
    given (has_block root per_file rel Visibility (map_page block) c) (λ there. if there then map_in_file root per_file rel block edit c else Ok c)

-- whether so many heap blocks fill whole pages
abbrev pub fill_pages : ℕ → Bool
fill_pages blocks = blocks % 32672 == 0

-- a page that is left in part loses the bits at and past the cut, and the pages behind it go
unfoldable pub map_cut_in_page : PathValue → (per_file : ℕ) → RelName → (blocks : ℕ) → Contents → Result Contents FileFault
map_cut_in_page root per_file rel blocks c = given (map_edited root per_file rel blocks Cut c) (fork_cut root per_file rel Visibility (map_page blocks + 1))

-- the map of a relation that is cut to so many blocks
abbrev pub map_cut : PathValue → (per_file : ℕ) → RelName → (blocks : ℕ) → Contents → Result Contents FileFault
map_cut root per_file rel blocks c =
    if fill_pages blocks then fork_cut root per_file rel Visibility (map_page blocks) c else map_cut_in_page root per_file rel blocks c
