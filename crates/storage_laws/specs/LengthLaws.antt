-- Lengths of forks and reading, by which blocks are there. Own: "States of blocks".
use Rattle.std.specs.Prelude.{◌≡◌, ◌⊎◌, ℕ, ◌+◌, ◌<◌, ◌^◌, min, max, unwrap_or, List, length, Option, None, Some, Ok}
use Rattle.block_refs.specs.declared.names.BlockName.{BlockName}
use Rattle.block_refs.specs.declared.names.Fork.{Fork}
use Rattle.block_refs.specs.declared.names.RelName.{RelName}
use Rattle.cluster_tree.specs.PathValue.{PathValue}
use Rattle.cluster_tree.specs.Contents.{Contents, IsTree}
use Rattle.storage_replay.specs.Blocks.{block_put}
use Rattle.storage_replay.specs.Cutting.{fork_cut}
use Rattle.storage_replay.specs.Lengths.{fork_length}
use Rattle.storage_replay.specs.Reading.{Reading, block_read, found_in}
use Rattle.storage_replay.specs.declared.found.Found.TheVariants as found
use Rattle.storage_laws.specs.Forks.{HasNoGap, IsLength}
use Rattle.storage_laws.specs.Names.{IsBlock, IsRel, block_of}
use Rattle.storage_laws.specs.States.{block_in}

-- a fork's length is the number of its first block that isn't there; one whose first file isn't there has no block
abbrev pub LengthIsFirstAbsent : Type 0
LengthIsFirstAbsent = (root : PathValue) (per_file : ℕ) (rel : RelName) (fork : Fork) (there : Option ℕ) (c : Contents)
    → 0 < per_file → fork_length root per_file rel fork c ≡ Ok there → IsLength root per_file rel fork c (unwrap_or there 0)

-- what reading tells of a block, and the buffer then: of one that isn't there the buffer stays
abbrev pub reading_of : (old : List ℕ) → Option (List ℕ) → Reading
reading_of old None = record { found = found.Absent; bytes = old }
reading_of old (Some bytes) = record { found = found_in bytes; bytes = bytes }

-- reading answers the block, or that it isn't there where one before it isn't
abbrev pub ReadsBlocks : Type 0
ReadsBlocks = (root : PathValue) (per_file : ℕ) (name : BlockName) (c : Contents) (old : List ℕ) (reading : Reading)
    → 0 < per_file → block_read root per_file name c old ≡ Ok reading
    → (reading ≡ reading_of old (block_in root per_file name c))
    ⊎ ((reading ≡ reading_of old None) × ((block : ℕ) × (block < name.block) × (block_in root per_file (block_of name.rel name.fork block) c ≡ None)))

-- of a fork without a gap it answers the block
abbrev pub ReadsWhole : Type 0
ReadsWhole = (root : PathValue) (per_file : ℕ) (name : BlockName) (c : Contents) (old : List ℕ) (reading : Reading)
    → 0 < per_file → IsBlock name → HasNoGap root per_file name.rel name.fork c
    → block_read root per_file name c old ≡ Ok reading
    → reading ≡ reading_of old (block_in root per_file name c)

-- a fork without a gap that gets a block is as long as before, or as that block asks
abbrev pub WrittenLength : Type 0
WrittenLength = (root : PathValue) (per_file : ℕ) (name : BlockName) (page : List ℕ) (there now : Option ℕ) (c d : Contents)
    → 0 < per_file → IsBlock name → length page ≡ 8192 → HasNoGap root per_file name.rel name.fork c
    → fork_length root per_file name.rel name.fork c ≡ Ok there → block_put root per_file name page c ≡ Ok d
    → fork_length root per_file name.rel name.fork d ≡ Ok now
    → unwrap_or now 0 ≡ max (unwrap_or there 0) (name.block + 1)

-- a fork that is cut is no longer than the cut
abbrev pub CutLength : Type 0
CutLength = (root : PathValue) (per_file : ℕ) (rel : RelName) (fork : Fork) (blocks : ℕ) (there now : Option ℕ) (c d : Contents)
    → 0 < per_file → IsRel rel → blocks < 2 ^ 32 → IsTree c
    → fork_length root per_file rel fork c ≡ Ok there → fork_cut root per_file rel fork blocks c ≡ Ok d
    → fork_length root per_file rel fork d ≡ Ok now
    → unwrap_or now 0 ≡ min blocks (unwrap_or there 0)
