-- What the state of a block is once a block is written. Own: "States of blocks".
use Rattle.std.specs.Prelude.{◌≡◌, ℕ, ◌<◌, List, length, Ok, if◌then◌else◌}
use Rattle.block_refs.specs.declared.names.BlockName.{BlockName}
use Rattle.block_refs.specs.declared.names.Fork.{Fork}
use Rattle.block_refs.specs.declared.names.RelName.{RelName}
use Rattle.cluster_tree.specs.PathValue.{PathValue}
use Rattle.cluster_tree.specs.Contents.{Contents}
use Rattle.storage_replay.specs.Blocks.{block_put}
use Rattle.storage_laws.specs.After.{written_state}
use Rattle.storage_laws.specs.Forks.{HasNoGap}
use Rattle.storage_laws.specs.Names.{IsBlock, IsRel, same_block}
use Rattle.storage_laws.specs.States.{block_in, page_in, page_or_none}

-- the block is the page; those of its fork before it are zeros where they weren't there; every other is what it was
abbrev pub WrittenBlocks : Type 0
WrittenBlocks = (root : PathValue) (per_file : ℕ) (name other : BlockName) (page : List ℕ) (c d : Contents)
    → 0 < per_file → IsBlock name → IsBlock other → length page ≡ 8192 → block_put root per_file name page c ≡ Ok d
    → block_in root per_file other d ≡ written_state name page other (block_in root per_file other c)

-- so every other block has the page that it had
abbrev pub WrittenPages : Type 0
WrittenPages = (root : PathValue) (per_file : ℕ) (name other : BlockName) (page : List ℕ) (c d : Contents)
    → 0 < per_file → IsBlock name → IsBlock other → length page ≡ 8192 → block_put root per_file name page c ≡ Ok d
    → page_in root per_file other d ≡ (if same_block name other then page_or_none page else page_in root per_file other c)

-- and a fork without a gap gets none
abbrev pub WrittenHasNoGap : Type 0
WrittenHasNoGap = (root : PathValue) (per_file : ℕ) (name : BlockName) (page : List ℕ) (rel : RelName) (fork : Fork) (c d : Contents)
    → 0 < per_file → IsBlock name → IsRel rel → length page ≡ 8192 → block_put root per_file name page c ≡ Ok d
    → HasNoGap root per_file rel fork c → HasNoGap root per_file rel fork d
