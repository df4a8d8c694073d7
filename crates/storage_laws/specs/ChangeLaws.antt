-- What the state of a block is once a fork is made, a relation dropped, or bits of the map cleared. Own: "States of blocks".
use Rattle.std.specs.Prelude.{◌≡◌, ℕ, ◌<◌, ◌^◌, Bool, Ok, if◌then◌else◌}
use Rattle.block_refs.specs.declared.names.BlockName.{BlockName}
use Rattle.block_refs.specs.declared.names.Fork.{Fork}
use Rattle.block_refs.specs.declared.names.Fork.TheVariants.{Visibility}
use Rattle.block_refs.specs.declared.names.RelName.{RelName}
use Rattle.cluster_tree.specs.PathValue.{PathValue}
use Rattle.cluster_tree.specs.Contents.{Contents, IsTree}
use Rattle.storage_replay.specs.Changes.{created, relation_dropped}
use Rattle.storage_replay.specs.Lengths.{has_block}
use Rattle.storage_replay.specs.MapBits.{map_edited, map_page}
use Rattle.storage_replay.specs.declared.map_edit.MapEdit.{MapEdit}
use Rattle.storage_laws.specs.After.{dropped_state, edited_state}
use Rattle.storage_laws.specs.Forks.{HasNoGap}
use Rattle.storage_laws.specs.Names.{IsBlock, IsRel}
use Rattle.storage_laws.specs.States.{block_in}

-- a fork that is made has the blocks that it had, and so has every other
abbrev pub CreatedBlocks : Type 0
CreatedBlocks = (root : PathValue) (per_file : ℕ) (rel : RelName) (fork : Fork) (other : BlockName) (c d : Contents)
    → created root rel fork c ≡ Ok d → block_in root per_file other d ≡ block_in root per_file other c

-- of a relation that is dropped no block of any fork is there; of another all stay
abbrev pub DroppedBlocks : Type 0
DroppedBlocks = (root : PathValue) (per_file : ℕ) (rel : RelName) (other : BlockName) (c d : Contents)
    → 0 < per_file → IsRel rel → IsBlock other → IsTree c → relation_dropped root rel c ≡ Ok d
    → block_in root per_file other d ≡ dropped_state rel other (block_in root per_file other c)

-- of a map that has the page one byte of it is edited, and those behind where it is cut; every other block stays
abbrev pub EditedBlocks : Type 0
EditedBlocks = (root : PathValue) (per_file : ℕ) (rel : RelName) (block : ℕ) (edit : MapEdit) (other : BlockName) (there : Bool) (c d : Contents)
    → 0 < per_file → IsRel rel → IsBlock other → block < 2 ^ 32
    → has_block root per_file rel Visibility (map_page block) c ≡ Ok there → map_edited root per_file rel block edit c ≡ Ok d
    → block_in root per_file other d ≡ (if there then edited_state rel block edit other (block_in root per_file other c) else block_in root per_file other c)

-- and so of a map without a gap
abbrev pub EditedWhole : Type 0
EditedWhole = (root : PathValue) (per_file : ℕ) (rel : RelName) (block : ℕ) (edit : MapEdit) (other : BlockName) (c d : Contents)
    → 0 < per_file → IsRel rel → IsBlock other → block < 2 ^ 32 → HasNoGap root per_file rel Visibility c
    → map_edited root per_file rel block edit c ≡ Ok d
    → block_in root per_file other d ≡ edited_state rel block edit other (block_in root per_file other c)
