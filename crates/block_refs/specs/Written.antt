-- A body as it is written, for logs that programs make: PostgreSQL 16, src/backend/access/transam/xloginsert.c,
-- XLogRecordAssemble. Every block names its relation itself.
use Rattle.std.specs.Prelude.{◌≡◌, ◌⊎◌, ℕ, ◌+◌, ◌-◌, ◌==◌, ◌<◌, ◌≤◌, ◌^◌, Bool, List, [], ◌∷◌, ◌++◌, length, Option, Some, None, is_some, nat_lt, IfSome, if◌then◌else◌}
use Rattle.std.specs.List.{flat_map}
use Rattle.layout.specs.declared.value.Value.{Value}
use Rattle.layout.specs.declared.value.Value.TheVariants.{Byte, Half, Word}
use Rattle.layout_readers.specs.Rows.{row_bytes}
use Rattle.block_refs.specs.declared.block_ref.BlockRef.{BlockRef}
use Rattle.block_refs.specs.declared.block_ref.ImageRef.{ImageRef}
use Rattle.block_refs.specs.declared.names.Fork.{Fork}
use Rattle.block_refs.specs.declared.names.RelName.{RelName}
use Rattle.block_refs.specs.declared.placed.Placed.{Placed}
use Rattle.block_refs.specs.Names.{fork_number}
use Rattle.block_refs.specs.Parts.{PartsView}

-- a block that is written: its reference, its image without the hole, and its bytes
pub record Written : Type 0 where
  pub block : BlockRef
  pub image : List ℕ
  pub bytes : List ℕ

-- a bit that is set or not
abbrev pub bit_if : ℕ → Bool → ℕ
bit_if bit set = if set then bit else 0

-- the flags of a block reference: its fork, BKPBLOCK_HAS_IMAGE, BKPBLOCK_HAS_DATA, BKPBLOCK_WILL_INIT
abbrev pub block_flags : Fork → Bool → Bool → Bool → ℕ
block_flags fork image bytes init = fork_number fork + (bit_if 0x10 image + (bit_if 0x20 bytes + bit_if 0x40 init))

-- those of an image: BKPIMAGE_HAS_HOLE, BKPIMAGE_APPLY
abbrev pub image_bits : Bool → Bool → ℕ
image_bits hole apply = bit_if 0x01 hole + bit_if 0x02 apply

-- the values of an image's header, of a relation, and of a block reference's header
abbrev pub image_values : Option ImageRef → List Value
image_values None = []
image_values (Some image) =
    Half (8192 - image.hole) ∷ Half image.hole_at ∷ Byte (image_bits (nat_lt 0 image.hole) image.apply) ∷ []

abbrev pub rel_values : RelName → List Value
rel_values rel = Word rel.space ∷ Word rel.database ∷ Word rel.relation ∷ []

abbrev pub flags_of : Written → ℕ
flags_of w = block_flags w.block.name.fork (is_some w.block.image) (nat_lt 0 (length w.bytes)) w.block.will_init

abbrev pub head_values : Written → List Value
head_values w =
    Byte w.block.id ∷ Byte (flags_of w) ∷ Half (length w.bytes)
    ∷ (image_values w.block.image ++ (rel_values w.block.name.rel ++ (Word w.block.name.block ∷ [])))

-- the header of the main bytes: their number, in one byte where it fits, and none where there are none
abbrev pub main_values : ℕ → List Value
main_values size =
    if size == 0 then [] else if nat_lt size 256 then Byte 255 ∷ Byte size ∷ [] else Byte 254 ∷ Word size ∷ []

-- the headers of blocks, and behind all headers their images and bytes
abbrev pub head_bytes : Written → List ℕ
head_bytes w = row_bytes (head_values w)

abbrev pub data_bytes : Written → List ℕ
data_bytes w = w.image ++ w.bytes

-- the body of a record with these blocks and main bytes
abbrev pub body_bytes : List Written → List ℕ → List ℕ
body_bytes blocks main =
    flat_map head_bytes blocks
    ++ (row_bytes (main_values (length main)) ++ (flat_map data_bytes blocks ++ main))

-- an image that can be written: a page less its hole, which lies behind the page's first byte or is none
abbrev pub IsStored : Option ImageRef → List ℕ → Type 0
IsStored None stored = stored ≡ []
IsStored (Some image) stored =
    (length stored + image.hole ≡ 8192)
    × (((0 < image.hole) × (0 < image.hole_at) × (image.hole_at + image.hole ≤ 8192))
    ⊎ ((image.hole ≡ 0) × (image.hole_at ≡ 0)))

-- a block that can be written: each number has so many bytes
pub record CanWrite (w : Written) : Type 0 where
  pub bytes : length w.bytes < 2 ^ 16
  pub image : IsStored w.block.image w.image
  pub space : w.block.name.rel.space < 2 ^ 32
  pub database : w.block.name.rel.database < 2 ^ 32
  pub relation : w.block.name.rel.relation < 2 ^ 32
  pub block : w.block.name.block < 2 ^ 32

-- blocks that can be written one behind another: their ids rise up to 32
abbrev pub CanWriteAll : Option BlockRef → List Written → Type 0
CanWriteAll before [] = Unit {0}
CanWriteAll before (w ∷ ws) =
    CanWrite w × IfSome before (λ last. last.id < w.block.id) × (w.block.id ≤ 32) × CanWriteAll (Some w.block) ws

-- where the blocks stand behind the headers, from a place on
abbrev pub placed_from : ℕ → List Written → List Placed
placed_from at [] = []
placed_from at (w ∷ ws) =
    record { block = w.block; image_at = at; at = at + length w.image; size = length w.bytes }
    ∷ placed_from (at + (length w.image + length w.bytes)) ws

-- the parts of that body
abbrev pub heads_size : List Written → List ℕ → ℕ
heads_size blocks main =
    length (flat_map head_bytes blocks) + length (row_bytes (main_values (length main)))

abbrev pub written_parts : List Written → List ℕ → PartsView
written_parts blocks main = record {
  start = heads_size blocks main;
  blocks = placed_from 0 blocks;
  main = heads_size blocks main + length (flat_map data_bytes blocks);
}
