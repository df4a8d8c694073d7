-- How a fragment stands at an offset of a body, field by field and in no order: PostgreSQL 16,
-- src/include/access/xlogrecord.h.
use Rattle.std.specs.Prelude.{◌≡◌, ℕ, ◌+◌, ◌<◌, ◌≤◌, ◌⊎◌, ◌↔◌, true, false, List, length, Option, Some, None, bit_and, IfSome}
use Rattle.layout.specs.Readers.{u8_at, u16_at, u32_at}
use Rattle.block_refs.specs.declared.names.RelName.{RelName}
use Rattle.block_refs.specs.declared.block_ref.BlockRef.{BlockRef}
use Rattle.block_refs.specs.declared.block_ref.ImageRef.{ImageRef}
use Rattle.block_refs.specs.declared.fragment.Fragment.{Fragment}
use Rattle.block_refs.specs.declared.fragment.Fragment.TheVariants.{Block, Main, Other}
use Rattle.block_refs.specs.declared.header.Head.{Head}
use Rattle.block_refs.specs.declared.image.Image.{Image}
use Rattle.block_refs.specs.declared.image.Image.TheVariants.{Missing, Plain, Compressed}
use Rattle.block_refs.specs.Names.{fork_number}
use Rattle.block_refs.specs.Bits.{has_image, has_bytes, will_init, is_same_rel, has_hole, is_applied, is_compressed, has_unknown}
use Rattle.block_refs.specs.Header.{relation_at}

-- a page's hole: it has an offset and a length and lies within the page; or there is none
abbrev pub IsHole : ImageRef → ℕ → Type 0
IsHole image info =
    ((has_hole info ≡ true) × (0 < image.hole_at) × (0 < image.hole) × (image.hole_at + image.hole ≤ 8192))
    ⊎ ((has_hole info ≡ false) × (image.hole_at ≡ 0) × (image.hole ≡ 0))

-- the header of an image that isn't compressed
pub record IsPlain (body : List ℕ) (at : ℕ) (image : ImageRef) : Type 0 where
  pub size : u16_at at body + image.hole ≡ 8192
  pub hole_at : u16_at (at + 2) body ≡ image.hole_at
  pub apply : is_applied (u8_at (at + 4) body) ≡ image.apply
  pub known : has_unknown (u8_at (at + 4) body) ≡ false
  pub plain : is_compressed (u8_at (at + 4) body) ≡ false
  pub hole : IsHole image (u8_at (at + 4) body)

-- the image of a block reference with these flags, whose header stands at an offset
abbrev pub IsImage : List ℕ → ℕ → ℕ → Image → Type 0
IsImage body at flags Missing = has_image flags ≡ false
IsImage body at flags (Plain image) = (has_image flags ≡ true) × (at + 5 ≤ length body) × IsPlain body at image
IsImage body at flags Compressed =
    (has_image flags ≡ true) × (at + 5 ≤ length body) × (has_unknown (u8_at (at + 4) body) ≡ false)
    × (is_compressed (u8_at (at + 4) body) ≡ true)

-- how many bytes the header of an image has: none where there is none, five, and seven where the length of a hole
-- stands behind them
abbrev pub IsImageWidth : ℕ → Image → ℕ → Type 0
IsImageWidth info Missing width = width ≡ 0
IsImageWidth info (Plain image) width = width ≡ 5
IsImageWidth info Compressed width =
    ((has_hole info ≡ true) × (width ≡ 7)) ⊎ ((has_hole info ≡ false) × (width ≡ 5))

-- the relation of a block reference with these flags: that of the block before, or the one at an offset
abbrev pub IsRelation : List ℕ → ℕ → ℕ → Option BlockRef → RelName → Type 0
IsRelation body at flags before rel =
    ((is_same_rel flags ≡ true) × (last : BlockRef) × (before ≡ Some last) × (rel ≡ last.name.rel))
    ⊎ ((is_same_rel flags ≡ false) × (rel ≡ relation_at body at))

-- how many bytes its numbers have: none, or twelve
abbrev pub IsRelationWidth : ℕ → ℕ → Type 0
IsRelationWidth flags width =
    ((is_same_rel flags ≡ true) × (width ≡ 0)) ⊎ ((is_same_rel flags ≡ false) × (width ≡ 12))

-- the flags of the header at an offset
abbrev pub flags_at : List ℕ → ℕ → ℕ
flags_at body at = u8_at (at + 1) body

-- The header of a block reference stands at an offset, behind another one: its id, its flags and the number of its bytes
-- in four bytes, then the header of its image, then the numbers of its relation, then the block's number in four bytes.
pub record IsHead (body : List ℕ) (at : ℕ) (before : Option BlockRef) (head : Head) : Type 0 where
  pub id : u8_at at body ≡ head.id
  pub greatest : head.id ≤ 32
  pub rises : IfSome before (λ last. last.id < head.id)
  pub fork : bit_and (flags_at body at) 0x0F ≡ fork_number head.name.fork
  pub will_init : will_init (flags_at body at) ≡ head.will_init
  pub size : u16_at (at + 2) body ≡ head.size
  pub bytes : (has_bytes (flags_at body at) ≡ true) ↔ (0 < head.size)
  pub image : IsImage body (at + 4) (flags_at body at) head.image
  pub image_width : ℕ
  pub image_fills : IsImageWidth (u8_at (at + 8) body) head.image image_width
  pub relation : IsRelation body (at + 4 + image_width) (flags_at body at) before head.name.rel
  pub relation_width : ℕ
  pub relation_fills : IsRelationWidth (flags_at body at) relation_width
  pub block : u32_at (at + 4 + image_width + relation_width) body ≡ head.name.block
  pub next : head.next ≡ at + 8 + image_width + relation_width
  pub within : head.next ≤ length body

-- a block reference of so many bytes, whose image isn't compressed, as a header that ends at an offset
abbrev pub image_as : Option ImageRef → Image
image_as None = Missing
image_as (Some image) = Plain image

abbrev pub head_of : BlockRef → ℕ → ℕ → Head
head_of block size next = record {
  id = block.id;
  name = block.name;
  will_init = block.will_init;
  image = image_as block.image;
  size = size;
  next = next;
}

-- main bytes: their number in one byte behind 255, or in four behind 254
abbrev pub IsMain : List ℕ → ℕ → ℕ → ℕ → Type 0
IsMain body at size next =
    ((u8_at at body ≡ 255) × (size ≡ u8_at (at + 1) body) × (next ≡ at + 2))
    ⊎ ((u8_at at body ≡ 254) × (size ≡ u32_at (at + 1) body) × (next ≡ at + 5))

-- an origin of two bytes behind 253, or a transaction of four behind 252
abbrev pub IsOther : List ℕ → ℕ → ℕ → Type 0
IsOther body at next = ((u8_at at body ≡ 253) × (next ≡ at + 3)) ⊎ ((u8_at at body ≡ 252) × (next ≡ at + 5))

-- a fragment stands at an offset, behind a block reference, and ends at another offset
abbrev pub IsFragment : List ℕ → ℕ → Option BlockRef → Fragment → ℕ → Type 0
IsFragment body at before (Block block size) next = IsHead body at before (head_of block size next)
IsFragment body at before (Main size) next = IsMain body at size next
IsFragment body at before Other next = IsOther body at next
