-- The header of a block reference: PostgreSQL 16, src/include/access/xlogrecord.h, XLogRecordBlockHeader;
-- src/backend/access/transam/xlogreader.c, DecodeXLogRecord.
use Rattle.std.specs.Prelude.{ℕ, ◌+◌, ◌==◌, ◌&&◌, Bool, true, List, length, Option, Some, None, nat_lt, nat_le, bit_and, option_and_then, if◌then◌else◌}
use Rattle.layout.specs.Readers.{u8_at, u16_at, u32_at}
use Rattle.block_refs.specs.declared.names.Fork.{Fork}
use Rattle.block_refs.specs.declared.names.RelName.{RelName}
use Rattle.block_refs.specs.declared.block_ref.BlockRef.{BlockRef}
use Rattle.block_refs.specs.declared.header.Head.{Head}
use Rattle.block_refs.specs.declared.image.Image.{Image}
use Rattle.block_refs.specs.Names.{fork_of}
use Rattle.block_refs.specs.Bits.{has_bytes, will_init, is_same_rel}
use Rattle.block_refs.specs.Image.{image_at, image_end}

-- ids rise from one block to the next, and the greatest is 32, XLR_MAX_BLOCK_ID
abbrev pub is_above : Option BlockRef → ℕ → Bool
is_above None id = true
is_above (Some before) id = nat_lt before.id id

abbrev pub is_id_after : Option BlockRef → ℕ → Bool
is_id_after before id = nat_le id 32 && is_above before id

-- a reference has bytes exactly where its flags say so
abbrev pub bytes_agree : ℕ → ℕ → Bool
bytes_agree flags size = if has_bytes flags then nat_lt 0 size else size == 0

-- the relation at an offset
abbrev pub relation_at : List ℕ → ℕ → RelName
relation_at body at = record {
  space = u32_at at body;
  database = u32_at (at + 4) body;
  relation = u32_at (at + 8) body;
}

-- the relation of the block before, where there is one
abbrev pub relation_before : Option BlockRef → Option RelName
relation_before None = None
relation_before (Some before) = Some before.name.rel

-- where the relation of a reference with these flags ends
abbrev pub relation_end : ℕ → ℕ → ℕ
relation_end at flags = if is_same_rel flags then at else at + 12

-- the relation of a reference with these flags, which else stands at an offset
unfoldable pub relation_of : List ℕ → ℕ → ℕ → Option BlockRef → Option RelName
relation_of body at flags before =
    if is_same_rel flags then relation_before before
    else if nat_lt (length body) (at + 12) then None
    else Some (relation_at body at)

-- the header of a reference from its parts, whose block number stands at an offset
abbrev pub head_with : List ℕ → ℕ → ℕ → Fork → Image → RelName → Head
head_with body at number fork image rel = record {
  id = u8_at at body;
  name = record { rel = rel; fork = fork; block = u32_at number body };
  will_init = will_init (u8_at (at + 1) body);
  image = image;
  size = u16_at (at + 2) body;
  next = number + 4;
}

-- the same, where its block number is there
abbrev pub head_whole : List ℕ → ℕ → ℕ → Fork → Image → RelName → Option Head
head_whole body at number fork image rel =
    if nat_lt (length body) (number + 4) then None else Some (head_with body at number fork image rel)

-- from its relation on, which stands at an offset
unfoldable pub head_from : List ℕ → ℕ → ℕ → Option BlockRef → Fork → Image → Option Head
head_from body at from before fork image =
    option_and_then (head_whole body at (relation_end from (u8_at (at + 1) body)) fork image)
    (relation_of body from (u8_at (at + 1) body) before)

-- from its image on
unfoldable pub head_behind : List ℕ → ℕ → Option BlockRef → Fork → Option Head
head_behind body at before fork =
    option_and_then (head_from body at (image_end body (at + 4) (u8_at (at + 1) body)) before fork)
    (image_at body (at + 4) (u8_at (at + 1) body))

-- the header of a block reference that stands at an offset, behind another one, or None where none does
unfoldable pub head_at : List ℕ → ℕ → Option BlockRef → Option Head
head_at body at before =
    if nat_lt (length body) (at + 4) then None
    else if is_id_after before (u8_at at body) && bytes_agree (u8_at (at + 1) body) (u16_at (at + 2) body)
    then option_and_then (head_behind body at before) (fork_of (bit_and (u8_at (at + 1) body) 0x0F))
    else None
