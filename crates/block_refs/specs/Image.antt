-- The header of a full-page image: PostgreSQL 16, src/include/access/xlogrecord.h, XLogRecordBlockImageHeader and
-- XLogRecordBlockCompressHeader; src/backend/access/transam/xlogreader.c, DecodeXLogRecord.
use Rattle.std.specs.Prelude.{ℕ, ◌+◌, ◌-◌, ◌==◌, ◌&&◌, Bool, List, length, Option, Some, None, nat_lt, nat_le, if◌then◌else◌}
use Rattle.layout.specs.Readers.{u8_at, u16_at}
use Rattle.block_refs.specs.declared.image.Image.{Image}
use Rattle.block_refs.specs.declared.image.Image.TheVariants.{Missing, Plain, Compressed}
use Rattle.block_refs.specs.Bits.{has_image, has_hole, is_applied, is_compressed, has_unknown}

-- How many bytes the header of an image has: the length of a hole is there only where the image is compressed, since
-- else it is what the image lacks.
abbrev pub image_header_size : ℕ → ℕ
image_header_size info = if is_compressed info && has_hole info then 7 else 5

-- Whether an image of so many bytes, which isn't compressed, fills a page: a hole has an offset and a length, and lies
-- within the page, and with no hole it is the page.
abbrev pub fills_page : Bool → ℕ → ℕ → Bool
fills_page hole size hole_at =
    if hole then nat_lt 0 hole_at && nat_lt size 8192 && nat_le (hole_at + (8192 - size)) 8192
    else hole_at == 0 && size == 8192

-- an image whose header has these numbers, or None where no rule fits
unfoldable pub image_of : ℕ → ℕ → ℕ → Option Image
image_of size hole_at info =
    if has_unknown info then None
    else if is_compressed info then Some Compressed
    else if fills_page (has_hole info) size hole_at
    then Some (Plain record { apply = is_applied info; hole_at = hole_at; hole = 8192 - size })
    else None

-- the image whose header stands at an offset
abbrev pub image_there : List ℕ → ℕ → Option Image
image_there body at =
    if nat_lt (length body) (at + 5) then None
    else image_of (u16_at at body) (u16_at (at + 2) body) (u8_at (at + 4) body)

-- the image of a block reference with these flags, whose header stands at an offset where there is one
unfoldable pub image_at : List ℕ → ℕ → ℕ → Option Image
image_at body at flags = if has_image flags then image_there body at else Some Missing

-- where the header of that image ends
abbrev pub image_end : List ℕ → ℕ → ℕ → ℕ
image_end body at flags = if has_image flags then at + image_header_size (u8_at (at + 4) body) else at
