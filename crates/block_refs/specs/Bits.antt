-- The flags of block references and of their images: PostgreSQL 16, src/include/access/xlogrecord.h, BKPBLOCK_.. and
-- BKPIMAGE_...
use Rattle.std.specs.Prelude.{ℕ, ◌==◌, Bool, not, bit_and}

-- some of these bits are set
abbrev pub has_bits : ℕ → ℕ → Bool
has_bits flags bits = not (bit_and flags bits == 0)

-- of a block reference: a full-page image follows, BKPBLOCK_HAS_IMAGE
abbrev pub has_image : ℕ → Bool
has_image flags = has_bits flags 0x10

-- it has bytes, BKPBLOCK_HAS_DATA
abbrev pub has_bytes : ℕ → Bool
has_bytes flags = has_bits flags 0x20

-- redo makes the page anew, BKPBLOCK_WILL_INIT
abbrev pub will_init : ℕ → Bool
will_init flags = has_bits flags 0x40

-- its relation is that of the block before, BKPBLOCK_SAME_REL
abbrev pub is_same_rel : ℕ → Bool
is_same_rel flags = has_bits flags 0x80

-- of an image: zeros were left out of it, BKPIMAGE_HAS_HOLE
abbrev pub has_hole : ℕ → Bool
has_hole info = has_bits info 0x01

-- redo puts it in place, BKPIMAGE_APPLY
abbrev pub is_applied : ℕ → Bool
is_applied info = has_bits info 0x02

-- it is compressed: BKPIMAGE_COMPRESS_PGLZ, BKPIMAGE_COMPRESS_LZ4, BKPIMAGE_COMPRESS_ZSTD
abbrev pub is_compressed : ℕ → Bool
is_compressed info = has_bits info 0x1C

-- it has a bit that no version 16 writes
abbrev pub has_unknown : ℕ → Bool
has_unknown info = has_bits info 0xE0
