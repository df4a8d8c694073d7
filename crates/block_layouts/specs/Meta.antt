-- What a record holds of a B-tree's metapage: PostgreSQL 16, src/include/access/nbtxlog.h, xl_btree_metadata.
use Rattle.std.specs.Prelude.{ℕ, List, Option}
use Rattle.layout.specs.Readers.{u8_at, u32_at}
use Rattle.block_layouts.specs.declared.meta.BtreeMeta.{BtreeMeta}
use Rattle.layout_readers.specs.Whole.{whole}

-- the six numbers of four bytes, and one byte
abbrev pub meta_at_front : List ℕ → BtreeMeta
meta_at_front bytes = record {
  version = u32_at 0 bytes;
  root = u32_at 4 bytes;
  level = u32_at 8 bytes;
  fast_root = u32_at 12 bytes;
  fast_level = u32_at 16 bytes;
  deleted_pages = u32_at 20 bytes;
  all_equal_image = u8_at 24 bytes;
}

-- the fields, where all are there
abbrev pub metapage_of : List ℕ → Option BtreeMeta
metapage_of bytes = whole 25 bytes (meta_at_front bytes)
