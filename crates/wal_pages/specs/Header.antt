-- The header of a log page: PostgreSQL 16, src/include/access/xlog_internal.h, XLogPageHeaderData and
-- XLogLongPageHeaderData.
use Rattle.std.specs.Prelude.{ℕ, ◌*◌, ◌/◌, ◌%◌, ◌==◌, Bool, not, List, bit_and, if◌then◌else◌}
use Rattle.layout.specs.Readers.{u16_at, u32_at, u64_at}
use Rattle.wal_pages.specs.declared.header.PageHeader.{PageHeader}

-- where the page that holds a position begins
abbrev pub page_of : ℕ → ℕ
page_of at = at / 8192 * 8192

-- how many bytes the header of the page at a position has, in segments of a size: a segment's first page has the long one
abbrev pub header_size : ℕ → ℕ → ℕ
header_size size at = if at % size == 0 then 40 else 24

-- what the header at the front of a page says
abbrev pub header_of : List ℕ → PageHeader
header_of page = record {
  info = u16_at 2 page;
  tli = u32_at 4 page;
  address = record { 0 = u64_at 8 page };
  remaining = u32_at 16 page;
}

-- Whether a bit of a page's info is set: 1, the first bytes go on with a record; 2, the header is the long one;
-- 4, its blocks may be removed; 8, the record begun before is dropped here.
abbrev pub has_bit : ℕ → ℕ → Bool
has_bit info bit = not (bit_and info bit == 0)
