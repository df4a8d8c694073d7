-- Where a dump begins: PostgreSQL 16, src/backend/access/transam/xlogreader.c, XLogFindNextRecord.
use Rattle.std.specs.Prelude.{ℕ, ◌+◌, ◌-◌, ◌*◌, ◌/◌, ◌^◌, Bool, List, map, nat_lt, is_some, if◌then◌else◌, Option, None, Some, Result, Ok, Err}
use Rattle.std.specs.List.{range_with_len, take_while}
use Rattle.cluster_tree.specs.Causes.{first_of}
use Rattle.wal_pages.specs.Header.{header_size, header_of, has_bit}
use Rattle.wal_pages.specs.Page.{Refusal}
use Rattle.wal_pages.specs.declared.header.PageHeader.{PageHeader}
use Rattle.wal_records.specs.Further.{Pages}

-- the first place on a page at which a record can begin: behind its header, and behind the bytes of a record that goes on
-- there, rounded up to 8; none where that fills the page
abbrev pub place_on : ℕ → ℕ → PageHeader → Option ℕ
place_on size at header =
    let skipped = if has_bit header.info 1 then (header.remaining + 7) / 8 * 8 else 0 in
    if nat_lt (header_size size at + skipped) 8192 then Some (at + (header_size size at + skipped)) else None

-- the header of a page, if it is valid
abbrev pub header_in : Result (List ℕ) Refusal → Option PageHeader
header_in (Err refusal) = None
header_in (Ok page) = Some (header_of page)

abbrev pub is_valid : Pages → ℕ → Bool
is_valid pages at = is_some (header_in (pages at))

abbrev pub place_in : ℕ → ℕ → Option PageHeader → Option ℕ
place_in size at None = None
place_in size at (Some header) = place_on size at header

abbrev pub place_at : Pages → ℕ → ℕ → Option ℕ
place_at pages size at = place_in size at (header_in (pages at))

abbrev pub page_start : ℕ → ℕ
page_start number = 8192 * number

-- where pages begin, from one on; the last one ends at 2 ^ 64
unfoldable pub pages_from : ℕ → List ℕ
pages_from at = map page_start (range_with_len (at / 8192) (2 ^ 51 - at / 8192))

-- The first place from a page on, on the first page that has one; the pages up to that one have to be valid.
abbrev pub first_place : Pages → ℕ → ℕ → Option ℕ
first_place pages size at = first_of (map (place_at pages size) (take_while (is_valid pages) (pages_from at)))
