-- The log that is written: PostgreSQL 16, src/backend/access/transam/xloginsert.c, XLogRecordAssemble;
-- src/backend/access/transam/xlog.c, CopyXLogRecordToWAL and AdvanceXLInsertBuffer. Own: "Pages of a written log".
use Rattle.std.specs.Prelude.{◌≡◌, ◌⊎◌, ◌<◌, ◌^◌, ℕ, ◌+◌, ◌-◌, ◌*◌, ◌/◌, ◌%◌, ◌==◌, List, [], ◌∷◌, ◌++◌, take, drop, length, replicate, Option, Some, None, if◌then◌else◌}
use Rattle.std.specs.List.{flat_map, fold}
use Rattle.byteorder.specs.Endian.{little_bytes}
use Rattle.wal_base.specs.Segment.{bytes_of}
use Rattle.wal_base.specs.Crc.{crc32c}
use Rattle.wal_pages.specs.Header.{page_of}
use Rattle.wal_records.specs.declared.log_origin.LogOrigin.{LogOrigin}
use Rattle.wal_records.specs.Place.{place_at}
use Rattle.wal_records.specs.Header.{header_of}
use Rattle.wal_records.specs.Further.{FurtherPage, room, further}
use Rattle.wal_records.specs.Extent.{behind_of, end_of}
use Rattle.wal_records.specs.Zeros.{ZeroEnded}

-- what is appended: xl_xid, xl_info and xl_rmid of a record, and the bytes behind its header
pub record NewRecord : Type 0 where
  pub xid : ℕ
  pub info : ℕ
  pub manager : ℕ
  pub body : List ℕ

abbrev pub new_record : ℕ → ℕ → ℕ → List ℕ → NewRecord
new_record xid info manager body = record { xid = xid; info = info; manager = manager; body = body }

-- a log that was written so far: where it began, the start of its last record, where that one ends, and its bytes
pub record Written : Type 0 where
  pub origin : LogOrigin
  pub before : Option ℕ
  pub end : ℕ
  pub bytes : List ℕ

-- the bits of a page's info: 1 where it goes on with a record, of which so many bytes are still to come, 2 on a segment's
-- first page
abbrev pub page_info : ℕ → ℕ → ℕ → ℕ
page_info size at remaining = (if remaining == 0 then 0 else 1) + (if at % size == 0 then 2 else 0)

-- xlp_magic, xlp_info, xlp_tli, xlp_pageaddr, xlp_rem_len and four bytes that have no meaning
unfoldable pub short_header : LogOrigin → ℕ → ℕ → List ℕ
short_header origin at remaining =
    little_bytes 2 0xD113 ++ little_bytes 2 (page_info (bytes_of origin.size) at remaining) ++ little_bytes 4 origin.tli ++ little_bytes 8 at
    ++ little_bytes 4 remaining ++ replicate 4 0

-- xlp_sysid, xlp_seg_size and xlp_xlog_blcksz, which a segment's first page has
unfoldable pub long_header : LogOrigin → List ℕ
long_header origin = little_bytes 8 origin.system ++ little_bytes 4 (bytes_of origin.size) ++ little_bytes 4 8192

-- the header of the page at a position
unfoldable pub page_header : LogOrigin → ℕ → ℕ → List ℕ
page_header origin at remaining =
    short_header origin at remaining ++ (if at % bytes_of origin.size == 0 then long_header origin else [])

-- where the record before starts, as xl_prev has it: 0 where there is none
abbrev pub link_to : Option ℕ → ℕ
link_to None = 0
link_to (Some before) = before

-- the header of a record but for its checksum: xl_tot_len, xl_xid, xl_prev, xl_info, xl_rmid and two unused bytes
unfoldable pub record_front : Option ℕ → NewRecord → List ℕ
record_front before r =
    little_bytes 4 (24 + length r.body) ++ little_bytes 4 r.xid ++ little_bytes 8 (link_to before)
    ++ r.info ∷ r.manager ∷ 0 ∷ 0 ∷ []

-- all bytes of a record: its header, with the checksum of its body and of what stands before the checksum, and its body
unfoldable pub record_bytes : Option ℕ → NewRecord → List ℕ
record_bytes before r = record_front before r ++ little_bytes 4 (crc32c (r.body ++ record_front before r)) ++ r.body

-- the header of the page that begins where a record is appended; the first page's stands from the beginning
unfoldable pub lead : LogOrigin → ℕ → List ℕ
lead origin at = if at == origin.start then [] else if at % 8192 == 0 then page_header origin at 0 else []

-- a further page of a record: its header, and the bytes that are still to come, as many as it has room for
abbrev pub page_part : LogOrigin → List ℕ → FurtherPage → List ℕ
page_part origin bytes page =
    page_header origin page.at page.left ++ take (room (bytes_of origin.size) page.at) (drop (length bytes - page.left) bytes)

-- the further pages of a record from one on, where so many of its bytes are still to come
abbrev pub pages_from : LogOrigin → List ℕ → ℕ → ℕ → List ℕ
pages_from origin bytes page left = flat_map (page_part origin bytes) (further (bytes_of origin.size) page left)

-- the bytes of a record from its place on, over its further pages
unfoldable pub laid : LogOrigin → ℕ → List ℕ → List ℕ
laid origin place bytes =
    let first = 8192 - place % 8192 in take first bytes ++ pages_from origin bytes (page_of place + 8192) (length bytes - first)

-- where a record ends that is appended at a position
unfoldable pub end_from : LogOrigin → Option ℕ → ℕ → NewRecord → ℕ
end_from origin before at r =
    let bytes = record_bytes before r in
    end_of (bytes_of origin.size) (header_of bytes) (behind_of (bytes_of origin.size) (place_at (bytes_of origin.size) at) (length bytes))

-- The log with one record more: the header of its page, where it begins one; its bytes; zeros up to where it ends.
unfoldable pub appended : Written → NewRecord → Written
appended w r =
    let size = bytes_of w.origin.size in
    let place = place_at size w.end in
    let bytes = record_bytes w.before r in
    let end = end_from w.origin w.before w.end r in
    record {
      origin = w.origin;
      before = Some place;
      end = end;
      bytes = w.bytes ++ (lead w.origin w.end ++ laid w.origin place bytes ++ replicate (end - behind_of size place (length bytes)) 0);
    }

-- a log of no records: the header of its first page
abbrev pub begun : LogOrigin → Written
begun origin = record { origin = origin; before = None; end = origin.start; bytes = page_header origin origin.start 0 }

-- the log of some records in order
unfoldable pub written : LogOrigin → List NewRecord → Written
written origin records = fold appended (begun origin) records

-- how many bytes the pages have that so many bytes need
abbrev pub whole_pages : ℕ → ℕ
whole_pages size = (size + 8191) / 8192 * 8192

-- bytes, and zeros up to the end of their last page
unfoldable pub in_pages : List ℕ → List ℕ
in_pages bytes = bytes ++ replicate (whole_pages (length bytes) - length bytes) 0

-- the bytes of the log of some records, in whole pages
abbrev pub log_bytes_of : LogOrigin → List NewRecord → List ℕ
log_bytes_of origin records = in_pages (written origin records).bytes

-- What a writer holds: its bytes and zeros are whole pages, less than one of zeros; and the bytes reach from the start to
-- the end of the last record, or over the first page's header.
pub record IsWhole (origin : LogOrigin) (end : ℕ) (pages : ZeroEnded) : Type 0 where
  pub starts : origin.start % bytes_of origin.size ≡ 0
  pub aligned : end % 8 ≡ 0
  pub low : end < 2 ^ 63
  pub paged : (length pages.bytes + pages.zeros) % 8192 ≡ 0
  pub less : pages.zeros < 8192
  pub reaches : ((end ≡ origin.start) × (length pages.bytes ≡ 40)) ⊎ ((origin.start < end) × (origin.start + length pages.bytes ≡ end))
