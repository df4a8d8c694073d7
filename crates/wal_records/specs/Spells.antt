-- The record that a place spells, as one relation on the payload: the bytes of the log without the headers of its pages.
-- PostgreSQL 16 manual, chapter "Reliability and the Write-Ahead Log", section "WAL Internals";
-- src/include/access/xlogrecord.h and xlog_internal.h.
use Rattle.std.specs.Prelude.{◌≡◌, ℕ, ◌+◌, ◌-◌, ◌*◌, ◌%◌, ◌^◌, ◌<◌, ◌≤◌, true, false, List, length, map, drop, Option, Some, None, Ok}
use Rattle.wal_base.specs.Segment.{bytes_of}
use Rattle.wal_pages.specs.declared.log_path.LogPath.{LogPath}
use Rattle.wal_pages.specs.Folder.{Folder}
use Rattle.wal_pages.specs.Header.{header_of as page_header, header_size, page_of, has_bit}
use Rattle.wal_pages.specs.Page.{page_at}
use Rattle.wal_pages.specs.Payload.{in_header, payload}
use Rattle.wal_records.specs.Header.{header_of, checksum}
use Rattle.wal_records.specs.Extent.{end_of}
use Rattle.wal_records.specs.Reading.{LogRecord}

-- The page on which a record begins is valid, and doesn't go on with another one where the place is its first.
pub record Begins (log : LogPath) (files : Folder) (place : ℕ) : Type 0 where
  pub page : List ℕ
  pub valid : page_at log files (page_of place) ≡ Ok page
  pub fresh : place % 8192 ≡ header_size (bytes_of log.size) (page_of place) → has_bit (page_header page).info 1 ≡ false

-- A page on which a record goes on is valid, says so, and announces how many of its bytes are still to come.
pub record Announces (log : LogPath) (files : Folder) (at left : ℕ) : Type 0 where
  pub page : List ℕ
  pub valid : page_at log files at ≡ Ok page
  pub kept : has_bit (page_header page).info 8 ≡ false
  pub goes_on : has_bit (page_header page).info 1 ≡ true
  pub remaining : (page_header page).remaining ≡ left

-- the link back is the start of the record before; that of a first record is below its own place
abbrev pub LinksTo : Option ℕ → ℕ → ℕ → Type 0
LinksTo None place prev = prev < place
LinksTo (Some before) place prev = prev ≡ before

-- A place spells a record, behind the start of the record before it, where there is one: the payload from the place up to
-- its last byte is its header and its body.
pub record Spells (log : LogPath) (files : Folder) (before : Option ℕ) (place : ℕ) (r : LogRecord) : Type 0 where
  pub bytes : List ℕ
  pub last : ℕ
  pub spelled : payload log files place (last + 1 - place) ≡ map Some bytes
  pub last_byte : in_header log last ≡ false
  -- where it starts
  pub start : r.start ≡ place
  pub aligned : place % 8 ≡ 0
  pub first_byte : in_header log place ≡ false
  pub begins : Begins log files place
  -- the pages in between
  pub announced : (at : ℕ) → at % 8192 ≡ 0 → place < at → at ≤ last → Announces log files at (length (payload log files at (last + 1 - at)))
  -- its header and its body
  pub header : r.header ≡ header_of bytes
  pub body : r.body ≡ drop 24 bytes
  pub total : r.header.total ≡ length bytes
  pub least : 24 ≤ length bytes
  pub greatest : length bytes ≤ 1020 * 2 ^ 20
  pub manager : 22 ≤ r.header.manager → 128 ≤ r.header.manager
  pub link : LinksTo before place r.header.prev.0
  pub crc : r.header.crc ≡ checksum bytes
  -- where it ends
  pub end : r.end ≡ end_of (bytes_of log.size) r.header (last + 1)
  pub within : r.end < 2 ^ 64
