-- What was written is read again.
use Rattle.std.specs.Prelude.{◌≡◌, ℕ, ◌+◌, ◌-◌, ◌%◌, ◌^◌, ◌<◌, ◌≤◌, List, [], ◌∷◌, ◌++◌, length, take, drop, replicate, Option, Some, None, Ok}
use Rattle.std.specs.List.{flat_map, fold, AllByRecursion}
use Rattle.wal_base.specs.Crc.{crc32c}
use Rattle.wal_base.specs.Segment.{bytes_of}
use Rattle.wal_pages.specs.declared.log_path.LogPath.{LogPath}
use Rattle.wal_pages.specs.Header.{header_of as page_header_of, header_size, page_of}
use Rattle.wal_pages.specs.Folder.{Folder}
use Rattle.wal_pages.specs.LogBytes.{segment_at, segment_bytes}
use Rattle.wal_pages.specs.Page.{page_at, bytes_from}
use Rattle.wal_pages.specs.ValidPage.{IsValidPage}
use Rattle.wal_records.specs.declared.header.RecordHeader.{RecordHeader}
use Rattle.wal_records.specs.declared.log_origin.LogOrigin.{LogOrigin}
use Rattle.wal_records.specs.Header.{header_of, checksum, header_fault, greatest_total}
use Rattle.wal_records.specs.Further.{Pages, FurtherPage, stop_at, piece, further}
use Rattle.wal_records.specs.Writer.{NewRecord, Written, appended, link_to, page_info, page_header, pages_from, record_front, record_bytes, laid, end_from}
use Rattle.wal_records.specs.Place.{place_at}
use Rattle.wal_records.specs.Reading.{LogRecord, Spelled, reading, record_of}
use Rattle.wal_records.specs.Log.{Log, log_from}

-- a record that can be appended: its numbers fit their fields, its resource manager may be one, and it isn't too long
pub record IsNew (before : Option ℕ) (r : NewRecord) : Type 0 where
  pub xid : r.xid < 2 ^ 32
  pub link : link_to before < 2 ^ 64
  pub manager : 22 ≤ r.manager → 128 ≤ r.manager
  pub size : 24 + length r.body ≤ greatest_total

-- the header that a record is given
abbrev pub header_given : Option ℕ → NewRecord → RecordHeader
header_given before r = record {
  total = 24 + length r.body;
  xid = r.xid;
  prev = record { 0 = link_to before };
  info = r.info;
  manager = r.manager;
  crc = crc32c (r.body ++ record_front before r);
}

-- from the bytes of a record its header is read, its body, and its checksum; and nothing is wrong with it where the record
-- before is the one that it was linked to
pub record IsReadAgain (before : Option ℕ) (r : NewRecord) : Type 0 where
  pub size : length (record_bytes before r) ≡ 24 + length r.body
  pub header : header_of (record_bytes before r) ≡ header_given before r
  pub body : drop 24 (record_bytes before r) ≡ r.body
  pub sum : checksum (record_bytes before r) ≡ (header_of (record_bytes before r)).crc
  pub linked : (place : ℕ) → 0 < place → header_fault before place (header_of (record_bytes before r)) ≡ None

abbrev pub RecordsAreReadAgain : Type 0
RecordsAreReadAgain = (before : Option ℕ) (r : NewRecord) → IsNew before r → IsReadAgain before r

-- a page that a written header begins is valid, in the log of its timeline, system and segment size; and says of its first
-- bytes what was written
pub record PageIsReadAgain (log : LogPath) (origin : LogOrigin) (at left : ℕ) (page : List ℕ) : Type 0 where
  pub valid : IsValidPage log at page
  pub info : (page_header_of page).info ≡ page_info (bytes_of origin.size) at left
  pub remaining : (page_header_of page).remaining ≡ left

-- the log of such a path is read as this origin's
pub record IsLogOf (log : LogPath) (origin : LogOrigin) (at : ℕ) : Type 0 where
  pub size : log.size ≡ origin.size
  pub timeline : 0 < origin.tli
  pub low : origin.tli < 2 ^ 32
  pub span : origin.tli ≤ (segment_at log at).tli
  pub system : (wanted : ℕ) → log.system ≡ Some wanted → wanted ≡ origin.system
  pub known : origin.system < 2 ^ 64

-- from where it begins on
abbrev pub IsLogFrom : LogPath → LogOrigin → Type 0
IsLogFrom log origin = (at : ℕ) → origin.start ≤ at → IsLogOf log origin at

abbrev pub PagesAreReadAgain : Type 0
PagesAreReadAgain = (log : LogPath) (origin : LogOrigin) (at left : ℕ) (rest : List ℕ) → at < 2 ^ 64 → left < 2 ^ 32
    → IsLogOf log origin at → PageIsReadAgain log origin at left (page_header origin at left ++ rest)

-- The pages of a log's files from a position on are these bytes, and then zeros.
pub record Holds (log : LogPath) (files : Folder) (start : ℕ) (bytes : List ℕ) : Type 0 where
  pub page : (at : ℕ) → at % 8192 ≡ 0 → start ≤ at → at ≤ start + length bytes
      → bytes_from (segment_at log at) (at % bytes_of log.size) (segment_bytes log files at) ≡ Ok (take 8192 (drop (at - start) bytes ++ replicate 8192 0))

-- each of these further pages of a record goes on with it, and together they carry these bytes
pub record Carries (pages : Pages) (size : ℕ) (list : List FurtherPage) (bytes : List ℕ) : Type 0 where
  pub announced : AllByRecursion (λ f. stop_at pages f ≡ None) list
  pub carried : flat_map (piece pages size) list ≡ bytes

-- where the further pages of a record were written, they are read as its further pages
abbrev pub FurtherPagesAreReadAgain : Type 0
FurtherPagesAreReadAgain = (log : LogPath) (files : Folder) (origin : LogOrigin) (written rec : List ℕ) (page left : ℕ) (after : List ℕ)
    → Holds log files origin.start written → IsLogFrom log origin → left ≤ length rec → length rec < 2 ^ 32 → page % 8192 ≡ 0 → origin.start ≤ page
    → origin.start + length written < 2 ^ 64 → drop (page - origin.start) written ≡ pages_from origin rec page left ++ after
    → Carries (page_at log files) (bytes_of origin.size) (further (bytes_of origin.size) page left) (drop (length rec - left) rec)

-- A record was written at a place. Its page has a header, which says that the page goes on with a record before only where
-- the place isn't the first one behind it; and from the place on its bytes stand, over its further pages.
pub record IsWrittenAt (origin : LogOrigin) (bytes : List ℕ) (place : ℕ) (rec : List ℕ) : Type 0 where
  pub left : ℕ
  pub rest : List ℕ
  pub after : List ℕ
  pub aligned : place % 8 ≡ 0
  pub behind : header_size (bytes_of origin.size) (page_of place) ≤ place % 8192
  pub from : origin.start ≤ page_of place
  pub few : left < 2 ^ 32
  pub fresh : place % 8192 ≡ header_size (bytes_of origin.size) (page_of place) → left ≡ 0
  pub head : drop (page_of place - origin.start) bytes ≡ page_header origin (page_of place) left ++ rest
  pub laid : drop (place - origin.start) bytes ≡ laid origin place rec ++ after

-- and so it is read there, over files that hold these bytes
abbrev pub WrittenRecordIsRead : Type 0
WrittenRecordIsRead = (log : LogPath) (files : Folder) (origin : LogOrigin) (bytes : List ℕ) (before : Option ℕ) (at : ℕ) (r : NewRecord)
    → Holds log files origin.start bytes → IsLogFrom log origin → origin.start + length bytes < 2 ^ 64 → IsNew before r
    → IsWrittenAt origin bytes (place_at (bytes_of origin.size) at) (record_bytes before r) → end_from origin before at r < 2 ^ 64
    → reading (page_at log files) (bytes_of origin.size) before (place_at (bytes_of origin.size) at)
    ≡ Spelled (record_of (place_at (bytes_of origin.size) at) (end_from origin before at r) (record_bytes before r))

-- the record of a log that a new record becomes
abbrev pub new_log_record : Written → NewRecord → LogRecord
new_log_record w r = record_of (place_at (bytes_of w.origin.size) w.end) (end_from w.origin w.before w.end r) (record_bytes w.before r)

-- and those of some new records in order
abbrev pub log_records : Written → List NewRecord → List LogRecord
log_records w [] = []
log_records w (r ∷ rest) = new_log_record w r ∷ log_records (appended w r) rest

-- a log with more records in front
abbrev pub with_records : List LogRecord → Log → Log
with_records records log = record { records = records ++ log.records; place = log.place; why = log.why }

-- these bytes have each of these records at its place, one after another
abbrev pub AllWritten : List ℕ → Written → List NewRecord → Type 0
AllWritten bytes w [] = Unit {0}
AllWritten bytes w (r ∷ rest) =
    IsNew w.before r × IsWrittenAt w.origin bytes (place_at (bytes_of w.origin.size) w.end) (record_bytes w.before r)
    × (end_from w.origin w.before w.end r < 2 ^ 63) × AllWritten bytes (appended w r) rest

-- Records that were written one after another are read one after another: the log from where they begin is these records,
-- and then the log from where they end.
abbrev pub WrittenRecordsAreRead : Type 0
WrittenRecordsAreRead = (log : LogPath) (files : Folder) (bytes : List ℕ) (records : List NewRecord) (w : Written) → Holds log files w.origin.start bytes
    → IsLogFrom log w.origin → w.origin.start + length bytes < 2 ^ 64 → AllWritten bytes w records
    → log_from (page_at log files) (bytes_of w.origin.size) w.before (place_at (bytes_of w.origin.size) w.end)
    ≡ with_records (log_records w records)
    (log_from (page_at log files) (bytes_of w.origin.size) (fold appended w records).before (place_at (bytes_of w.origin.size) (fold appended w records).end))
