-- A log that was written so far, where it ends, and that it is read again.
use Rattle.std.specs.Prelude.{◌≡◌, ◌⊎◌, ℕ, ◌+◌, ◌-◌, ◌%◌, ◌^◌, ◌<◌, ◌≤◌, List, [], ◌∷◌, ◌++◌, length, drop, Option, None}
use Rattle.std.specs.List.{fold}
use Rattle.wal_base.specs.Segment.{bytes_of}
use Rattle.wal_pages.specs.declared.log_path.LogPath.{LogPath}
use Rattle.wal_pages.specs.Header.{header_size, page_of}
use Rattle.wal_pages.specs.Folder.{Folder}
use Rattle.wal_pages.specs.Page.{page_at}
use Rattle.wal_records.specs.declared.log_origin.LogOrigin.{LogOrigin}
use Rattle.wal_records.specs.Writer.{NewRecord, Written, begun, appended, page_header, record_bytes, end_from}
use Rattle.wal_records.specs.Place.{place_at}
use Rattle.wal_records.specs.Reading.{Stopped, reading}
use Rattle.wal_records.specs.declared.why.Why.TheVariants as why
use Rattle.wal_records.specs.declared.why.Stop.TheVariants.{Ends}
use Rattle.wal_records.specs.Log.{log_from}
use Rattle.wal_records.specs.Again.{IsNew, IsLogFrom, Holds, IsWrittenAt, log_records, with_records}

-- The bytes of a log end at a place within a page: the page has a header, which says that it goes on with a record before
-- only where the place isn't the first one behind it.
pub record IsEndIn (origin : LogOrigin) (bytes : List ℕ) (place : ℕ) : Type 0 where
  pub left : ℕ
  pub rest : List ℕ
  pub aligned : place % 8 ≡ 0
  pub behind : header_size (bytes_of origin.size) (page_of place) ≤ place % 8192
  pub from : origin.start ≤ page_of place
  pub few : left < 2 ^ 32
  pub fresh : place % 8192 ≡ header_size (bytes_of origin.size) (page_of place) → left ≡ 0
  pub head : drop (page_of place - origin.start) bytes ≡ page_header origin (page_of place) left ++ rest
  pub reach : origin.start + length bytes ≡ place

-- where the bytes end at a page's end, no further page is valid
abbrev pub EndsAtPage : Type 0
EndsAtPage = (log : LogPath) (files : Folder) (start size at : ℕ) (before : Option ℕ) (bytes : List ℕ) → Holds log files start bytes
    → at % 8192 ≡ 0 → at ≡ start + length bytes → reading (page_at log files) size before (place_at size at) ≡ Stopped (Ends why.Page)

-- where they end within a page, a record of no length follows
abbrev pub EndsInPage : Type 0
EndsInPage = (log : LogPath) (files : Folder) (origin : LogOrigin) (bytes : List ℕ) (before : Option ℕ) (place : ℕ) → Holds log files origin.start bytes
    → IsLogFrom log origin → origin.start + length bytes < 2 ^ 64 → IsEndIn origin bytes place
    → reading (page_at log files) (bytes_of origin.size) before place ≡ Stopped (Ends why.ZeroLength)

-- the page of a position has a header in these bytes, and the position isn't the first one behind it
pub record HasPage (o : LogOrigin) (bytes : List ℕ) (at : ℕ) : Type 0 where
  pub left : ℕ
  pub rest : List ℕ
  pub few : left < 2 ^ 32
  pub from : o.start ≤ page_of at
  pub behind : header_size (bytes_of o.size) (page_of at) < at % 8192
  pub head : drop (page_of at - o.start) bytes ≡ page_header o (page_of at) left ++ rest

-- no record was appended yet
pub record IsFirst (w : Written) : Type 0 where
  pub end : w.end ≡ w.origin.start
  pub bytes : w.bytes ≡ page_header w.origin w.origin.start 0

-- the last record ends at a page's end
pub record IsPageEnd (w : Written) : Type 0 where
  pub page : w.end % 8192 ≡ 0
  pub later : w.origin.start < w.end
  pub reach : w.origin.start + length w.bytes ≡ w.end

-- the last record ends within a page
pub record IsInPage (w : Written) : Type 0 where
  pub later : w.origin.start < w.end
  pub reach : w.origin.start + length w.bytes ≡ w.end
  pub has : HasPage w.origin w.bytes w.end

-- a log that was written so far
pub record IsSound (w : Written) : Type 0 where
  pub starts : w.origin.start % bytes_of w.origin.size ≡ 0
  pub aligned : w.end % 8 ≡ 0
  pub state : IsFirst w ⊎ (IsPageEnd w ⊎ IsInPage w)

-- A log of no records is sound, and in the bytes of a sound log that goes on with a record this stands at its place.
abbrev pub BegunIsSound : Type 0
BegunIsSound = (origin : LogOrigin) → origin.start % bytes_of origin.size ≡ 0 → IsSound (begun origin)

abbrev pub AppendedStands : Type 0
AppendedStands = (w : Written) (r : NewRecord) (all after : List ℕ) → IsSound w → all ≡ (appended w r).bytes ++ after
    → IsWrittenAt w.origin all (place_at (bytes_of w.origin.size) w.end) (record_bytes w.before r)

-- and it stays sound
abbrev pub StaysSound : Type 0
StaysSound = (w : Written) (r : NewRecord) → IsSound w → IsNew w.before r → IsSound (appended w r)

-- each of these records can be appended in turn, and ends below 2 ^ 63
abbrev pub AllNew : Written → List NewRecord → Type 0
AllNew w [] = Unit {0}
AllNew w (r ∷ rest) = IsNew w.before r × (end_from w.origin w.before w.end r < 2 ^ 63) × AllNew (appended w r) rest

-- The log of some records is read again: over files that hold its bytes the valid log from its start is these records, and
-- then the log from where they end.
abbrev pub WrittenLogIsRead : Type 0
WrittenLogIsRead = (log : LogPath) (files : Folder) (origin : LogOrigin) (records : List NewRecord) → origin.start % bytes_of origin.size ≡ 0
    → AllNew (begun origin) records → Holds log files origin.start (fold appended (begun origin) records).bytes → IsLogFrom log origin
    → origin.start + length (fold appended (begun origin) records).bytes < 2 ^ 64
    → log_from (page_at log files) (bytes_of origin.size) None (place_at (bytes_of origin.size) origin.start)
    ≡ with_records (log_records (begun origin) records)
    (log_from (page_at log files) (bytes_of origin.size) (fold appended (begun origin) records).before (place_at (bytes_of origin.size) (fold appended (begun origin) records).end))
