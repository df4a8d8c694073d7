-- The log of a writer in the segment files of a tree, and the valid log that is read there: PostgreSQL 16 manual, chapter
-- "Reliability and the Write-Ahead Log", section "WAL Internals"; src/include/access/xlog_internal.h, XLogFilePath.
use Rattle.std.specs.Prelude.{◌≡◌, ℕ, ◌-◌, ◌*◌, ◌/◌, ◌%◌, ◌^◌, ◌<◌, ◌≤◌, ◌==◌, ◌&&◌, List, [], ◌∷◌, ◌++◌, map, take, drop, replicate, Some, nat_lt, if◌then◌else◌}
use Rattle.cluster_tree.specs.Contents.{Contents, FileEntry, entry_at}
use Rattle.cluster_tree.specs.PathValue.{below}
use Rattle.wal_base.specs.Segment.{bytes_of, name_of}
use Rattle.wal_pages.specs.declared.log_path.LogPath.{LogPath}
use Rattle.wal_pages.specs.LogBytes.{segment_of}
use Rattle.wal_records.specs.declared.log_origin.LogOrigin.{LogOrigin}
use Rattle.wal_records.specs.declared.why.Why.{Why}
use Rattle.wal_records.specs.declared.why.Why.TheVariants as why
use Rattle.wal_records.specs.Place.{place_at}
use Rattle.wal_records.specs.Further.{pages_of}
use Rattle.wal_records.specs.Reading.{LogRecord}
use Rattle.wal_records.specs.Log.{Log, log_of, end_after}
use Rattle.wal_records.specs.Writer.{NewRecord, new_record, Written, begun, written, in_pages}
use Rattle.wal_records.specs.Again.{log_records}
use Rattle.wal_records.specs.Sound.{AllNew}

-- A writer has written these records: it was begun at a segment's start, and they were appended in order.
pub record Wrote (w : Written) (records : List NewRecord) : Type 0 where
  pub starts : w.origin.start % bytes_of w.origin.size ≡ 0
  pub low : w.origin.start < 2 ^ 63
  pub timeline : w.origin.tli < 2 ^ 32
  pub system : w.origin.system < 2 ^ 64
  pub each : AllNew (begun w.origin) records
  pub is : w ≡ written w.origin records

-- Under this path the log of such an origin is read: its segments have the same size, from its first one on they are of no
-- timeline before its own, which isn't 0, and no other system is wanted.
pub record IsPathOf (log : LogPath) (origin : LogOrigin) : Type 0 where
  pub size : log.size ≡ origin.size
  pub timeline : 0 < origin.tli
  pub later : (number : ℕ) → origin.start / bytes_of origin.size ≤ number → origin.tli ≤ (segment_of log number).tli
  pub system : (wanted : ℕ) → log.system ≡ Some wanted → wanted ≡ origin.system

-- the bytes of a segment, of a log that begins at a position and goes on in zeros
abbrev pub segment_part : ℕ → ℕ → List ℕ → ℕ → List ℕ
segment_part size start bytes number = take size (drop (number * size - start) bytes ++ replicate size 0)

-- A tree has these bytes of a log from a position on, and then zeros: the file of each segment, from that of the start to
-- that which holds the end, has its bytes, and is whole.
pub record IsStored (log : LogPath) (contents : Contents) (start end : ℕ) (bytes : List ℕ) : Type 0 where
  pub file : (number : ℕ) → start / bytes_of log.size ≤ number → number ≤ end / bytes_of log.size
      → entry_at contents (below log.folder (name_of (segment_of log number) ∷ [])) ≡ Some (FileEntry (segment_part (bytes_of log.size) start bytes number))

-- what is read of a record, as it is appended
abbrev pub read_as : LogRecord → NewRecord
read_as r = new_record r.header.xid r.header.info r.header.manager r.body

-- why a log of a writer ends where it does: its last record ends at a page's end, and the next page has not begun; or what
-- follows it has no length
abbrev pub end_why : Written → Why
end_why w = if nat_lt w.origin.start w.end && w.end % 8192 == 0 then why.Page else why.ZeroLength

-- A log is what was written: its records, read as what was appended, are these, in order, each at its place; it ends where
-- the writer is, and why.
pub record IsReadBack (log : Log) (w : Written) (records : List NewRecord) : Type 0 where
  pub read : map read_as log.records ≡ records
  pub whole : log.records ≡ log_records (begun w.origin) records
  pub end : end_after w.origin.start log.records ≡ w.end
  pub place : log.place ≡ place_at (bytes_of w.origin.size) w.end
  pub why : log.why ≡ end_why w

-- The valid log of what a writer wrote, from the segment files of a tree, is that.
abbrev pub LogIsReadBack : Type 0
LogIsReadBack = (log : LogPath) (contents : Contents) (w : Written) (records : List NewRecord) → Wrote w records → IsPathOf log w.origin
    → IsStored log contents w.origin.start w.end (in_pages w.bytes)
    → IsReadBack (log_of (pages_of log contents) (bytes_of log.size) w.origin.start) w records
