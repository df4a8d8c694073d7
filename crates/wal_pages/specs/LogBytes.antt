-- The bytes of a log: PostgreSQL 16 manual, chapter "Continuous Archiving and Point-in-Time Recovery", section
-- "Timelines"; src/include/access/xlog_internal.h, XLByteToSeg and XLogSegmentOffset.
use Rattle.std.specs.Prelude.{◌≡◌, ℕ, ◌/◌, ◌%◌, ◌^◌, List, Option, None, option_and_then, nat_lt, slice_get, if◌then◌else◌}
use Rattle.wal_base.specs.Segment.{bytes_of, name_of}
use Rattle.wal_base.specs.Spans.{segment_tli}
use Rattle.wal_base.specs.declared.segment.Segment.{Segment}
use Rattle.wal_pages.specs.declared.log_path.LogPath.{LogPath}
use Rattle.wal_pages.specs.Folder.{Folder}

-- the segment of a number, on the timeline that it is read from
abbrev pub segment_of : LogPath → ℕ → Segment
segment_of log number = record { tli = segment_tli log.spans (bytes_of log.size) number; number = number; size = log.size }

-- the segment that holds a position
abbrev pub segment_at : LogPath → ℕ → Segment
segment_at log at = segment_of log (at / bytes_of log.size)

-- the bytes of the file of that segment's name. Positions end at 2 ^ 64.
abbrev pub segment_bytes : LogPath → Folder → ℕ → Option (List ℕ)
segment_bytes log files at = if nat_lt at (2 ^ 64) then files (name_of (segment_at log at)) else None

-- the byte of the log at a position
abbrev pub log_byte : LogPath → Folder → ℕ → Option ℕ
log_byte log files at = option_and_then (λ bytes. slice_get bytes (at % bytes_of log.size)) (segment_bytes log files at)

-- two folders have the same files of a log's segments
abbrev pub SameSegments : LogPath → Folder → Folder → Type 0
SameSegments log files others = (number : ℕ) → files (name_of (segment_of log number)) ≡ others (name_of (segment_of log number))
