-- The segment that a reset writes, with one record: PostgreSQL 16, src/bin/pg_resetwal/pg_resetwal.c, WriteEmptyXLOG; src/include/access/xlogrecord.h.
use Rattle.std.specs.Prelude.{ℕ, ◌-◌, List, [], ◌∷◌, ◌++◌, length, replicate}
use Rattle.control_file.specs.Writing.{checkpoint_bytes}
use Rattle.control_file.specs.declared.checkpoint.Checkpoint.{Checkpoint}
use Rattle.control_file.specs.declared.control.Control.{Control}
use Rattle.wal_base.specs.Segment.{bytes_of, start_of}
use Rattle.wal_base.specs.declared.segment.Segment.{Segment}
use Rattle.wal_records.specs.Writer.{NewRecord, log_bytes_of, new_record}
use Rattle.wal_records.specs.declared.log_origin.LogOrigin.{LogOrigin}

-- XLOG_CHECKPOINT_SHUTDOWN of the manager XLOG, of no transaction: the header of 88 main bytes, and the checkpoint
unfoldable pub checkpoint_record : Checkpoint → NewRecord
checkpoint_record cp = new_record 0 0 0 (255 ∷ 88 ∷ checkpoint_bytes cp)

-- where the new log begins
abbrev pub origin_of : ℕ → Segment → LogOrigin
origin_of system segment = record { start = (start_of segment).0; tli = segment.tli; system = system; size = segment.size }

-- its first page
unfoldable pub first_page : Control → Segment → List ℕ
first_page control segment = log_bytes_of (origin_of control.sysid segment) (checkpoint_record control.cp ∷ [])

-- and zeros up to the segment's end
unfoldable pub segment_bytes : Control → Segment → List ℕ
segment_bytes control segment = first_page control segment ++ replicate (bytes_of segment.size - length (first_page control segment)) 0
