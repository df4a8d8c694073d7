-- Places of records in the pages of a log: PostgreSQL 16, src/include/access/xlog_internal.h, XLogPageHeaderSize;
-- src/backend/access/transam/xlogreader.c, XLogReadRecord and XLogFindNextRecord.
use Rattle.std.specs.Prelude.{ℕ, ◌+◌, ◌*◌, ◌/◌, ◌%◌, ◌==◌, ◌&&◌, Bool, nat_le, if◌then◌else◌}
use Rattle.wal_pages.specs.Header.{header_size, page_of}

-- the position itself, but at a page's start the first one behind the page's header
abbrev pub place_at : ℕ → ℕ → ℕ
place_at size at = if at % 8192 == 0 then at + header_size size at else at

-- a record can start there: at a multiple of 8 that isn't in its page's header
abbrev pub is_place : ℕ → ℕ → Bool
is_place size at = at % 8 == 0 && nat_le (header_size size (page_of at)) (at % 8192)

-- where the segment ends that holds a position
abbrev pub segment_end_at : ℕ → ℕ → ℕ
segment_end_at size at = (at / size + 1) * size
