-- Where a record ends: PostgreSQL 16, src/include/access/xlog_internal.h; src/backend/access/transam/xlogreader.c,
-- XLogDecodeNextRecord, on EndRecPtr and on XLOG_SWITCH.
use Rattle.std.specs.Prelude.{ℕ, ◌+◌, ◌-◌, ◌*◌, ◌/◌, ◌%◌, ◌==◌, ◌&&◌, Bool, List, [], ◌∷◌, min, if◌then◌else◌}
use Rattle.wal_pages.specs.Header.{header_size, page_of}
use Rattle.wal_records.specs.declared.header.RecordHeader.{RecordHeader}
use Rattle.wal_records.specs.Place.{segment_end_at}
use Rattle.wal_records.specs.Further.{FurtherPage, room, further}

-- the position behind the last byte of a record, over its further pages
abbrev pub behind_in : ℕ → ℕ → List FurtherPage → ℕ
behind_in size behind [] = behind
behind_in size behind (page ∷ rest) =
    behind_in size (page.at + (header_size size page.at + min page.left (room size page.at))) rest

-- the position behind the last byte of a record of so many bytes at a place
unfoldable pub behind_of : ℕ → ℕ → ℕ → ℕ
behind_of size place total =
    let first = min total (8192 - place % 8192) in
    behind_in size (place + first) (further size (page_of place + 8192) (total - first))

-- XLOG_SWITCH, after which the rest of the segment is empty: the operation 40 of manager 0
abbrev pub is_switch : RecordHeader → Bool
is_switch header = header.manager == 0 && header.info / 16 == 4

-- The end of a record whose last byte is behind this position: the next multiple of 8; that of a switch record is the
-- end of the segment that holds its last byte.
abbrev pub end_of : ℕ → RecordHeader → ℕ → ℕ
end_of size header behind = if is_switch header then segment_end_at size (behind - 1) else (behind + 7) / 8 * 8
