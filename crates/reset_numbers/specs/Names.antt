-- The names of a log's files, and the segment behind them all: PostgreSQL 16, src/include/access/xlog_internal.h, IsXLogFileName and IsPartialXLogFileName;
-- src/bin/pg_resetwal/pg_resetwal.c, FindEndOfXLOG, KillExistingXLOG and KillExistingArchiveStatus.
use Rattle.std.specs.Prelude.{ℕ, ◌+◌, ◌-◌, ◌*◌, ◌/◌, ◌^◌, Bool, false, ◌&&◌, ◌||◌, List, length, take, drop, filter, map, fold, max, codes, bytes_eq, nat_le, Option}
use Rattle.std.specs.Option.{option_map_or}
use Rattle.archive_names.specs.Cleanup.{is_segment}
use Rattle.wal_base.specs.Hex.{hex_value}
use Rattle.wal_base.specs.Segment.{low_part, segments_per_high}

-- a name that has this end, and before it that of a segment's file, finished or not
abbrev pub is_segment_with : List ℕ → List ℕ → Bool
is_segment_with end name = bytes_eq (drop (length name - length end) name) end && is_segment (take (length name - length end) name)

-- that of a file in pg_wal/archive_status which says of a segment that it is to be archived, or was
unfoldable pub is_status : List ℕ → Bool
is_status name = is_segment_with (codes ".ready") name || is_segment_with (codes ".done") name

-- the number of the segment with these 24 digits, where so many have positions with one high half: the second eight, times as many,
-- and the third eight
abbrev pub digits_number : ℕ → List ℕ → ℕ
digits_number per_high digits = hex_value (take 8 (drop 8 digits)) * per_high + low_part digits

-- and of the file of a segment of so many bytes
unfoldable pub number_named : ℕ → List ℕ → ℕ
number_named bytes name = digits_number (segments_per_high bytes) (take 24 name)

-- the greatest number among these names of segments' files, and at least this one
unfoldable pub greatest_named : ℕ → ℕ → List (List ℕ) → ℕ
greatest_named bytes least names = fold max least (map (number_named bytes) (filter is_segment names))

-- the number of the first segment, of the new size, behind the last byte of a segment of the old size
abbrev pub next_number : ℕ → ℕ → ℕ → ℕ
next_number old new number = (number * old + old - 1) / new + 1

-- or that of the segment that is given (-l), by its second and third eight digits, where that is greater
abbrev pub given_number : ℕ → Option (ℕ × ℕ × ℕ) → ℕ → ℕ
given_number bytes given number = option_map_or (λ log. max number (log.1 * segments_per_high bytes + log.2)) given number

-- the third eight digits of the segment that is given are no number within one high half
abbrev pub is_low_past : ℕ → Option (ℕ × ℕ × ℕ) → Bool
is_low_past bytes given = option_map_or (λ log. nat_le (segments_per_high bytes) log.2) given false

-- that is so, or the new segment would reach the position 2 ^ 63
abbrev pub is_past : ℕ → Option (ℕ × ℕ × ℕ) → ℕ → Bool
is_past bytes given number = is_low_past bytes given || nat_le (2 ^ 63) (given_number bytes given number * bytes)
