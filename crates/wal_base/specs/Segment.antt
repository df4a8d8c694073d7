-- Segment files and their names: PostgreSQL 16, src/include/access/xlog_internal.h, XLByteToSeg, XLogFileName and
-- XLogFromFileName.
use Rattle.std.specs.Prelude.{◌≡◌, ℕ, ◌+◌, ◌*◌, ◌/◌, ◌%◌, ◌^◌, ◌<◌, ◌&&◌, Bool, List, ◌++◌, Option, Some, None, take, drop, nat_lt, if◌then◌else◌}
use Rattle.wal_base.specs.declared.lsn.Lsn.{Lsn}
use Rattle.wal_base.specs.declared.seg_size.SegSize.{SegSize}
use Rattle.wal_base.specs.declared.segment.Segment.{Segment}
use Rattle.wal_base.specs.Hex.{hex8, hex_value, is_long_name}

-- how many bytes a segment has
abbrev pub bytes_of : SegSize → ℕ
bytes_of size = size.bytes

-- how many segments have positions with one high half
abbrev pub segments_per_high : ℕ → ℕ
segments_per_high bytes = 2 ^ 32 / bytes

-- the name of a segment file: the timeline, the high half of its positions, and its number among those
abbrev pub segment_name : ℕ → ℕ → ℕ → List ℕ
segment_name bytes tli number =
    hex8 tli ++ hex8 (number / segments_per_high bytes) ++ hex8 (number % segments_per_high bytes)

-- the position of a segment's first byte
abbrev pub start_of : Segment → Lsn
start_of segment = record { 0 = segment.number * bytes_of segment.size }

-- the name of a segment
abbrev pub name_of : Segment → List ℕ
name_of segment = segment_name (bytes_of segment.size) segment.tli segment.number

-- the third part of a name, as a number
abbrev pub low_part : List ℕ → ℕ
low_part text = hex_value (drop 16 text)

-- 24 digits 0 to 9 and A to F, of which the last eight number a segment of one high half
abbrev pub is_segment_name : ℕ → List ℕ → Bool
is_segment_name bytes text =
    is_long_name text && nat_lt (low_part text) (segments_per_high bytes)

-- the segment of this size that a text names
unfoldable pub segment_named : SegSize → List ℕ → Option Segment
segment_named size text =
    if is_segment_name (bytes_of size) text then Some record {
      tli = hex_value (take 8 text);
      number = hex_value (take 8 (drop 8 text)) * segments_per_high (bytes_of size) + low_part text;
      size = size;
    } else None

-- a segment of this size within the log, with this name
pub record NamesSegment (size : SegSize) (text : List ℕ) (segment : Segment) : Type 0 where
  pub sized : segment.size ≡ size
  pub timeline : segment.tli < 2 ^ 32
  pub within : segment.number * bytes_of size < 2 ^ 64
  pub name : name_of segment ≡ text
