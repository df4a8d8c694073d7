-- The intervals of a DEDUP: PostgreSQL 16, src/include/access/nbtxlog.h, xl_btree_dedup; src/include/access/nbtree.h,
-- BTDedupInterval, four bytes each.
use Rattle.std.specs.Prelude.{ℕ, ◌+◌, ◌*◌, List, Option}
use Rattle.layout.specs.Readers.{u16_at}
use Rattle.layout_readers.specs.Whole.{whole}
use Rattle.block_layouts.specs.declared.dedup.Interval.{Interval}
use Rattle.block_layouts.specs.Row.{row_of}

-- one interval, and the offset behind it
abbrev pub interval_at : List ℕ → ℕ → Interval
interval_at bytes at = record { base = u16_at at bytes; count = u16_at (at + 2) bytes }

abbrev pub interval_behind : List ℕ → ℕ → ℕ
interval_behind bytes at = at + 4

-- so many intervals, the first at an offset
abbrev pub intervals_from : ℕ → List ℕ → ℕ → List Interval
intervals_from count bytes at = row_of interval_at interval_behind count bytes at

-- so many intervals at the front
abbrev pub dedup_intervals_of : ℕ → List ℕ → Option (List Interval)
dedup_intervals_of count bytes = whole (4 * count) bytes (intervals_from count bytes 0)
