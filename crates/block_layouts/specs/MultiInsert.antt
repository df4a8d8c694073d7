-- The tuples of a MULTI_INSERT: PostgreSQL 16, src/include/access/heapam_xlog.h, xl_multi_insert_tuple;
-- src/backend/access/heap/heapam.c, heap_xlog_multi_insert.
use Rattle.std.specs.Prelude.{ℕ, ◌+◌, ◌%◌, ◌==◌, ◌&&◌, Bool, false, List, length, take, drop, Option, Some, None, nat_le, if◌then◌else◌}
use Rattle.layout.specs.Readers.{u16_at}
use Rattle.block_layouts.specs.Row.{row_of, whole_end}
use Rattle.block_layouts.specs.Tuple.{TupleView, header_at}

-- an offset, or the next one where it is odd: each tuple begins at an even offset (SHORTALIGN)
abbrev pub even : ℕ → ℕ
even at = at + at % 2

-- the length that stands in front of a tuple: that of its bytes from 23 on
abbrev pub tuple_length : List ℕ → ℕ → ℕ
tuple_length bytes at = u16_at (even at) bytes

-- the offset behind a tuple, whose length and header have seven bytes
abbrev pub tuple_behind : List ℕ → ℕ → ℕ
tuple_behind bytes at = even at + 7 + tuple_length bytes at

-- the tuple is there
abbrev pub tuple_stands : List ℕ → ℕ → Bool
tuple_stands bytes at = nat_le (even at + 7) (length bytes) && nat_le (tuple_behind bytes at) (length bytes)

-- the tuple that begins at an offset or, where that is odd, right behind it
abbrev pub tuple_at : List ℕ → ℕ → TupleView
tuple_at bytes at = record {
  header = header_at (even at + 2) bytes;
  bytes = take (tuple_length bytes at) (drop (even at + 7) bytes);
}

-- so many tuples from an offset on
abbrev pub tuples_from : ℕ → List ℕ → ℕ → List TupleView
tuples_from count bytes at = row_of tuple_at tuple_behind count bytes at

-- the offset behind them, where all are there
abbrev pub tuples_end : ℕ → List ℕ → ℕ → Option ℕ
tuples_end count bytes at = whole_end tuple_stands tuple_behind count bytes at

-- this offset is where the bytes end
abbrev pub is_end : List ℕ → Option ℕ → Bool
is_end bytes None = false
is_end bytes (Some end) = end == length bytes

-- so many tuples, which are all of the bytes
unfoldable pub multi_insert_tuples_of : ℕ → List ℕ → Option (List TupleView)
multi_insert_tuples_of count bytes =
    if is_end bytes (tuples_end count bytes 0) then Some (tuples_from count bytes 0) else None
