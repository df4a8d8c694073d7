-- Index tuples in a block's bytes: PostgreSQL 16, src/include/access/itup.h, IndexTupleData, IndexTupleSize;
-- src/backend/access/nbtree/nbtxlog.c, _bt_restore_page.
use Rattle.std.specs.Prelude.{ℕ, zero, suc, ◌+◌, ◌*◌, ◌/◌, ◌%◌, ◌==◌, ◌&&◌, Bool, List, length, take, drop, Option, Some, None, option_map, nat_le, if◌then◌else◌}
use Rattle.layout.specs.Readers.{u16_at}
use Rattle.block_layouts.specs.Row.{row_of, whole_end}

-- the size that a tuple's own header tells: the low 13 bits of the two bytes at 6 (INDEX_SIZE_MASK)
abbrev pub told_size : List ℕ → ℕ → ℕ
told_size bytes at = u16_at (at + 6) bytes % 8192

-- how many bytes the tuple takes: its size, rounded up to 8 (MAXALIGN)
abbrev pub item_size : List ℕ → ℕ → ℕ
item_size bytes at = (told_size bytes at + 7) / 8 * 8

-- the tuple's bytes, and the offset behind it
abbrev pub item_at : List ℕ → ℕ → List ℕ
item_at bytes at = take (item_size bytes at) (drop at bytes)

abbrev pub item_behind : List ℕ → ℕ → ℕ
item_behind bytes at = at + item_size bytes at

-- the tuple is there: its header of eight bytes, a size above 0, and as many bytes
abbrev pub item_stands : List ℕ → ℕ → Bool
item_stands bytes at =
    nat_le (at + 8) (length bytes) && (nat_le 1 (told_size bytes at) && nat_le (item_behind bytes at) (length bytes))

-- so many tuples from an offset on, and the offset behind them, where all are there
abbrev pub items_from : ℕ → List ℕ → ℕ → List (List ℕ)
items_from count bytes at = row_of item_at item_behind count bytes at

abbrev pub items_end : ℕ → List ℕ → ℕ → Option ℕ
items_end count bytes at = whole_end item_stands item_behind count bytes at

-- how many tuples the bytes from an offset on are, if they are fewer than so many
abbrev pub count_below : ℕ → List ℕ → ℕ → Option ℕ
count_below zero bytes at = None
count_below (suc more) bytes at =
    if at == length bytes then Some 0
    else if item_stands bytes at then option_map (λ n. suc n) (count_below more bytes (item_behind bytes at))
    else None

-- the tuples that the bytes are, in the order of the bytes
unfoldable pub restored_tuples_of : List ℕ → Option (List (List ℕ))
restored_tuples_of bytes = option_map (λ n. items_from n bytes 0) (count_below (suc (length bytes)) bytes 0)
