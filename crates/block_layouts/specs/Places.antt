-- Places of lines in a block's bytes: PostgreSQL 16, src/include/storage/off.h, OffsetNumber, two bytes each.
use Rattle.std.specs.Prelude.{ℕ, ◌+◌, ◌*◌, List, Option}
use Rattle.layout.specs.Readers.{u16_at}
use Rattle.layout_readers.specs.Whole.{whole}
use Rattle.block_layouts.specs.Row.{row_of}

-- one place, and the offset behind it
abbrev pub place_at : List ℕ → ℕ → ℕ
place_at bytes at = u16_at at bytes

abbrev pub place_behind : List ℕ → ℕ → ℕ
place_behind bytes at = at + 2

-- so many places, the first at an offset
abbrev pub places_from : ℕ → List ℕ → ℕ → List ℕ
places_from count bytes at = row_of place_at place_behind count bytes at

-- so many places at the front
abbrev pub first_places_of : ℕ → List ℕ → Option (List ℕ)
first_places_of count bytes = whole (2 * count) bytes (places_from count bytes 0)
