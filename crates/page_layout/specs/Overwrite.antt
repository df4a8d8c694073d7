-- An item laid over the one that a line has: PostgreSQL 16, src/backend/storage/page/bufpage.c, PageIndexTupleOverwrite.
-- Own: "Items laid over others".
use Rattle.std.specs.Prelude.{ℕ, ◌+◌, ◌-◌, ◌&&◌, List, Bool, nat_le, nat_lt, length, Option, Some, None, Result, Ok, if◌then◌else◌}
use Rattle.page_layout.specs.Bytes.{up8}
use Rattle.page_layout.specs.Page.{count, is_place, lp_off, lp_flags, lp_len, well_formed}
use Rattle.page_layout.specs.Edits.{with_pointer, with_item, refuse_or}
use Rattle.page_layout.specs.Deletes.{raised, moved_lines}
use Rattle.page_layout.specs.declared.refusal.PageRefusal.{PageRefusal}
use Rattle.page_layout.specs.declared.refusal.PageRefusal.TheVariants.{BadPlace, NoRoom, BadPage}

-- does the line at this place have an item
abbrev pub has_item : List ℕ → ℕ → Bool
has_item p place = is_place p place && nat_lt 0 (lp_len p (place - 1))

-- why an item of this length can't be laid over the one at this place
abbrev pub overwrite_refusal : List ℕ → ℕ → ℕ → Option PageRefusal
overwrite_refusal p place len =
    if well_formed p then
    if has_item p place then (if nat_le (up8 len) (up8 (lp_len p (place - 1))) then None else Some NoRoom)
    else Some BadPlace
    else Some BadPage

-- how much less room an item of this length takes than line k's
abbrev pub room_left : List ℕ → ℕ → ℕ → ℕ
room_left p k len = up8 (lp_len p k) - up8 len

-- the bytes below line k's item moved up by `size`, and the lines that point there or to its first byte
abbrev pub moved_up : List ℕ → ℕ → ℕ → List ℕ
moved_up p k size = moved_lines (raised p (lp_off p k) size) (lp_off p k + 1) size (count p)

-- line k's item moved up by `size` with all below it, and there this one: its length in the line, its bytes on the page
abbrev pub overwritten_at : List ℕ → ℕ → List ℕ → ℕ → List ℕ
overwritten_at p k bytes size =
    with_item (with_pointer (moved_up p k size) k (lp_off p k + size) (lp_flags p k) (length bytes)) bytes (lp_off p k + size)

-- the item laid over line k's
abbrev pub overwritten : List ℕ → ℕ → List ℕ → List ℕ
overwritten p k bytes = overwritten_at p k bytes (room_left p k (length bytes))

-- overwrite an item
abbrev pub overwrite_item : List ℕ → ℕ → List ℕ → Result (List ℕ) PageRefusal
overwrite_item p place bytes = refuse_or (overwrite_refusal p place (length bytes)) (Ok (overwritten p (place - 1) bytes))
