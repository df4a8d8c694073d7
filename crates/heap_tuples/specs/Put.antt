-- A new tuple on a heap page: PostgreSQL 16, src/include/access/htup_details.h, MaxHeapTuplesPerPage. Own: "Redo of heap pages".
use Rattle.std.specs.Prelude.{ℕ, ◌+◌, ◌-◌, ◌*◌, ◌&&◌, ◌||◌, List, Bool, nat_le, nat_lt, true, length, replicate, Option, Some, None, Ok, if◌then◌else◌}
use Rattle.layout.specs.Splice.{splice}
use Rattle.page_layout.specs.Bytes.{with_u16, up8}
use Rattle.page_layout.specs.Page.{pd_lower, pd_upper, count}
use Rattle.page_layout.specs.Edits.{is_free, added, refuse_or}
use Rattle.page_layout.specs.declared.refusal.RedoWhy.{RedoWhy}
use Rattle.page_layout.specs.declared.refusal.RedoWhy.TheVariants.{Place, Room}
use Rattle.page_masks.specs.Law.{Redone}

-- a new tuple may come to this place: it is one of 291, and its line is not there or is unused, with length 0
abbrev pub is_open : List ℕ → ℕ → Bool
is_open p place = nat_lt 0 place && nat_le place 291 && (nat_lt (count p) place || is_free p (place - 1))

-- where the lines end once there is one at this place
abbrev pub lower_with : List ℕ → ℕ → ℕ
lower_with p place = if nat_lt (count p) place then 24 + 4 * place else pd_lower p

-- an item of this length fits beside them
abbrev pub has_room_at : List ℕ → ℕ → ℕ → Bool
has_room_at p place len = nat_le (lower_with p place + up8 len) (pd_upper p)

-- the page with so many lines, the new ones unused
abbrev pub extended : List ℕ → ℕ → List ℕ
extended p lines = with_u16 (splice p (pd_lower p) (replicate (4 * (lines - count p)) 0)) 12 (24 + 4 * lines)

-- the page with at least so many lines
abbrev pub filled : List ℕ → ℕ → List ℕ
filled p lines = if nat_lt (count p) lines then extended p lines else p

-- why no tuple of this length comes to this place
abbrev pub put_refusal : List ℕ → ℕ → ℕ → Option RedoWhy
put_refusal p place len =
    if is_open p place then (if has_room_at p place len then None else Some Room) else Some Place

-- a tuple added at a place
abbrev pub put_tuple : ℕ → List ℕ → List ℕ → Redone
put_tuple place tuple p =
    refuse_or (put_refusal p place (length tuple)) (Ok (added (filled p (place - 1)) tuple place true))
