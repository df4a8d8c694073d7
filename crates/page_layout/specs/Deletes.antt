-- Lines taken out of a page with their items: PostgreSQL 16, src/backend/storage/page/bufpage.c, PageIndexTupleDelete and PageIndexMultiDelete.
use Rattle.std.specs.Prelude.{ℕ, zero, suc, ◌+◌, ◌-◌, ◌*◌, ◌==◌, ◌&&◌, ◌||◌, List, [], ◌∷◌, Bool, true, nat_le, nat_lt, length, Option, Some, None, Result, Ok, if◌then◌else◌}
use Rattle.layout.specs.Splice.{splice}
use Rattle.page_layout.specs.Bytes.{with_u16, cut, up8}
use Rattle.page_layout.specs.Page.{pd_lower, pd_upper, count, lp_off, lp_flags, lp_len, well_formed}
use Rattle.page_layout.specs.Edits.{with_pointer, refuse_or}
use Rattle.page_layout.specs.Pack.{room_refusal, packed}
use Rattle.page_layout.specs.declared.refusal.PageRefusal.{PageRefusal}
use Rattle.page_layout.specs.declared.refusal.PageRefusal.TheVariants.{BadPlace, BadPage}

-- places of the first `lines` lines, each above the one before
abbrev pub are_places : ℕ → ℕ → List ℕ → Bool
are_places lines before [] = true
are_places lines before (place ∷ places) = nat_lt before place && nat_le place lines && are_places lines place places

-- line k taken out, the later ones moved down
abbrev pub without_line : List ℕ → ℕ → List ℕ
without_line p k =
    with_u16 (splice p (24 + 4 * k) (cut p (28 + 4 * k) (pd_lower p - (28 + 4 * k)))) 12 (pd_lower p - 4)

-- the lines at these places taken out, the last one first
abbrev pub without_lines : List ℕ → List ℕ → List ℕ
without_lines p [] = p
without_lines p (place ∷ places) = without_line (without_lines p places) (place - 1)

-- the bytes from upper up to `at` moved up by `size`, and upper with them
abbrev pub raised : List ℕ → ℕ → ℕ → List ℕ
raised p at size = with_u16 (splice p (pd_upper p + size) (cut p (pd_upper p) (at - pd_upper p))) 14 (pd_upper p + size)

-- line n, if its item lies below `at`, follows it up by `size`
abbrev pub moved_line : ℕ → ℕ → ℕ → List ℕ → List ℕ
moved_line at size n p =
    if nat_lt 0 (lp_len p n) && nat_lt (lp_off p n) at
    then with_pointer p n (lp_off p n + size) (lp_flags p n) (lp_len p n)
    else p

-- so do the first n lines
abbrev pub moved_lines : List ℕ → ℕ → ℕ → ℕ → List ℕ
moved_lines p at size zero = p
moved_lines p at size (suc n) = moved_line at size n (moved_lines p at size n)

-- the bytes below line k's item moved over it, and the lines that point there
abbrev pub closed_up : List ℕ → ℕ → List ℕ
closed_up p k =
    if nat_lt 0 (lp_len p k)
    then moved_lines (raised p (lp_off p k) (up8 (lp_len p k))) (lp_off p k) (up8 (lp_len p k)) (count p)
    else p

-- line k taken out with its item
abbrev pub without_item : List ℕ → ℕ → List ℕ
without_item p k = without_line (closed_up p k) k

-- the lines at these places taken out with their items, the last one first
abbrev pub without_items : List ℕ → List ℕ → List ℕ
without_items p [] = p
without_items p (place ∷ places) = without_item (without_items p places) (place - 1)

-- the items of lines j and k, lengths rounded up to 8, don't overlap
abbrev pub is_apart : List ℕ → ℕ → ℕ → Bool
is_apart p j k =
    lp_len p j == 0 || lp_len p k == 0
    || nat_le (lp_off p j + up8 (lp_len p j)) (lp_off p k) || nat_le (lp_off p k + up8 (lp_len p k)) (lp_off p j)

-- line k's item and those of the first n lines don't
abbrev pub apart_below : List ℕ → ℕ → ℕ → Bool
apart_below p k zero = true
apart_below p k (suc n) = apart_below p k n && is_apart p n k

-- no items of the first n lines do
abbrev pub all_apart : List ℕ → ℕ → Bool
all_apart p zero = true
all_apart p (suc n) = all_apart p n && apart_below p n n

-- why these places can't be deleted, want of room aside
abbrev pub places_refusal : List ℕ → List ℕ → Option PageRefusal
places_refusal p places =
    if well_formed p then (if are_places (count p) 0 places then None else Some BadPlace) else Some BadPage

-- packed, if the items fit
abbrev pub packed_if_room : List ℕ → Result (List ℕ) PageRefusal
packed_if_room p = refuse_or (room_refusal p) (Ok (packed p))

-- up to two places one by one, where no items overlap; else the lines alone, and then all is packed
abbrev pub deleted : List ℕ → List ℕ → Result (List ℕ) PageRefusal
deleted p places =
    if nat_le (length places) 2 && all_apart p (count p) then Ok (without_items p places)
    else packed_if_room (without_lines p places)

-- delete items
abbrev pub delete_items : List ℕ → List ℕ → Result (List ℕ) PageRefusal
delete_items p places = refuse_or (places_refusal p places) (deleted p places)
