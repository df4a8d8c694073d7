-- Heap pages on which records are redone, and tuples that they name: PostgreSQL 16, src/backend/access/heap/heapam.c, heap_redo;
-- src/include/access/htup_details.h. Own: "Redo of heap pages".
use Rattle.std.specs.Prelude.{ℕ, ◌-◌, ◌==◌, ◌&&◌, List, Bool, nat_le, Ok, Err, if◌then◌else◌}
use Rattle.page_layout.specs.Page.{pd_special, well_formed, is_place, lp_flags, lp_len}
use Rattle.page_layout.specs.Edits.{trimmed, init_bytes}
use Rattle.page_layout.specs.declared.refusal.RedoWhy.TheVariants.{Place, PageShape}
use Rattle.page_masks.specs.Law.{Redone, and_then}
use Rattle.page_laws.specs.Change.{edited}
use Rattle.redo_steps.specs.Bits.{has_bit}
use Rattle.redo_steps.specs.Head.{without_all_visible}

-- a well formed page without special space
abbrev pub is_heap_page : List ℕ → Bool
is_heap_page p = well_formed p && pd_special p == 8192

-- the page without the unused lines at its end, with which redo of each record begins
abbrev pub trimmed_heap : List ℕ → Redone
trimmed_heap p = if is_heap_page p then Ok (trimmed p) else Err PageShape

-- the page on which redo of a record begins: where the record says that the page is made anew, an empty one
abbrev pub started : Bool → List ℕ → Redone
started init p = if init then Ok (init_bytes 0) else trimmed_heap p

-- redo of a record, from there on
abbrev pub on_heap : Bool → (List ℕ → Redone) → List ℕ → Redone
on_heap init redo p = and_then (started init p) redo

-- the place has a normal line with an item that holds a tuple's header, 23 bytes
abbrev pub has_tuple : List ℕ → ℕ → Bool
has_tuple p place = is_place p place && lp_flags p (place - 1) == 1 && nat_le 23 (lp_len p (place - 1))

-- the page with the tuple at a place changed
abbrev pub with_tuple : ℕ → (List ℕ → List ℕ) → List ℕ → List ℕ
with_tuple place change p = edited (place - 1) change p

-- the tuple at a place changed, if there is one
abbrev pub on_tuple : ℕ → (List ℕ → List ℕ) → List ℕ → Redone
on_tuple place change p = if has_tuple p place then Ok (with_tuple place change p) else Err Place

-- flag 1 of a record (XLH_.._ALL_VISIBLE_CLEARED): the page's tuples are no longer visible to all
abbrev pub visible_cleared : ℕ → List ℕ → List ℕ
visible_cleared flags p = if has_bit 1 flags then without_all_visible p else p
