-- MULTI_INSERT: PostgreSQL 16, src/backend/access/heap/heapam.c, heap_xlog_multi_insert; src/include/access/heapam_xlog.h, xl_heap_multi_insert.
-- Own: "Redo of heap pages", all places are judged before any room.
use Rattle.std.specs.Prelude.{ℕ, ◌==◌, ◌&&◌, List, [], ◌∷◌, Bool, true, false, nat_le, length, Ok, Err, if◌then◌else◌}
use Rattle.std.specs.List.{list_all, list_any}
use Rattle.page_layout.specs.declared.refusal.RedoWhy.TheVariants.{Place}
use Rattle.page_masks.specs.Law.{Redone, and_then}
use Rattle.block_layouts.specs.Tuple.{TupleView}
use Rattle.heap_tuples.specs.Put.{is_open, put_tuple}
use Rattle.heap_pages.specs.NewTuple.{new_tuple}
use Rattle.heap_pages.specs.Insert.{visible_told}

-- no place comes twice
abbrev pub are_distinct : List ℕ → Bool
are_distinct [] = true
are_distinct (place ∷ places) = (if list_any (λ other. other == place) places then false else true) && are_distinct places

-- new tuples may come to these places, of which a page has 291
abbrev pub are_open : List ℕ → List ℕ → Bool
are_open p places = nat_le (length places) 291 && list_all (is_open p) places && are_distinct places

-- the tuples added, each at its place, one after the other
abbrev pub put_tuples : ℕ → ℕ → List ℕ → List TupleView → List ℕ → Redone
put_tuples xid block places [] p = Ok p
put_tuples xid block [] (tuple ∷ tuples) p = Ok p
put_tuples xid block (place ∷ places) (tuple ∷ tuples) p =
    and_then (put_tuple place (new_tuple xid 0 block place tuple) p) (put_tuples xid block places tuples)

-- MULTI_INSERT with these flags, by this transaction, on a page of this block
abbrev pub multi_insert_page : ℕ → ℕ → ℕ → List ℕ → List TupleView → List ℕ → Redone
multi_insert_page xid block flags places tuples p =
    if are_open p places then and_then (put_tuples xid block places tuples p) (λ q. Ok (visible_told flags q)) else Err Place
