-- INSERT: PostgreSQL 16, src/backend/access/heap/heapam.c, heap_xlog_insert; src/include/access/heapam_xlog.h, XLH_INSERT_...
use Rattle.std.specs.Prelude.{ℕ, List, Ok, if◌then◌else◌}
use Rattle.page_masks.specs.Law.{Redone, and_then}
use Rattle.block_layouts.specs.Tuple.{TupleView}
use Rattle.record_layouts.specs.declared.heap.HeapInsert.{HeapInsert}
use Rattle.redo_steps.specs.Bits.{has_bit}
use Rattle.redo_steps.specs.Head.{with_all_visible}
use Rattle.heap_tuples.specs.Heap.{visible_cleared}
use Rattle.heap_tuples.specs.Put.{put_tuple}
use Rattle.heap_pages.specs.NewTuple.{new_tuple}

-- flag 20, XLH_INSERT_ALL_FROZEN_SET: all of the page's tuples are visible to all
abbrev pub visible_told : ℕ → List ℕ → List ℕ
visible_told flags p = if has_bit 0x20 flags then with_all_visible (visible_cleared flags p) else visible_cleared flags p

-- INSERT by this transaction, on a page of this block
abbrev pub insert_page : ℕ → ℕ → HeapInsert → TupleView → List ℕ → Redone
insert_page xid block op tuple p =
    and_then (put_tuple op.off (new_tuple xid 0 block op.off tuple) p) (λ q. Ok (visible_told op.flags q))
