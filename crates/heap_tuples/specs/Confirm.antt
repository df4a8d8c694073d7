-- HEAP_CONFIRM: PostgreSQL 16, src/backend/access/heap/heapam.c, heap_xlog_confirm.
use Rattle.std.specs.Prelude.{ℕ, List}
use Rattle.page_masks.specs.Law.{Redone}
use Rattle.record_layouts.specs.declared.heap.HeapConfirm.{HeapConfirm}
use Rattle.redo_steps.specs.Tuple.{with_ctid}
use Rattle.heap_tuples.specs.Heap.{on_tuple}

-- the tuple's address is its own, and no longer that of a speculative insertion
abbrev pub confirm_page : ℕ → HeapConfirm → List ℕ → Redone
confirm_page block op p = on_tuple op.off (with_ctid block op.off) p
