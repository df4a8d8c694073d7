-- DELETE: PostgreSQL 16, src/backend/access/heap/heapam.c, heap_xlog_delete; src/include/access/heapam_xlog.h, XLH_DELETE_...
use Rattle.std.specs.Prelude.{ℕ, List, Ok, Err, if◌then◌else◌}
use Rattle.page_layout.specs.declared.refusal.RedoWhy.TheVariants.{Place}
use Rattle.page_masks.specs.Law.{Redone}
use Rattle.record_layouts.specs.declared.heap.HeapDelete.{HeapDelete}
use Rattle.redo_steps.specs.Bits.{has_bit}
use Rattle.redo_steps.specs.Tuple.{with_xmin, with_xmax, with_ctid, with_moved_ctid, with_told_bits, with_hot_off, with_first_cid}
use Rattle.redo_steps.specs.Head.{prunable}
use Rattle.heap_tuples.specs.Heap.{has_tuple, with_tuple, visible_cleared}

-- flag 8, XLH_DELETE_IS_SUPER: a speculative insertion is taken back
abbrev pub with_deleter : HeapDelete → List ℕ → List ℕ
with_deleter op t = if has_bit 8 op.flags then with_xmin 0 t else with_xmax op.xmax t

-- flag 10, XLH_DELETE_IS_PARTITION_MOVE; else the tuple is its own last version
abbrev pub with_last_ctid : ℕ → HeapDelete → List ℕ → List ℕ
with_last_ctid block op t = if has_bit 0x10 op.flags then with_moved_ctid t else with_ctid block op.off t

-- the tuple deleted
abbrev pub deleted_tuple : ℕ → HeapDelete → List ℕ → List ℕ
deleted_tuple block op t =
    with_last_ctid block op (with_deleter op (with_first_cid (with_hot_off (with_told_bits op.infobits t))))

-- DELETE by this transaction, on a page of this block
abbrev pub delete_page : ℕ → ℕ → HeapDelete → List ℕ → Redone
delete_page xid block op p =
    if has_tuple p op.off
    then Ok (visible_cleared op.flags (prunable xid (with_tuple op.off (deleted_tuple block op) p)))
    else Err Place
