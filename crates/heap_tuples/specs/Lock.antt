-- LOCK and LOCK_UPDATED: PostgreSQL 16, src/backend/access/heap/heapam.c, heap_xlog_lock, heap_xlog_lock_updated.
use Rattle.std.specs.Prelude.{ℕ, List, if◌then◌else◌}
use Rattle.page_masks.specs.Law.{Redone}
use Rattle.record_layouts.specs.declared.heap.HeapLock.{HeapLock}
use Rattle.redo_steps.specs.Bits.{locks_only}
use Rattle.redo_steps.specs.Tuple.{with_xmax, with_ctid, with_told_bits, with_hot_off, with_first_cid}
use Rattle.heap_tuples.specs.Heap.{on_tuple}

-- a tuple that is only locked has no later version
abbrev pub unlinked : ℕ → HeapLock → List ℕ → List ℕ
unlinked block op t = if locks_only op.infobits then with_ctid block op.off (with_hot_off t) else t

-- the tuple locked
abbrev pub locked_tuple : ℕ → HeapLock → List ℕ → List ℕ
locked_tuple block op t = with_first_cid (with_xmax op.xmax (unlinked block op (with_told_bits op.infobits t)))

-- .. and as a later version of a tuple that is
abbrev pub locked_version : HeapLock → List ℕ → List ℕ
locked_version op t = with_xmax op.xmax (with_told_bits op.infobits t)

-- LOCK
abbrev pub lock_page : ℕ → HeapLock → List ℕ → Redone
lock_page block op p = on_tuple op.off (locked_tuple block op) p

-- LOCK_UPDATED
abbrev pub lock_updated_page : HeapLock → List ℕ → Redone
lock_updated_page op p = on_tuple op.off (locked_version op) p
