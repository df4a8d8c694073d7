-- Texts of the managers Heap and Heap2: PostgreSQL 16, src/backend/access/rmgrdesc/heapdesc.c. Own: "Names and texts of operations".
use Rattle.std.specs.Prelude.{ℕ, List, [], ◌∷◌, codes, length}
use Rattle.record_layouts.specs.Heap.{heap_confirm_of, heap_delete_of, heap_inplace_of, heap_insert_of, heap_lock_of, heap_truncate_of, heap_update_of}
use Rattle.record_layouts.specs.Heap2.{heap_freeze_page_of, heap_prune_of, heap_vacuum_of, heap_visible_of, multi_insert_of}
use Rattle.record_layouts.specs.declared.heap.HeapConfirm.{HeapConfirm}
use Rattle.record_layouts.specs.declared.heap.HeapDelete.{HeapDelete}
use Rattle.record_layouts.specs.declared.heap.HeapInplace.{HeapInplace}
use Rattle.record_layouts.specs.declared.heap.HeapInsert.{HeapInsert}
use Rattle.record_layouts.specs.declared.heap.HeapLock.{HeapLock}
use Rattle.record_layouts.specs.declared.heap.HeapOp.{HeapOp}
use Rattle.record_layouts.specs.declared.heap.HeapOp.TheVariants as op
use Rattle.record_layouts.specs.declared.heap.HeapTruncate.{HeapTruncate}
use Rattle.record_layouts.specs.declared.heap.HeapUpdate.{HeapUpdate}
use Rattle.record_layouts.specs.declared.heap2.Heap2Op.{Heap2Op}
use Rattle.record_layouts.specs.declared.heap2.Heap2Op.TheVariants as op2
use Rattle.record_layouts.specs.declared.heap2.HeapFreezePage.{HeapFreezePage}
use Rattle.record_layouts.specs.declared.heap2.HeapMultiInsert.{HeapMultiInsert}
use Rattle.record_layouts.specs.declared.heap2.HeapPrune.{HeapPrune}
use Rattle.record_layouts.specs.declared.heap2.HeapVacuum.{HeapVacuum}
use Rattle.record_layouts.specs.declared.heap2.HeapVisible.{HeapVisible}
use Rattle.rmgr_desc.specs.Pieces.{fields, flags, number, or_short}

-- INSERT
abbrev pub insert_text : HeapInsert → List ℕ
insert_text r = fields (number (codes "off") r.off ∷ flags (codes "flags") r.flags ∷ [])

-- DELETE
abbrev pub delete_text : HeapDelete → List ℕ
delete_text r = fields (number (codes "xmax") r.xmax ∷ number (codes "off") r.off ∷ flags (codes "infobits") r.infobits ∷ flags (codes "flags") r.flags ∷ [])

-- UPDATE and HOT_UPDATE
abbrev pub update_text : HeapUpdate → List ℕ
update_text r =
    fields (number (codes "old_xmax") r.old_xmax ∷ number (codes "old_off") r.old_off ∷ flags (codes "old_infobits") r.old_infobits
    ∷ flags (codes "flags") r.flags ∷ number (codes "new_xmax") r.new_xmax ∷ number (codes "new_off") r.new_off ∷ [])

-- TRUNCATE
abbrev pub truncate_text : HeapTruncate → List ℕ
truncate_text r = fields (number (codes "nrelids") r.nrelids ∷ [])

-- HEAP_CONFIRM
abbrev pub confirm_text : HeapConfirm → List ℕ
confirm_text r = fields (number (codes "off") r.off ∷ [])

-- LOCK and LOCK_UPDATED
abbrev pub lock_text : HeapLock → List ℕ
lock_text r = fields (number (codes "xmax") r.xmax ∷ number (codes "off") r.off ∷ flags (codes "infobits") r.infobits ∷ flags (codes "flags") r.flags ∷ [])

-- INPLACE
abbrev pub inplace_text : HeapInplace → List ℕ
inplace_text r = fields (number (codes "off") r.off ∷ [])

-- the text of an operation of Heap with these main bytes
abbrev pub heap_text : HeapOp → List ℕ → List ℕ
heap_text (op.Insert init) main = or_short insert_text (heap_insert_of main)
heap_text op.Delete main = or_short delete_text (heap_delete_of main)
heap_text (op.Update init) main = or_short update_text (heap_update_of main)
heap_text op.Truncate main = or_short truncate_text (heap_truncate_of main)
heap_text (op.HotUpdate init) main = or_short update_text (heap_update_of main)
heap_text op.HeapConfirm main = or_short confirm_text (heap_confirm_of main)
heap_text op.Lock main = or_short lock_text (heap_lock_of main)
heap_text op.Inplace main = or_short inplace_text (heap_inplace_of main)

-- PRUNE
abbrev pub prune_text : HeapPrune → List ℕ
prune_text r = fields (number (codes "horizon") r.horizon ∷ number (codes "nredirected") r.nredirected ∷ number (codes "ndead") r.ndead ∷ [])

-- VACUUM
abbrev pub vacuum_text : HeapVacuum → List ℕ
vacuum_text r = fields (number (codes "nunused") r.nunused ∷ [])

-- FREEZE_PAGE
abbrev pub freeze_text : HeapFreezePage → List ℕ
freeze_text r = fields (number (codes "horizon") r.horizon ∷ number (codes "nplans") r.nplans ∷ [])

-- VISIBLE
abbrev pub visible_text : HeapVisible → List ℕ
visible_text r = fields (number (codes "horizon") r.horizon ∷ flags (codes "flags") r.flags ∷ [])

-- MULTI_INSERT
abbrev pub multi_insert_text : HeapMultiInsert → List ℕ
multi_insert_text r = fields (number (codes "ntuples") (length r.places) ∷ flags (codes "flags") r.flags ∷ [])

-- the text of an operation of Heap2 with these main bytes
abbrev pub heap2_text : Heap2Op → List ℕ → List ℕ
heap2_text op2.Rewrite main = []
heap2_text op2.Prune main = or_short prune_text (heap_prune_of main)
heap2_text op2.Vacuum main = or_short vacuum_text (heap_vacuum_of main)
heap2_text op2.FreezePage main = or_short freeze_text (heap_freeze_page_of main)
heap2_text op2.Visible main = or_short visible_text (heap_visible_of main)
heap2_text (op2.MultiInsert init) main = or_short multi_insert_text (multi_insert_of init main)
heap2_text op2.LockUpdated main = or_short lock_text (heap_lock_of main)
heap2_text op2.NewCid main = []
