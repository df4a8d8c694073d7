-- DELETE, HEAP_CONFIRM, LOCK and LOCK_UPDATED: changes of a tuple that its mask determines.
use Rattle.std.proofs.Common.{◌≡◌, ℕ, ◌+◌, ◌-◌, List, Bool, true, false, Ok, refl, arith}
use Rattle.std.specs.Prelude.{if◌then◌else◌}
use Rattle.page_layout.specs.Bytes.{u32_bytes}
use Rattle.page_masks.specs.Law.{view, SameMasks}
use Rattle.page_masks.specs.Mask.{mask, tid_bytes}
use Rattle.page_laws.specs.Change.{ItemChange}
use Rattle.page_laws.specs.Results.{TrimmedHeap}
use Rattle.page_laws.proofs.TupleChanges.{low_change, address_change, infomask2_change, infomask_change, both_changes}
use Rattle.record_layouts.specs.declared.heap.HeapDelete.{HeapDelete}
use Rattle.record_layouts.specs.declared.heap.HeapConfirm.{HeapConfirm}
use Rattle.record_layouts.specs.declared.heap.HeapLock.{HeapLock}
use Rattle.redo_steps.specs.Bits.{has_bit, locks_only, told_infomask, told_infomask2, hot_off, without_combo}
use Rattle.redo_steps.specs.Tuple.{with_xmin, with_xmax, with_ctid, with_moved_ctid, with_infomask, with_infomask2, with_field3, with_told_bits, with_hot_off, with_first_cid}
use Rattle.redo_steps.specs.Head.{prunable}
use Rattle.heap_tuples.specs.Heap.{visible_cleared}
use Rattle.heap_tuples.specs.Delete.{with_deleter, with_last_ctid, deleted_tuple, delete_page}
use Rattle.heap_tuples.specs.Confirm.{confirm_page}
use Rattle.heap_tuples.specs.Lock.{unlinked, locked_tuple, locked_version, lock_page, lock_updated_page}
use Rattle.heap_tuples.proofs.MaskBits.{told_determined, combo_determined}
use Rattle.heap_tuples.proofs.TupleLaws.{changed_respects, changed_keeps, nothing_more, deleted_head}

module _ (block n : ℕ) where
  xmin_change : (xid : ℕ) → ItemChange block n (with_xmin xid)
  xmin_change xid = low_change block n 0 (u32_bytes xid) (omega arith)

  pub xmax_change : (xid : ℕ) → ItemChange block n (with_xmax xid)
  xmax_change xid = low_change block n 4 (u32_bytes xid) (omega arith)

  pub ctid_change : (b place : ℕ) → ItemChange block n (with_ctid b place)
  ctid_change b place = address_change block n (tid_bytes b place) refl

  pub hot_off_change : ItemChange block n with_hot_off
  hot_off_change = infomask2_change block n hot_off

  pub told_change : (infobits : ℕ) → ItemChange block n (with_told_bits infobits)
  told_change infobits =
      both_changes block n (with_infomask (told_infomask infobits)) (with_infomask2 (told_infomask2 infobits))
      (infomask_change block n (told_infomask infobits) (told_determined infobits)) (infomask2_change block n (told_infomask2 infobits))

  pub cid_change : ItemChange block n with_first_cid
  cid_change = both_changes block n (with_infomask without_combo) (with_field3 0) (infomask_change block n without_combo combo_determined) (low_change block n 8 (u32_bytes 0) (omega arith))

  -- DELETE
  deleter_change : (op : HeapDelete) → ItemChange block n (with_deleter op)
  deleter_change op = by_case (has_bit 8 op.flags)
    where
      by_case : (b : Bool) → ItemChange block n (λ t. if b then with_xmin 0 t else with_xmax op.xmax t)
      by_case true = xmin_change 0
      by_case false = xmax_change op.xmax

  last_ctid_change : (own : ℕ) (op : HeapDelete) → ItemChange block n (with_last_ctid own op)
  last_ctid_change own op = by_case (has_bit 0x10 op.flags)
    where
      by_case : (b : Bool) → ItemChange block n (λ t. if b then with_moved_ctid t else with_ctid own op.off t)
      by_case true = ctid_change 0xFFFFFFFF 0xFFFD
      by_case false = ctid_change own op.off

  pub deleted_change : (own : ℕ) (op : HeapDelete) → ItemChange block n (deleted_tuple own op)
  deleted_change own op =
      let a = both_changes block n (with_told_bits op.infobits) with_hot_off (told_change op.infobits) hot_off_change in
      let b = both_changes block n (λ t. with_hot_off (with_told_bits op.infobits t)) with_first_cid a cid_change in
      let c = both_changes block n (λ t. with_first_cid (with_hot_off (with_told_bits op.infobits t))) (with_deleter op) b (deleter_change op) in
      both_changes block n (λ t. with_deleter op (with_first_cid (with_hot_off (with_told_bits op.infobits t)))) (with_last_ctid own op) c (last_ctid_change own op)

  -- LOCK and LOCK_UPDATED
  pub same_change : ItemChange block n (λ t. t)
  same_change = record { size = λ x long. refl; mask = λ x y long size same. same }

  unlinked_change : (own : ℕ) (op : HeapLock) → ItemChange block n (unlinked own op)
  unlinked_change own op = by_case (locks_only op.infobits)
    where
      by_case : (b : Bool) → ItemChange block n (λ t. if b then with_ctid own op.off (with_hot_off t) else t)
      by_case true = both_changes block n with_hot_off (with_ctid own op.off) hot_off_change (ctid_change own op.off)
      by_case false = same_change

  pub locked_change : (own : ℕ) (op : HeapLock) → ItemChange block n (locked_tuple own op)
  locked_change own op =
      let a = both_changes block n (with_told_bits op.infobits) (unlinked own op) (told_change op.infobits) (unlinked_change own op) in
      let b = both_changes block n (λ t. unlinked own op (with_told_bits op.infobits t)) (with_xmax op.xmax) a (xmax_change op.xmax) in
      both_changes block n (λ t. with_xmax op.xmax (unlinked own op (with_told_bits op.infobits t))) with_first_cid b cid_change

  pub version_change : (op : HeapLock) → ItemChange block n (locked_version op)
  version_change op = both_changes block n (with_told_bits op.infobits) (with_xmax op.xmax) (told_change op.infobits) (xmax_change op.xmax)

pub delete_law : (block xid : ℕ) (op : HeapDelete) (p q : List ℕ) → TrimmedHeap p → TrimmedHeap q → mask block p ≡ mask block q → SameMasks (view block) (delete_page xid block op p) (delete_page xid block op q)
delete_law block xid op = changed_respects block op.off (deleted_tuple block op) (λ r. visible_cleared op.flags (prunable xid r)) (deleted_change block (op.off - 1 + 1) block op) (deleted_head op.flags xid)

pub delete_keeps : (block xid : ℕ) (op : HeapDelete) (p r : List ℕ) → TrimmedHeap p → delete_page xid block op p ≡ Ok r → TrimmedHeap r
delete_keeps block xid op = changed_keeps block op.off (deleted_tuple block op) (λ r. visible_cleared op.flags (prunable xid r)) (deleted_change block (op.off - 1 + 1) block op) (deleted_head op.flags xid)

pub confirm_law : (block : ℕ) (op : HeapConfirm) (p q : List ℕ) → TrimmedHeap p → TrimmedHeap q → mask block p ≡ mask block q → SameMasks (view block) (confirm_page block op p) (confirm_page block op q)
confirm_law block op = changed_respects block op.off (with_ctid block op.off) (λ r. r) (ctid_change block (op.off - 1 + 1) block op.off) nothing_more

pub confirm_keeps : (block : ℕ) (op : HeapConfirm) (p r : List ℕ) → TrimmedHeap p → confirm_page block op p ≡ Ok r → TrimmedHeap r
confirm_keeps block op = changed_keeps block op.off (with_ctid block op.off) (λ r. r) (ctid_change block (op.off - 1 + 1) block op.off) nothing_more

pub lock_law : (block : ℕ) (op : HeapLock) (p q : List ℕ) → TrimmedHeap p → TrimmedHeap q → mask block p ≡ mask block q → SameMasks (view block) (lock_page block op p) (lock_page block op q)
lock_law block op = changed_respects block op.off (locked_tuple block op) (λ r. r) (locked_change block (op.off - 1 + 1) block op) nothing_more

pub lock_keeps : (block : ℕ) (op : HeapLock) (p r : List ℕ) → TrimmedHeap p → lock_page block op p ≡ Ok r → TrimmedHeap r
lock_keeps block op = changed_keeps block op.off (locked_tuple block op) (λ r. r) (locked_change block (op.off - 1 + 1) block op) nothing_more

pub version_law : (block : ℕ) (op : HeapLock) (p q : List ℕ) → TrimmedHeap p → TrimmedHeap q → mask block p ≡ mask block q → SameMasks (view block) (lock_updated_page op p) (lock_updated_page op q)
version_law block op = changed_respects block op.off (locked_version op) (λ r. r) (version_change block (op.off - 1 + 1) op) nothing_more

pub version_keeps : (op : HeapLock) (p r : List ℕ) → TrimmedHeap p → lock_updated_page op p ≡ Ok r → TrimmedHeap r
version_keeps op = changed_keeps 0 op.off (locked_version op) (λ r. r) (version_change 0 (op.off - 1 + 1) op) nothing_more
