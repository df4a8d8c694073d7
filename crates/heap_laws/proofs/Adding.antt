-- INSERT, MULTI_INSERT and UPDATE over two pages: steps one after another.
use Rattle.std.proofs.Common.{◌≡◌, ℕ, ◌+◌, ◌-◌, ◌&&◌, List, [], ◌∷◌, length, refl}
use Rattle.std.specs.Prelude.{nat_le}
use Rattle.std.specs.List.{list_all}
use Rattle.block_layouts.specs.Tuple.{TupleView}
use Rattle.page_layout.specs.declared.refusal.RedoWhy.TheVariants.{Place}
use Rattle.page_masks.specs.Law.{and_then}
use Rattle.page_masks.specs.Mask.{mask}
use Rattle.page_laws.specs.Change.{ItemChange}
use Rattle.page_laws.specs.Results.{TrimmedHeap}
use Rattle.page_laws.proofs.TupleChanges.{infomask2_change, both_changes}
use Rattle.record_layouts.specs.declared.heap.HeapInsert.{HeapInsert}
use Rattle.record_layouts.specs.declared.heap.HeapUpdate.{HeapUpdate}
use Rattle.redo_steps.specs.Bits.{hot_on}
use Rattle.redo_steps.specs.Head.{prunable}
use Rattle.redo_steps.specs.Tuple.{with_xmax, with_ctid, with_told_bits, with_first_cid}
use Rattle.heap_tuples.specs.Heap.{visible_cleared}
use Rattle.heap_tuples.specs.Put.{is_open, put_tuple}
use Rattle.heap_tuples.proofs.OperationLaws.{xmax_change, ctid_change, hot_off_change, told_change, cid_change}
use Rattle.heap_tuples.proofs.TupleLaws.{Done, deleted_head}
use Rattle.heap_pages.specs.NewTuple.{new_tuple}
use Rattle.heap_pages.specs.Insert.{visible_told, insert_page}
use Rattle.heap_pages.specs.MultiInsert.{are_distinct, are_open, put_tuples, multi_insert_page}
use Rattle.heap_pages.specs.Update.{with_kind, updated_tuple, update_old_page, new_cleared, update_new_page}
use Rattle.heap_pages.specs.declared.update.UpdateKind.{UpdateKind}
use Rattle.heap_pages.specs.declared.update.UpdateKind.TheVariants.{Plain, Hot}
use Rattle.heap_laws.proofs.Steps.{IsStep, both_steps, no_step, guarded, of_head, of_tuple}
use Rattle.heap_laws.proofs.Heads.{told_head, cleared_head}
use Rattle.heap_laws.proofs.PutLaw.{open_same, put_step}

module _ (b xid block : ℕ) where
  pub insert_step : (op : HeapInsert) (tuple : TupleView) → IsStep b (insert_page xid block op tuple)
  insert_step op tuple =
      let bytes = new_tuple xid 0 block op.off tuple in
      both_steps b (put_tuple op.off bytes) (λ q. Done (visible_told op.flags q)) (put_step b op.off bytes) (of_head b (visible_told op.flags) (told_head op.flags))

  put_all : (places : List ℕ) (tuples : List TupleView) → IsStep b (put_tuples xid block places tuples)
  put_all [] [] = no_step b
  put_all (place ∷ places) [] = no_step b
  put_all [] (tuple ∷ tuples) = no_step b
  put_all (place ∷ places) (tuple ∷ tuples) =
      let bytes = new_tuple xid 0 block place tuple in
      both_steps b (put_tuple place bytes) (put_tuples xid block places tuples) (put_step b place bytes) (put_all places tuples)

  all_open_same : (places p q : List ℕ) → TrimmedHeap p → TrimmedHeap q → mask b p ≡ mask b q → list_all (is_open p) places ≡ list_all (is_open q) places
  all_open_same [] p q tp tq same = refl
  all_open_same (place ∷ places) p q tp tq same = λ t. open_same b place [] p q tp tq same t && all_open_same places p q tp tq same t

  pub multi_insert_step : (flags : ℕ) (places : List ℕ) (tuples : List TupleView) → IsStep b (multi_insert_page xid block flags places tuples)
  multi_insert_step flags places tuples =
      guarded b (λ p. are_open p places) Place (λ p. and_then (put_tuples xid block places tuples p) (λ q. Done (visible_told flags q))) (λ p q tp tq same. λ t. nat_le (length places) 291 && all_open_same places p q tp tq same t && are_distinct places)
      (both_steps b (put_tuples xid block places tuples) (λ q. Done (visible_told flags q)) (put_all places tuples) (of_head b (visible_told flags) (told_head flags)))

  -- the old tuple
  kind_change : (n : ℕ) (kind : UpdateKind) → ItemChange b n (with_kind kind)
  kind_change n Plain = hot_off_change b n
  kind_change n Hot = infomask2_change b n hot_on

  pub updated_change : (n : ℕ) (kind : UpdateKind) (op : HeapUpdate) → ItemChange b n (updated_tuple kind block op)
  updated_change n kind op =
      let c1 = both_changes b n (with_told_bits op.old_infobits) (with_kind kind) (told_change b n op.old_infobits) (kind_change n kind) in
      let c2 = both_changes b n (λ t. with_kind kind (with_told_bits op.old_infobits t)) (with_xmax op.old_xmax) c1 (xmax_change b n op.old_xmax) in
      let c3 = both_changes b n (λ t. with_xmax op.old_xmax (with_kind kind (with_told_bits op.old_infobits t))) with_first_cid c2 (cid_change b n) in
      both_changes b n (λ t. with_first_cid (with_xmax op.old_xmax (with_kind kind (with_told_bits op.old_infobits t)))) (with_ctid block op.new_off) c3 (ctid_change b n block op.new_off)

  pub update_old_step : (kind : UpdateKind) (op : HeapUpdate) → IsStep b (update_old_page xid kind block op)
  update_old_step kind op = of_tuple b op.old_off (updated_tuple kind block op) (λ r. visible_cleared op.flags (prunable xid r)) (updated_change (op.old_off - 1 + 1) kind op) (deleted_head op.flags xid)

  pub update_new_step : (op : HeapUpdate) (tuple : TupleView) → IsStep b (update_new_page xid block op tuple)
  update_new_step op tuple =
      let bytes = new_tuple xid op.new_xmax block op.new_off tuple in
      both_steps b (put_tuple op.new_off bytes) (λ q. Done (new_cleared op.flags q)) (put_step b op.new_off bytes) (of_head b (new_cleared op.flags) (cleared_head op.flags))
