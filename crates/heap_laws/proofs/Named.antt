-- DELETE, HEAP_CONFIRM, LOCK, LOCK_UPDATED and VISIBLE as steps, and INPLACE.
use Rattle.std.proofs.Common.{◌≡◌, ℕ, ◌+◌, ◌-◌, ◌==◌, ◌&&◌, List, Bool, true, false, length, refl, sym, ◌∙◌, ap, subst, arith}
use Rattle.std.specs.Prelude.{if◌then◌else◌}
use Rattle.std.proofs.lemmas.Bool.Decides.{nat_tests}
use Rattle.layout.proofs.SpliceLemmas.{length-splice}
use Rattle.page_layout.specs.Page.{item, IsFormed}
use Rattle.page_layout.specs.declared.refusal.RedoWhy.TheVariants.{Place}
use Rattle.page_masks.specs.Law.{view}
use Rattle.page_masks.specs.Mask.{mask}
use Rattle.page_laws.specs.Change.{edited}
use Rattle.page_laws.proofs.StepLaws.{edit_respects}
use Rattle.page_laws.proofs.TupleChanges.{with_tail, tail_change}
use Rattle.page_laws.proofs.TupleLaw.{TupleAlike}
use Rattle.record_layouts.specs.declared.heap.HeapDelete.{HeapDelete}
use Rattle.record_layouts.specs.declared.heap.HeapConfirm.{HeapConfirm}
use Rattle.record_layouts.specs.declared.heap.HeapLock.{HeapLock}
use Rattle.record_layouts.specs.declared.heap.HeapInplace.{HeapInplace}
use Rattle.redo_steps.specs.Head.{prunable, with_all_visible}
use Rattle.redo_steps.specs.Tuple.{hoff, with_ctid}
use Rattle.heap_tuples.specs.Heap.{has_tuple, with_tuple, visible_cleared}
use Rattle.heap_tuples.specs.Delete.{deleted_tuple, delete_page}
use Rattle.heap_tuples.specs.Confirm.{confirm_page}
use Rattle.heap_tuples.specs.Lock.{locked_tuple, locked_version, lock_page, lock_updated_page}
use Rattle.heap_tuples.specs.Inplace.{with_values, values_fit, inplace_page}
use Rattle.heap_tuples.proofs.EditLemmas.{tuple_of, length-tuple, edit_formed}
use Rattle.heap_tuples.proofs.HeapLemmas.{both}
use Rattle.heap_tuples.proofs.OperationLaws.{ctid_change, deleted_change, locked_change, version_change}
use Rattle.heap_tuples.proofs.TupleLaws.{Done, NoTuple, done_same, tuple_same, tuple_on, nothing_more, deleted_head}
use Rattle.heap_pages.specs.Visible.{visible_page}
use Rattle.heap_laws.specs.GoodHeap.{GoodHeap}
use Rattle.heap_laws.proofs.Steps.{CantTell, IsStep, of_head, of_tuple}
use Rattle.heap_laws.proofs.Heads.{set_head}
use Rattle.heap_laws.proofs.Carried.{masks_where, tests_same}
use Rattle.heap_laws.proofs.Door.{KeepsSize}
use Rattle.page_laws.proofs.HeapShown.{items_alike}

module _ (b : ℕ) where
  pub delete_step : (xid block : ℕ) (op : HeapDelete) → IsStep b (delete_page xid block op)
  delete_step xid block op = of_tuple b op.off (deleted_tuple block op) (λ r. visible_cleared op.flags (prunable xid r)) (deleted_change b (op.off - 1 + 1) block op) (deleted_head op.flags xid)

  pub confirm_step : (block : ℕ) (op : HeapConfirm) → IsStep b (confirm_page block op)
  confirm_step block op = of_tuple b op.off (with_ctid block op.off) (λ r. r) (ctid_change b (op.off - 1 + 1) block op.off) nothing_more

  pub lock_step : (block : ℕ) (op : HeapLock) → IsStep b (lock_page block op)
  lock_step block op = of_tuple b op.off (locked_tuple block op) (λ r. r) (locked_change b (op.off - 1 + 1) block op) nothing_more

  pub version_step : (op : HeapLock) → IsStep b (lock_updated_page op)
  version_step op = of_tuple b op.off (locked_version op) (λ r. r) (version_change b (op.off - 1 + 1) op) nothing_more

  pub visible_step : IsStep b visible_page
  visible_step = of_head b with_all_visible set_head

  -- INPLACE
  module _ (op : HeapInplace) (values : List ℕ) where
    abbrev k : ℕ
    k = op.off - 1

    abbrev fit : List ℕ → Bool
    fit p = values_fit values (item p k)

    pub inplace_size : KeepsSize (inplace_page op values)
    inplace_size = λ p r f e. kept p r f (has_tuple p op.off) (fit p) refl refl e
      where
        kept : (p r : List ℕ) → IsFormed p → (x y : Bool) → has_tuple p op.off ≡ x → fit p ≡ y → (if x && y then Done (with_tuple op.off (with_values values) p) else NoTuple) ≡ Done r → length r ≡ 8192
        kept p r f true true t v e =
            let i = tuple_of p op.off f t in
            let len = length-tuple p op.off i in
            let fits : hoff (item p k) + length values ≡ length (item p k) = grind (arith, nat_tests, v) in
            let size = length-splice (item p k) (hoff (item p k)) values (omega (arith, fits)) in
            let g = edit_formed p op.off (with_values values (item p k)) f i (size ∙ len) in
            subst (λ x. length x ≡ 8192) (done_same (with_tuple op.off (with_values values) p) r e) g.size
        kept p r f true false t v e = cc e
        kept p r f false y t v e = cc e

    module _ (p q : List ℕ) (gp : GoodHeap p) (gq : GoodHeap q) (same : mask b p ≡ mask b q) where
      items : has_tuple p op.off ≡ true → TupleAlike b (k + 1) (item p k) (item q k)
      items t = let o = tuple_on p op.off t in items_alike b p q gp.heap gq.heap same k o.there o.normal o.long

      hoffs : has_tuple p op.off ≡ true → hoff (item p k) ≡ hoff (item q k)
      hoffs t = let a = items t in a.rest 22 (omega arith)

      fits_same : has_tuple p op.off ≡ true → fit p ≡ fit q
      fits_same t = let a = items t in let h = hoffs t in λ s. (h s + length values) == a.size s

      done : has_tuple p op.off ≡ true → fit p ≡ true → mask b (with_tuple op.off (with_values values) p) ≡ mask b (with_tuple op.off (with_values values) q)
      done t v =
          let o = tuple_on p op.off t in
          let h = hoff (item p k) in
          let w : fit q ≡ true = sym (fits_same t) ∙ v in
          let at_p : edited k (with_tail h values) p ≡ edited k (with_values values) p = rw v refl in
          let at_q : edited k (with_tail (hoff (item q k)) values) q ≡ edited k (with_values values) q = rw w refl in
          sym (ap (mask b) at_p)
          ∙ edit_respects b k (with_tail h values) p q (tail_change b (k + 1) h values (gp.hoffs k o.there o.normal o.long)) gp.heap gq.heap o.there o.normal o.long same
          ∙ ap (λ n. mask b (edited k (with_tail n values) q)) (hoffs t) ∙ ap (mask b) at_q

    pub inplace_same : CantTell b GoodHeap (inplace_page op values)
    inplace_same = λ p q gp gq same.
        masks_where (view b) (has_tuple p op.off && fit p) (has_tuple q op.off && fit q) Place (Done (with_tuple op.off (with_values values) p)) (Done (with_tuple op.off (with_values values) q))
        (tests_same (has_tuple p op.off) (has_tuple q op.off) (fit p) (fit q) (tuple_same b op.off p q gp.heap gq.heap same) (fits_same p q gp gq same))
        (λ e. let t = both (has_tuple p op.off) (fit p) e in done p q gp gq same t.0 t.1)
