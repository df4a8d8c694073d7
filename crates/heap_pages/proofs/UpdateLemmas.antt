-- An UPDATE on one page, whose new tuple was built.
use Rattle.std.proofs.Common.{◌≡◌, ℕ, ◌-◌, List, true, Result, take, ◌∙◌, subst}
use Rattle.page_layout.specs.Page.{item}
use Rattle.page_layout.specs.declared.refusal.RedoWhy.{RedoWhy}
use Rattle.record_layouts.specs.declared.heap.HeapUpdate.{HeapUpdate}
use Rattle.block_layouts.specs.Update.{UpdateView}
use Rattle.block_layouts.specs.declared.update.OldParts.{OldParts}
use Rattle.redo_steps.specs.Redo.{Makes}
use Rattle.heap_tuples.specs.Heap.{has_tuple}
use Rattle.heap_pages.specs.declared.update.UpdateKind.{UpdateKind}
use Rattle.heap_pages.specs.NewBody.{IsBuilt}
use Rattle.heap_pages.specs.Update.{updated_page, update_new_page, parts_fit, joined, update_page}

module _ (xid block : ℕ) (kind : UpdateKind) (op : HeapUpdate) (parts : OldParts) (tuple : UpdateView) (p : List ℕ) where
  abbrev old : List ℕ
  old = item p (op.old_off - 1)

  pub built : (room bytes q new : List ℕ) (size : ℕ) (result : Result (Unit {0}) RedoWhy) → has_tuple p op.old_off ≡ true → parts_fit parts tuple old ≡ true → IsBuilt (joined parts tuple old) room size
      → bytes ≡ take size room → q ≡ updated_page xid kind block op p → Makes (update_new_page xid block op (record { header = tuple.header; bytes = bytes }) q) result new
      → Makes (update_page xid block kind op parts tuple p) result new
  built room bytes q new size result has fit s is_bytes is_q made =
      rw (has, fit) (subst (λ b. Makes (update_new_page xid block op (record { header = tuple.header; bytes = b }) (updated_page xid kind block op p)) result new) (is_bytes ∙ s.front)
      (subst (λ x. Makes (update_new_page xid block op (record { header = tuple.header; bytes = bytes }) x) result new) is_q made))
