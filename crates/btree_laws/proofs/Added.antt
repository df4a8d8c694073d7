-- Items added and taken out.
use Rattle.std.proofs.Common.{ℕ, ◌+◌, List, [], ◌∷◌, false, sym, subst}
use Rattle.page_layout.specs.Page.{count}
use Rattle.page_layout.specs.Edits.{add_item}
use Rattle.page_layout.specs.Deletes.{delete_items}
use Rattle.page_masks.specs.Law.{view, SameMasks}
use Rattle.page_laws.specs.Btree.{with_special}
use Rattle.page_laws.proofs.BtreeAdd.{add_respects, add_keeps_page}
use Rattle.page_laws.proofs.BtreeDelete.{delete_respects, delete_keeps_page}
use Rattle.page_laws.proofs.BtreeShown.{btree_items}
use Rattle.record_layouts.specs.declared.btree.BtreeInsert.{BtreeInsert}
use Rattle.redo_steps.specs.Redo.{on_page}
use Rattle.btree_pages.specs.Delete.{delete_page}
use Rattle.btree_pages.specs.Insert.{insert_page}
use Rattle.btree_pages.specs.Items.{with_last, with_items}
use Rattle.btree_pages.specs.Special.{without_garbage}
use Rattle.btree_pages.proofs.ItemsLemmas.{Done}
use Rattle.btree_laws.proofs.Steps.{IsStep, no_step, both_steps, same_calls, called}
use Rattle.btree_laws.proofs.Special.{special_step, garbage_change, garbage_leaf}

module _ (block : ℕ) where
  pub add_step : (place : ℕ) (bytes : List ℕ) → IsStep block (λ p. on_page (add_item p bytes place false))
  add_step place bytes = record {
    page = λ p r h e. add_keeps_page place p bytes r h (called (add_item p bytes place false) r e);
    same = λ p q hp hq m. same_calls block (add_item p bytes place false) (add_item q bytes place false) (add_respects block place p q bytes hp hq m);
  }

  pub insert_step : (op : BtreeInsert) (bytes : List ℕ) → IsStep block (insert_page op bytes)
  insert_step op bytes = add_step op.off bytes

  -- behind the last line, which is the same one
  last_step : (bytes : List ℕ) → IsStep block (with_last bytes)
  last_step bytes = record {
    page = λ p r h e. add_keeps_page (count p + 1) p bytes r h (called (add_item p bytes (count p + 1) false) r e);
    same = λ p q hp hq m.
        let i = btree_items block p q hp hq m in
        let s = add_step (count p + 1) bytes in
        subst (λ n. SameMasks (view block) (with_last bytes p) (on_page (add_item q bytes (n + 1) false))) (sym i.lines) (s.same p q hp hq m);
  }

  pub items_step : (lists : List (List ℕ)) → IsStep block (with_items lists)
  items_step [] = no_step block
  items_step (bytes ∷ lists) = both_steps block (with_last bytes) (with_items lists) (last_step bytes) (items_step lists)

  take_step : (places : List ℕ) → IsStep block (λ p. on_page (delete_items p places))
  take_step places = record {
    page = λ p r h e. delete_keeps_page p places r h (called (delete_items p places) r e);
    same = λ p q hp hq m. same_calls block (delete_items p places) (delete_items q places) (delete_respects block p q places hp hq m);
  }

  pub delete_step : (places : List ℕ) → IsStep block (delete_page places)
  delete_step places = both_steps block (λ p. on_page (delete_items p places)) (λ q. Done (with_special without_garbage q)) (take_step places) (special_step block without_garbage garbage_change garbage_leaf)
