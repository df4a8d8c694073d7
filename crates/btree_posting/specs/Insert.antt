-- INSERT_POST: PostgreSQL 16, src/backend/access/nbtree/nbtxlog.c, btree_xlog_insert.
use Rattle.std.specs.Prelude.{ℕ, ◌-◌, ◌&&◌, List, false, Err, if◌then◌else◌}
use Rattle.record_layouts.specs.declared.btree.BtreeInsert.{BtreeInsert}
use Rattle.block_layouts.specs.Posting.{PostingInsertView}
use Rattle.page_layout.specs.Page.{item}
use Rattle.page_layout.specs.Edits.{add_item}
use Rattle.page_layout.specs.Overwrite.{has_item, overwrite_item}
use Rattle.page_layout.specs.declared.refusal.RedoWhy.TheVariants.{Place}
use Rattle.page_masks.specs.Law.{Redone, and_then}
use Rattle.redo_steps.specs.Redo.{on_page}
use Rattle.btree_pages.specs.Page.{on_btree}
use Rattle.btree_posting.specs.Form.{can_swap, swapped_posting, swapped_new}

-- the posting tuple at a place gets the new tuple's tid at an index of its list
abbrev pub swap_item : ℕ → ℕ → List ℕ → List ℕ → Redone
swap_item place k new p =
    if has_item p place && can_swap k (item p (place - 1))
    then on_page (overwrite_item p place (swapped_posting k new (item p (place - 1))))
    else Err Place

-- the one before the new tuple's place does, and then the new tuple is added with the tid that it has lost
abbrev pub insert_post_page : BtreeInsert → PostingInsertView → List ℕ → Redone
insert_post_page op post p =
    let before = op.off - 1 in
    and_then (swap_item before post.index post.tuple p) (on_btree (λ q.
    on_page (add_item q (swapped_new post.tuple (item p (before - 1))) op.off false)))
