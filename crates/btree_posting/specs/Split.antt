-- SPLIT_L and SPLIT_R that split a posting list, too: PostgreSQL 16, src/backend/access/nbtree/nbtxlog.c, btree_xlog_split.
use Rattle.std.specs.Prelude.{ℕ, ◌-◌, List, Bool, Option, Some, None, if◌then◌else◌}
use Rattle.record_layouts.specs.declared.btree.BtreeSplit.{BtreeSplit}
use Rattle.block_layouts.specs.Split.{SplitView}
use Rattle.page_layout.specs.Page.{item}
use Rattle.page_masks.specs.Law.{Redone, and_then}
use Rattle.redo_steps.specs.Redo.{laid_out}
use Rattle.btree_pages.specs.Page.{on_btree}
use Rattle.btree_pages.specs.Split.{split_left_page}
use Rattle.btree_posting.specs.Form.{swapped_new}
use Rattle.btree_posting.specs.Insert.{swap_item}

-- the new tuple comes to the left page (SPLIT_L), or it doesn't
abbrev pub left_new : Bool → List ℕ → Option (List ℕ)
left_new on_left new = if on_left then Some new else None

-- the page that is split, where the posting tuple before the new one's place gets its tid, and it the tid that is lost
abbrev pub split_posting_page : ℕ → Bool → BtreeSplit → SplitView → List ℕ → Redone
split_posting_page right on_left op tuples p =
    let before = op.new_item - 1 in
    laid_out tuples.new_tuple (λ new.
    and_then (swap_item before op.posting new p) (on_btree
    (split_left_page right op (record {
      new_tuple = left_new on_left (swapped_new new (item p (before - 1)));
      high_key = tuples.high_key;
    }))))
