-- INSERT_LEAF, INSERT_UPPER and INSERT_META: PostgreSQL 16, src/backend/access/nbtree/nbtxlog.c, btree_xlog_insert.
use Rattle.std.specs.Prelude.{ℕ, List, false}
use Rattle.record_layouts.specs.declared.btree.BtreeInsert.{BtreeInsert}
use Rattle.page_layout.specs.Edits.{add_item}
use Rattle.page_masks.specs.Law.{Redone}
use Rattle.redo_steps.specs.Redo.{on_page}

-- the new tuple at its place, the later lines moved up
abbrev pub insert_page : BtreeInsert → List ℕ → List ℕ → Redone
insert_page op bytes p = on_page (add_item p bytes op.off false)
