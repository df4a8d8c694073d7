-- INSERT_LEAF, INSERT_UPPER, INSERT_META: PostgreSQL 16, src/backend/access/nbtree/nbtxlog.c, btree_xlog_insert. Layout where the
-- record's bytes don't hold what is needed.
use Rattle.std.specs.Prelude.{ℕ, ◌==◌, List, Ok, if◌then◌else◌}
use Rattle.wal_records.specs.Reading.{LogRecord}
use Rattle.block_refs.specs.Parts.{PartsView}
use Rattle.record_layouts.specs.Btree.{btree_insert_of}
use Rattle.record_layouts.specs.declared.btree.BtreeInsert.{BtreeInsert}
use Rattle.page_masks.specs.Law.{Redone}
use Rattle.redo_steps.specs.Redo.{laid_out}
use Rattle.redo_reads.specs.Given.{main_of, bytes_for}
use Rattle.btree_pages.specs.Page.{on_btree}
use Rattle.btree_pages.specs.Special.{settled_page}
use Rattle.btree_pages.specs.Insert.{insert_page}
use Rattle.btree_replay.specs.Meta.{meta_operation}

-- finishing the split of a page below
abbrev pub settle_operation : List ℕ → Redone
settle_operation p = on_btree (λ q. Ok (settled_page q)) p

-- block 0 gets the tuple
abbrev pub insert_first : LogRecord → PartsView → BtreeInsert → List ℕ → Redone
insert_first rec parts op p =
    laid_out (bytes_for rec parts 0) (λ bytes.
    on_btree (insert_page op bytes) p)

-- block 1 is the page below that was split, block 2 the metapage
abbrev pub insert_operation : LogRecord → PartsView → ℕ → List ℕ → Redone
insert_operation rec parts id p =
    laid_out (btree_insert_of (main_of rec parts)) (λ op.
    if id == 0 then insert_first rec parts op p
    else if id == 1 then settle_operation p
    else meta_operation rec parts id)
