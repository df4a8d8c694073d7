-- NEWROOT: PostgreSQL 16, src/backend/access/nbtree/nbtxlog.c, btree_xlog_newroot. Layout where the record's bytes don't hold what is
-- needed.
use Rattle.std.specs.Prelude.{ℕ, ◌==◌, List, [], if◌then◌else◌}
use Rattle.wal_records.specs.Reading.{LogRecord}
use Rattle.block_refs.specs.Parts.{PartsView}
use Rattle.record_layouts.specs.Btree.{btree_new_root_of}
use Rattle.record_layouts.specs.declared.btree.BtreeNewRoot.{BtreeNewRoot}
use Rattle.block_layouts.specs.IndexTuples.{restored_tuples_of}
use Rattle.page_masks.specs.Law.{Redone}
use Rattle.redo_steps.specs.Redo.{laid_out}
use Rattle.redo_reads.specs.Given.{main_of, bytes_for}
use Rattle.btree_pages.specs.NewRoot.{new_root_page}
use Rattle.btree_replay.specs.Meta.{meta_operation}
use Rattle.btree_replay.specs.Insert.{settle_operation}

-- block 0 is the root; one of level 0 has no tuples
abbrev pub root_operation : LogRecord → PartsView → BtreeNewRoot → Redone
root_operation rec parts op =
    if op.level == 0 then new_root_page 0 []
    else laid_out (bytes_for rec parts 0) (λ bytes.
    laid_out (restored_tuples_of bytes) (λ tuples.
    new_root_page op.level tuples))

-- block 1 is the page below that was split, block 2 the metapage
abbrev pub new_root_operation : LogRecord → PartsView → ℕ → List ℕ → Redone
new_root_operation rec parts id p =
    laid_out (btree_new_root_of (main_of rec parts)) (λ op.
    if id == 0 then root_operation rec parts op
    else if id == 1 then settle_operation p
    else meta_operation rec parts id)
