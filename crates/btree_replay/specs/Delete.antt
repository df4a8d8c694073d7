-- DELETE and VACUUM: PostgreSQL 16, src/backend/access/nbtree/nbtxlog.c, btree_xlog_delete, btree_xlog_vacuum. Layout where the
-- record's bytes don't hold what is needed.
use Rattle.std.specs.Prelude.{ℕ, List}
use Rattle.wal_records.specs.Reading.{LogRecord}
use Rattle.block_refs.specs.Parts.{PartsView}
use Rattle.record_layouts.specs.Btree.{btree_delete_of, btree_vacuum_of}
use Rattle.block_layouts.specs.Places.{first_places_of}
use Rattle.page_masks.specs.Law.{Redone}
use Rattle.redo_steps.specs.Redo.{laid_out}
use Rattle.redo_reads.specs.Given.{main_of, bytes_for}
use Rattle.btree_pages.specs.Page.{on_btree}
use Rattle.btree_pages.specs.Delete.{delete_page}

-- so many places at the front of block 0's bytes
abbrev pub places_operation : ℕ → LogRecord → PartsView → List ℕ → Redone
places_operation ndeleted rec parts p =
    laid_out (bytes_for rec parts 0) (λ bytes.
    laid_out (first_places_of ndeleted bytes) (λ places.
    on_btree (delete_page places) p))

abbrev pub delete_operation : LogRecord → PartsView → List ℕ → Redone
delete_operation rec parts p =
    laid_out (btree_delete_of (main_of rec parts)) (λ op.
    places_operation op.ndeleted rec parts p)

abbrev pub vacuum_operation : LogRecord → PartsView → List ℕ → Redone
vacuum_operation rec parts p =
    laid_out (btree_vacuum_of (main_of rec parts)) (λ op.
    places_operation op.ndeleted rec parts p)
