-- Metapages that a record holds whole: PostgreSQL 16, src/backend/access/nbtree/nbtxlog.c, _bt_restore_meta.
use Rattle.std.specs.Prelude.{ℕ, Ok}
use Rattle.wal_records.specs.Reading.{LogRecord}
use Rattle.block_refs.specs.Parts.{PartsView}
use Rattle.block_layouts.specs.Meta.{metapage_of}
use Rattle.page_masks.specs.Law.{Redone}
use Rattle.redo_steps.specs.Redo.{laid_out}
use Rattle.redo_reads.specs.Given.{bytes_for}
use Rattle.btree_pages.specs.Meta.{meta_page}

-- the page of the block with this id is the metapage of its bytes
abbrev pub meta_operation : LogRecord → PartsView → ℕ → Redone
meta_operation rec parts id =
    laid_out (bytes_for rec parts id) (λ bytes.
    laid_out (metapage_of bytes) (λ meta.
    Ok (meta_page meta)))
