-- Records that change lines or several tuples of a page: PostgreSQL 16,
-- src/backend/access/heap/heapam.c, heap_xlog_prune, .._vacuum, .._freeze_page, .._visible. Each is
-- Layout where the record's bytes don't hold what it needs.
use Rattle.std.specs.Prelude.{ℕ, List, false}
use Rattle.wal_records.specs.Reading.{LogRecord}
use Rattle.block_refs.specs.Parts.{PartsView}
use Rattle.record_layouts.specs.Heap2.{heap_prune_of, heap_vacuum_of, heap_freeze_page_of, heap_visible_of}
use Rattle.block_layouts.specs.Prune.{prune_places_of}
use Rattle.block_layouts.specs.Places.{first_places_of}
use Rattle.block_layouts.specs.Freeze.{freeze_plans_of}
use Rattle.page_masks.specs.Law.{Redone}
use Rattle.redo_steps.specs.Redo.{laid_out}
use Rattle.heap_tuples.specs.Heap.{on_heap}
use Rattle.heap_pages.specs.Prune.{prune_page}
use Rattle.heap_pages.specs.Vacuum.{vacuum_page}
use Rattle.heap_pages.specs.Freeze.{freeze_page}
use Rattle.heap_pages.specs.Visible.{visible_page}
use Rattle.redo_reads.specs.Given.{main_of, bytes_for}

-- PRUNE
abbrev pub prune_operation : LogRecord → PartsView → ℕ → List ℕ → Redone
prune_operation rec parts id p =
    laid_out (heap_prune_of (main_of rec parts)) (λ op.
    laid_out (bytes_for rec parts id) (λ bytes.
    laid_out (prune_places_of op.nredirected op.ndead bytes) (λ places.
    on_heap false (prune_page places) p)))

-- VACUUM
abbrev pub vacuum_operation : LogRecord → PartsView → ℕ → List ℕ → Redone
vacuum_operation rec parts id p =
    laid_out (heap_vacuum_of (main_of rec parts)) (λ op.
    laid_out (bytes_for rec parts id) (λ bytes.
    laid_out (first_places_of op.nunused bytes) (λ places.
    on_heap false (vacuum_page places) p)))

-- FREEZE_PAGE
abbrev pub freeze_operation : LogRecord → PartsView → ℕ → List ℕ → Redone
freeze_operation rec parts id p =
    laid_out (heap_freeze_page_of (main_of rec parts)) (λ op.
    laid_out (bytes_for rec parts id) (λ bytes.
    laid_out (freeze_plans_of op.nplans bytes) (λ plans.
    on_heap false (freeze_page plans) p)))

-- VISIBLE, the heap's page
abbrev pub visible_operation : LogRecord → PartsView → List ℕ → Redone
visible_operation rec parts p =
    laid_out (heap_visible_of (main_of rec parts)) (λ op.
    on_heap false visible_page p)
