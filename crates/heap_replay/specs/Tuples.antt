-- Records that change one tuple: PostgreSQL 16, src/backend/access/heap/heapam.c,
-- heap_xlog_delete, .._confirm, .._lock, .._lock_updated, .._inplace. Each is Layout where the
-- record's bytes don't hold what it needs.
use Rattle.std.specs.Prelude.{ℕ, List, false}
use Rattle.wal_records.specs.Reading.{LogRecord}
use Rattle.block_refs.specs.Parts.{PartsView}
use Rattle.record_layouts.specs.Heap.{heap_delete_of, heap_confirm_of, heap_lock_of, heap_inplace_of}
use Rattle.page_masks.specs.Law.{Redone}
use Rattle.redo_steps.specs.Redo.{laid_out}
use Rattle.heap_tuples.specs.Heap.{on_heap}
use Rattle.heap_tuples.specs.Delete.{delete_page}
use Rattle.heap_tuples.specs.Confirm.{confirm_page}
use Rattle.heap_tuples.specs.Lock.{lock_page, lock_updated_page}
use Rattle.heap_tuples.specs.Inplace.{inplace_page}
use Rattle.redo_reads.specs.Given.{main_of, bytes_for, number_at}

-- DELETE
abbrev pub delete_operation : LogRecord → PartsView → ℕ → List ℕ → Redone
delete_operation rec parts id p =
    laid_out (heap_delete_of (main_of rec parts)) (λ op.
    laid_out (number_at parts id) (λ block.
    on_heap false (delete_page rec.header.xid block op) p))

-- HEAP_CONFIRM
abbrev pub confirm_operation : LogRecord → PartsView → ℕ → List ℕ → Redone
confirm_operation rec parts id p =
    laid_out (heap_confirm_of (main_of rec parts)) (λ op.
    laid_out (number_at parts id) (λ block.
    on_heap false (confirm_page block op) p))

-- LOCK
abbrev pub lock_operation : LogRecord → PartsView → ℕ → List ℕ → Redone
lock_operation rec parts id p =
    laid_out (heap_lock_of (main_of rec parts)) (λ op.
    laid_out (number_at parts id) (λ block.
    on_heap false (lock_page block op) p))

-- LOCK_UPDATED
abbrev pub lock_updated_operation : LogRecord → PartsView → List ℕ → Redone
lock_updated_operation rec parts p =
    laid_out (heap_lock_of (main_of rec parts)) (λ op.
    on_heap false (lock_updated_page op) p)

-- INPLACE: the block's bytes are the new values
abbrev pub inplace_operation : LogRecord → PartsView → ℕ → List ℕ → Redone
inplace_operation rec parts id p =
    laid_out (heap_inplace_of (main_of rec parts)) (λ op.
    laid_out (bytes_for rec parts id) (λ values.
    on_heap false (inplace_page op values) p))
