-- Records that add tuples: PostgreSQL 16, src/backend/access/heap/heapam.c, heap_xlog_insert,
-- heap_xlog_multi_insert, heap_xlog_update. Each is Layout where the record's bytes don't hold what
-- it needs, or contradict it. `init`: the page is made anew first.
use Rattle.std.specs.Prelude.{ℕ, ◌==◌, List, Bool, false, is_none, Err, if◌then◌else◌}
use Rattle.wal_records.specs.Reading.{LogRecord}
use Rattle.block_refs.specs.Bytes.{block_with}
use Rattle.block_refs.specs.Parts.{PartsView}
use Rattle.record_layouts.specs.Heap.{heap_insert_of, heap_update_of}
use Rattle.record_layouts.specs.Heap2.{multi_insert_of}
use Rattle.record_layouts.specs.declared.heap.HeapUpdate.{HeapUpdate}
use Rattle.block_layouts.specs.Tuple.{TupleView, insert_tuple_of}
use Rattle.block_layouts.specs.MultiInsert.{multi_insert_tuples_of}
use Rattle.block_layouts.specs.Update.{UpdateView, update_tuple_of}
use Rattle.block_layouts.specs.declared.update.OldParts.{OldParts}
use Rattle.page_layout.specs.declared.refusal.RedoWhy.TheVariants.{Layout}
use Rattle.page_masks.specs.Law.{Redone}
use Rattle.redo_steps.specs.Bits.{has_bit}
use Rattle.redo_steps.specs.Redo.{laid_out}
use Rattle.heap_tuples.specs.Heap.{on_heap}
use Rattle.heap_pages.specs.Insert.{insert_page}
use Rattle.heap_pages.specs.MultiInsert.{multi_insert_page}
use Rattle.heap_pages.specs.Update.{has_parts, update_page, update_old_page, update_new_page}
use Rattle.heap_pages.specs.declared.update.UpdateKind.{UpdateKind}
use Rattle.redo_reads.specs.Given.{main_of, bytes_for, number_at}

-- INSERT
abbrev pub insert_operation : Bool → LogRecord → PartsView → ℕ → List ℕ → Redone
insert_operation init rec parts id p =
    laid_out (heap_insert_of (main_of rec parts)) (λ op.
    laid_out (bytes_for rec parts id) (λ bytes.
    laid_out (insert_tuple_of bytes) (λ tuple.
    laid_out (number_at parts id) (λ block.
    on_heap init (insert_page rec.header.xid block op tuple) p))))

-- MULTI_INSERT
abbrev pub multi_insert_operation : Bool → LogRecord → PartsView → ℕ → List ℕ → Redone
multi_insert_operation init rec parts id p =
    laid_out (multi_insert_of init (main_of rec parts)) (λ op.
    laid_out (bytes_for rec parts id) (λ bytes.
    laid_out (multi_insert_tuples_of op.ntuples bytes) (λ tuples.
    laid_out (number_at parts id) (λ block.
    on_heap init (multi_insert_page rec.header.xid block op.flags op.places tuples) p))))

-- flags 20 and 40, XLH_UPDATE_PREFIX_FROM_OLD and .._SUFFIX_FROM_OLD: the new tuple has parts of
-- the old one
abbrev pub old_parts : HeapUpdate → OldParts
old_parts op = record { prefix = has_bit 0x20 op.flags; suffix = has_bit 0x40 op.flags }

-- a new tuple without them
abbrev pub whole_tuple : UpdateView → TupleView
whole_tuple tuple = record { header = tuple.header; bytes = tuple.bytes }

-- both tuples are on one page, since no reference 1 names the old one's
abbrev pub on_one_page : PartsView → Bool
on_one_page parts = is_none (block_with 1 parts.blocks)

-- UPDATE and HOT_UPDATE, what becomes of block 0 of this number: over two pages the new tuple can't
-- have parts of the old one
abbrev pub update_first : Bool → UpdateKind → LogRecord → PartsView → HeapUpdate → UpdateView → ℕ
    → List ℕ → Redone
update_first init kind rec parts op tuple block p =
    if on_one_page parts
    then on_heap init (update_page rec.header.xid block kind op (old_parts op) tuple) p
    else if has_parts (old_parts op) then Err Layout
    else on_heap init (update_new_page rec.header.xid block op (whole_tuple tuple)) p

abbrev pub update_new_operation : Bool → UpdateKind → LogRecord → PartsView → ℕ → List ℕ → Redone
update_new_operation init kind rec parts id p =
    laid_out (heap_update_of (main_of rec parts)) (λ op.
    laid_out (bytes_for rec parts id) (λ bytes.
    laid_out (update_tuple_of (old_parts op) bytes) (λ tuple.
    laid_out (number_at parts id) (λ block.
    update_first init kind rec parts op tuple block p))))

-- .. and of block 1: the old tuple's address is its new version's, on block 0
abbrev pub update_old_operation : UpdateKind → LogRecord → PartsView → List ℕ → Redone
update_old_operation kind rec parts p =
    laid_out (heap_update_of (main_of rec parts)) (λ op.
    if has_parts (old_parts op) then Err Layout
    else laid_out (number_at parts 0) (λ block.
    on_heap false (update_old_page rec.header.xid kind block op) p))

abbrev pub update_operation : Bool → UpdateKind → LogRecord → PartsView → ℕ → List ℕ → Redone
update_operation init kind rec parts id p =
    if id == 1 then update_old_operation kind rec parts p else update_new_operation init kind rec parts id p
