-- What a heap record does to the page of one of its blocks: PostgreSQL 16,
-- src/backend/access/heap/heapam.c, heap_redo, heap2_redo.
-- Own: "Redo of heap records".
use Rattle.std.specs.Prelude.{ℕ, ◌==◌, ◌&&◌, ◌||◌, List, Bool, false, Ok, if◌then◌else◌}
use Rattle.wal_records.specs.Reading.{LogRecord}
use Rattle.block_refs.specs.Parts.{PartsView}
use Rattle.record_layouts.specs.Operation.{operation_of}
use Rattle.record_layouts.specs.declared.heap.HeapOp.{HeapOp}
use Rattle.record_layouts.specs.declared.heap.HeapOp.TheVariants as heap
use Rattle.record_layouts.specs.declared.heap2.Heap2Op.{Heap2Op}
use Rattle.record_layouts.specs.declared.heap2.Heap2Op.TheVariants as heap2
use Rattle.record_layouts.specs.declared.operation.Operation.{Operation}
use Rattle.record_layouts.specs.declared.operation.Operation.TheVariants.{Heap2, Heap}
use Rattle.page_masks.specs.Law.{Redone}
use Rattle.heap_pages.specs.declared.update.UpdateKind.TheVariants.{Plain, Hot}
use Rattle.heap_replay.specs.Tuples.{delete_operation, confirm_operation, lock_operation, lock_updated_operation, inplace_operation}
use Rattle.heap_replay.specs.Added.{insert_operation, multi_insert_operation, update_operation}
use Rattle.heap_replay.specs.Lines.{prune_operation, vacuum_operation, freeze_operation, visible_operation}

-- the references whose pages an operation of the manager Heap changes: 0, and for an update the
-- old tuple's page, 1
abbrev pub heap_acts_on : HeapOp → ℕ → Bool
heap_acts_on (heap.Insert init) id = id == 0
heap_acts_on heap.Delete id = id == 0
heap_acts_on (heap.Update init) id = id == 0 || id == 1
heap_acts_on heap.Truncate id = false
heap_acts_on (heap.HotUpdate init) id = id == 0 || id == 1
heap_acts_on heap.HeapConfirm id = id == 0
heap_acts_on heap.Lock id = id == 0
heap_acts_on heap.Inplace id = id == 0

-- .. and of the manager Heap2: VISIBLE's page is 1, since its 0 is the visibility map's
abbrev pub heap2_acts_on : Heap2Op → ℕ → Bool
heap2_acts_on heap2.Rewrite id = false
heap2_acts_on heap2.Prune id = id == 0
heap2_acts_on heap2.Vacuum id = id == 0
heap2_acts_on heap2.FreezePage id = id == 0
heap2_acts_on heap2.Visible id = id == 1
heap2_acts_on (heap2.MultiInsert init) id = id == 0
heap2_acts_on heap2.LockUpdated id = id == 0
heap2_acts_on heap2.NewCid id = false

abbrev pub acts_on : Operation → ℕ → Bool
acts_on (Heap op) id = heap_acts_on op id
acts_on (Heap2 op) id = heap2_acts_on op id
acts_on _ id = false

-- an operation with +INIT makes the page of reference 0 anew
abbrev pub heap_makes_anew : HeapOp → Bool
heap_makes_anew (heap.Insert init) = init
heap_makes_anew (heap.Update init) = init
heap_makes_anew (heap.HotUpdate init) = init
heap_makes_anew _ = false

abbrev pub heap2_makes_anew : Heap2Op → Bool
heap2_makes_anew (heap2.MultiInsert init) = init
heap2_makes_anew _ = false

abbrev pub makes_anew : Operation → Bool
makes_anew (Heap op) = heap_makes_anew op
makes_anew (Heap2 op) = heap2_makes_anew op
makes_anew _ = false

-- what an operation does to the page of a reference that it changes
abbrev pub heap_change : HeapOp → LogRecord → PartsView → ℕ → List ℕ → Redone
heap_change (heap.Insert init) rec parts id p = insert_operation init rec parts id p
heap_change heap.Delete rec parts id p = delete_operation rec parts id p
heap_change (heap.Update init) rec parts id p = update_operation init Plain rec parts id p
heap_change heap.Truncate rec parts id p = Ok p
heap_change (heap.HotUpdate init) rec parts id p = update_operation init Hot rec parts id p
heap_change heap.HeapConfirm rec parts id p = confirm_operation rec parts id p
heap_change heap.Lock rec parts id p = lock_operation rec parts id p
heap_change heap.Inplace rec parts id p = inplace_operation rec parts id p

abbrev pub heap2_change : Heap2Op → LogRecord → PartsView → ℕ → List ℕ → Redone
heap2_change heap2.Rewrite rec parts id p = Ok p
heap2_change heap2.Prune rec parts id p = prune_operation rec parts id p
heap2_change heap2.Vacuum rec parts id p = vacuum_operation rec parts id p
heap2_change heap2.FreezePage rec parts id p = freeze_operation rec parts id p
heap2_change heap2.Visible rec parts id p = visible_operation rec parts p
heap2_change (heap2.MultiInsert init) rec parts id p = multi_insert_operation init rec parts id p
heap2_change heap2.LockUpdated rec parts id p = lock_updated_operation rec parts p
heap2_change heap2.NewCid rec parts id p = Ok p

abbrev pub changed_by : Operation → LogRecord → PartsView → ℕ → List ℕ → Redone
changed_by (Heap op) rec parts id p = heap_change op rec parts id p
changed_by (Heap2 op) rec parts id p = heap2_change op rec parts id p
changed_by _ rec parts id p = Ok p

-- what a record does
abbrev pub done_by : LogRecord → Operation
done_by rec = operation_of rec.header.manager rec.header.info

-- its reference with an id is one whose page it changes
abbrev pub heap_acts : LogRecord → PartsView → ℕ → Bool
heap_acts rec parts id = acts_on (done_by rec) id

-- .. or makes anew, whatever the page was
abbrev pub heap_fresh : LogRecord → PartsView → ℕ → Bool
heap_fresh rec parts id = makes_anew (done_by rec) && id == 0

-- what it does to that page but for the LSN; another page stays
abbrev pub heap_operation : LogRecord → PartsView → ℕ → List ℕ → Redone
heap_operation rec parts id p =
    if acts_on (done_by rec) id then changed_by (done_by rec) rec parts id p else Ok p
