-- Bits of the visibility map that heap operations clear: PostgreSQL 16, src/backend/access/heap/heapam.c, heap_xlog_insert,
-- heap_xlog_delete, heap_xlog_update, heap_xlog_multi_insert, heap_xlog_lock and heap_xlog_lock_updated;
-- src/backend/access/heap/visibilitymap.c, visibilitymap_clear. The heap block itself, its LSN and its image don't matter.
-- Own: "Effects of records on files".
use Rattle.std.specs.Prelude.{ℕ, List, [], ◌∷◌, ◌++◌, Option, None, Some, is_some, option_and_then, if◌then◌else◌}
use Rattle.std.specs.Option.{option_map_or}
use Rattle.block_refs.specs.Bits.{has_bits}
use Rattle.block_refs.specs.Bytes.{block_with, main_bytes}
use Rattle.block_refs.specs.Parts.{PartsView}
use Rattle.block_refs.specs.declared.names.BlockName.{BlockName}
use Rattle.block_refs.specs.declared.names.Fork.TheVariants.{Main}
use Rattle.record_layouts.specs.Heap.{heap_delete_of, heap_insert_of, heap_lock_of, heap_update_of}
use Rattle.record_layouts.specs.Heap2.{multi_insert_of}
use Rattle.record_layouts.specs.Operation.{operation_of}
use Rattle.record_layouts.specs.declared.heap.HeapOp.{HeapOp}
use Rattle.record_layouts.specs.declared.heap.HeapOp.TheVariants as heap
use Rattle.record_layouts.specs.declared.heap2.Heap2Op.{Heap2Op}
use Rattle.record_layouts.specs.declared.heap2.Heap2Op.TheVariants as heap2
use Rattle.record_layouts.specs.declared.operation.Operation.{Operation}
use Rattle.record_layouts.specs.declared.operation.Operation.TheVariants as op
use Rattle.storage_replay.specs.Cutting.{same_fork}
use Rattle.wal_records.specs.Reading.{LogRecord}
use Rattle.file_effects.specs.declared.clearing.ClearedBits.{ClearedBits}
use Rattle.file_effects.specs.declared.clearing.ClearedBits.TheVariants.{Both, AllFrozen}
use Rattle.file_effects.specs.declared.clearing.Clearing.{Clearing}
use Rattle.file_effects.specs.declared.clearing.Clears.{Clears}

-- VISIBILITYMAP_VALID_BITS, VISIBILITYMAP_ALL_FROZEN
abbrev pub bits_number : ClearedBits → ℕ
bits_number Both = 3
bits_number AllFrozen = 2

-- bits of a block, where it is of a main fork
abbrev pub bits_of : ClearedBits → BlockName → Option Clearing
bits_of bits name = if same_fork name.fork Main then Some (record { rel = name.rel; block = name.block; bits = bits }) else None

-- of the block that a reference names, where a flag says that its page lost PD_ALL_VISIBLE
abbrev pub flagged : PartsView → ClearedBits → (id flags flag : ℕ) → Option Clearing
flagged parts bits id flags flag = if has_bits flags flag then option_and_then (λ placed. bits_of bits placed.block.name) (block_with id parts.blocks) else None

abbrev pub no_clears : Clears
no_clears = record { first = None; second = None }

-- both bits of block 0: XLH_INSERT_ALL_VISIBLE_CLEARED, XLH_DELETE_ALL_VISIBLE_CLEARED
abbrev pub visible_cleared : PartsView → (flags : ℕ) → Clears
visible_cleared parts flags = record { first = flagged parts Both 0 flags 1; second = None }

-- only the bit for all frozen: XLH_LOCK_ALL_FROZEN_CLEARED
abbrev pub frozen_cleared : PartsView → (flags : ℕ) → Clears
frozen_cleared parts flags = record { first = flagged parts AllFrozen 0 flags 1; second = None }

-- an update's old tuple is on block 1, or on block 0 with the new one
abbrev pub old_id : PartsView → ℕ
old_id parts = if is_some (block_with 1 parts.blocks) then 1 else 0

-- XLH_UPDATE_OLD_ALL_VISIBLE_CLEARED (1), XLH_UPDATE_NEW_ALL_VISIBLE_CLEARED (2)
abbrev pub update_cleared : PartsView → (flags : ℕ) → Clears
update_cleared parts flags = record { first = flagged parts Both (old_id parts) flags 1; second = flagged parts Both 0 flags 2 }

-- a short layout clears nothing
abbrev pub cleared_by_heap : HeapOp → List ℕ → PartsView → Clears
cleared_by_heap (heap.Insert init) main parts = option_map_or (λ insert. visible_cleared parts insert.flags) (heap_insert_of main) no_clears
cleared_by_heap heap.Delete main parts = option_map_or (λ delete. visible_cleared parts delete.flags) (heap_delete_of main) no_clears
cleared_by_heap (heap.Update init) main parts = option_map_or (λ update. update_cleared parts update.flags) (heap_update_of main) no_clears
cleared_by_heap (heap.HotUpdate init) main parts = option_map_or (λ update. update_cleared parts update.flags) (heap_update_of main) no_clears
cleared_by_heap heap.Lock main parts = option_map_or (λ lock. frozen_cleared parts lock.flags) (heap_lock_of main) no_clears
cleared_by_heap _ main parts = no_clears

abbrev pub cleared_by_heap2 : Heap2Op → List ℕ → PartsView → Clears
cleared_by_heap2 (heap2.MultiInsert init) main parts = option_map_or (λ insert. visible_cleared parts insert.flags) (multi_insert_of init main) no_clears
cleared_by_heap2 heap2.LockUpdated main parts = option_map_or (λ lock. frozen_cleared parts lock.flags) (heap_lock_of main) no_clears
cleared_by_heap2 _ main parts = no_clears

abbrev pub cleared_by : Operation → List ℕ → PartsView → Clears
cleared_by (op.Heap o) main parts = cleared_by_heap o main parts
cleared_by (op.Heap2 o) main parts = cleared_by_heap2 o main parts
cleared_by _ main parts = no_clears

abbrev pub listed : Option Clearing → List Clearing
listed None = []
listed (Some clearing) = clearing ∷ []

-- in their order
abbrev pub all_listed : Clears → List Clearing
all_listed clears = listed clears.first ++ listed clears.second

abbrev pub clears_in : LogRecord → PartsView → Clears
clears_in rec parts = cleared_by (operation_of rec.header.manager rec.header.info) (main_bytes rec.body parts) parts

-- the bits that a record clears, an update's old block first
abbrev pub map_clears : LogRecord → PartsView → List Clearing
map_clears rec parts = all_listed (clears_in rec parts)
