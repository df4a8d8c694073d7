-- The manager Heap2: PostgreSQL 16, src/include/access/heapam_xlog.h.
use Rattle.std.specs.Prelude.{ℕ, List, ◌==◌, bit_and, if◌then◌else◌, Option, slice_get, Bool, nat_lt, length, drop, None, option_map, true, is_some}
use Rattle.layout.specs.Readers.{u8_at, u16_at, u32_at}
use Rattle.layout_readers.specs.Whole.{whole}
use Rattle.block_refs.specs.Bits.{has_bits}
use Rattle.record_layouts.specs.Heap.{heap_lock_of}
use Rattle.record_layouts.specs.Items.{places_of}
use Rattle.record_layouts.specs.declared.heap2.Heap2Op.{Heap2Op}
use Rattle.record_layouts.specs.declared.heap2.Heap2Op.TheVariants as op
use Rattle.record_layouts.specs.declared.heap2.HeapMultiInsert.{HeapMultiInsert}
use Rattle.record_layouts.specs.declared.heap2.HeapPrune.{HeapPrune}
use Rattle.record_layouts.specs.declared.heap2.HeapVacuum.{HeapVacuum}
use Rattle.record_layouts.specs.declared.heap2.HeapFreezePage.{HeapFreezePage}
use Rattle.record_layouts.specs.declared.heap2.HeapVisible.{HeapVisible}

-- the operation of a number, and whether the page is made anew first
abbrev pub heap2_op_numbered : Bool → ℕ → Heap2Op
heap2_op_numbered init number =
    if number == 0x00 then op.Rewrite
    else if number == 0x10 then op.Prune
    else if number == 0x20 then op.Vacuum
    else if number == 0x30 then op.FreezePage
    else if number == 0x40 then op.Visible
    else if number == 0x50 then op.MultiInsert init
    else if number == 0x60 then op.LockUpdated
    else op.NewCid

-- the operation of `info`: XLOG_HEAP_OPMASK is 70, and XLOG_HEAP_INIT_PAGE is 80
unfoldable pub heap2_op_of : ℕ → Heap2Op
heap2_op_of info = heap2_op_numbered (has_bits info 0x80) (bit_and info 0x70)

-- the number of an operation
abbrev pub heap2_number : Heap2Op → ℕ
heap2_number op.Rewrite = 0x00
heap2_number op.Prune = 0x10
heap2_number op.Vacuum = 0x20
heap2_number op.FreezePage = 0x30
heap2_number op.Visible = 0x40
heap2_number (op.MultiInsert init) = 0x50
heap2_number op.LockUpdated = 0x60
heap2_number op.NewCid = 0x70

-- MULTI_INSERT: xl_heap_multi_insert, flags, an unused byte, the number of tuples, and their places
abbrev pub multi_insert_with : List ℕ → List ℕ → HeapMultiInsert
multi_insert_with bytes places = record { flags = u8_at 0 bytes; ntuples = u16_at 2 bytes; places = places }

abbrev pub multi_insert_of : Bool → List ℕ → Option HeapMultiInsert
multi_insert_of init bytes =
    if nat_lt (length bytes) 4 then None
    else option_map (multi_insert_with bytes) (places_of init (u16_at 2 bytes) (drop 4 bytes))

-- PRUNE: xl_heap_prune, whose last byte may be missing
abbrev pub heap_prune_of : List ℕ → Option HeapPrune
heap_prune_of bytes = whole 8 bytes record {
  horizon = u32_at 0 bytes;
  nredirected = u16_at 4 bytes;
  ndead = u16_at 6 bytes;
  catalog = slice_get bytes 8;
}

-- VACUUM: xl_heap_vacuum
abbrev pub heap_vacuum_of : List ℕ → Option HeapVacuum
heap_vacuum_of bytes = whole 2 bytes record {
  nunused = u16_at 0 bytes;
}

-- FREEZE_PAGE: xl_heap_freeze_page, whose last byte may be missing
abbrev pub heap_freeze_page_of : List ℕ → Option HeapFreezePage
heap_freeze_page_of bytes = whole 6 bytes record {
  horizon = u32_at 0 bytes;
  nplans = u16_at 4 bytes;
  catalog = slice_get bytes 6;
}

-- VISIBLE: xl_heap_visible
abbrev pub heap_visible_of : List ℕ → Option HeapVisible
heap_visible_of bytes = whole 5 bytes record {
  horizon = u32_at 0 bytes;
  flags = u8_at 4 bytes;
}

-- the main bytes hold the whole layout of an operation
abbrev pub heap2_is_whole : Heap2Op → List ℕ → Bool
heap2_is_whole op.Rewrite main = true
heap2_is_whole op.Prune main = is_some (heap_prune_of main)
heap2_is_whole op.Vacuum main = is_some (heap_vacuum_of main)
heap2_is_whole op.FreezePage main = is_some (heap_freeze_page_of main)
heap2_is_whole op.Visible main = is_some (heap_visible_of main)
heap2_is_whole (op.MultiInsert init) main = is_some (multi_insert_of init main)
heap2_is_whole op.LockUpdated main = is_some (heap_lock_of main)
heap2_is_whole op.NewCid main = true
