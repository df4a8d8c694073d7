-- The manager Heap: PostgreSQL 16, src/include/access/heapam_xlog.h.
use Rattle.std.specs.Prelude.{ℕ, List, ◌==◌, bit_and, if◌then◌else◌, Option, Bool, is_some}
use Rattle.layout.specs.Readers.{u8_at, u16_at, u32_at}
use Rattle.layout_readers.specs.Whole.{whole}
use Rattle.block_refs.specs.Bits.{has_bits}
use Rattle.record_layouts.specs.declared.heap.HeapOp.{HeapOp}
use Rattle.record_layouts.specs.declared.heap.HeapOp.TheVariants as op
use Rattle.record_layouts.specs.declared.heap.HeapInsert.{HeapInsert}
use Rattle.record_layouts.specs.declared.heap.HeapDelete.{HeapDelete}
use Rattle.record_layouts.specs.declared.heap.HeapUpdate.{HeapUpdate}
use Rattle.record_layouts.specs.declared.heap.HeapTruncate.{HeapTruncate}
use Rattle.record_layouts.specs.declared.heap.HeapConfirm.{HeapConfirm}
use Rattle.record_layouts.specs.declared.heap.HeapLock.{HeapLock}
use Rattle.record_layouts.specs.declared.heap.HeapInplace.{HeapInplace}

-- the operation of a number, and whether the page is made anew first
abbrev pub heap_op_numbered : Bool → ℕ → HeapOp
heap_op_numbered init number =
    if number == 0x00 then op.Insert init
    else if number == 0x10 then op.Delete
    else if number == 0x20 then op.Update init
    else if number == 0x30 then op.Truncate
    else if number == 0x40 then op.HotUpdate init
    else if number == 0x50 then op.HeapConfirm
    else if number == 0x60 then op.Lock
    else op.Inplace

-- the operation of `info`: XLOG_HEAP_OPMASK is 70, and XLOG_HEAP_INIT_PAGE is 80
unfoldable pub heap_op_of : ℕ → HeapOp
heap_op_of info = heap_op_numbered (has_bits info 0x80) (bit_and info 0x70)

-- the number of an operation
abbrev pub heap_number : HeapOp → ℕ
heap_number (op.Insert init) = 0x00
heap_number op.Delete = 0x10
heap_number (op.Update init) = 0x20
heap_number op.Truncate = 0x30
heap_number (op.HotUpdate init) = 0x40
heap_number op.HeapConfirm = 0x50
heap_number op.Lock = 0x60
heap_number op.Inplace = 0x70

-- INSERT: xl_heap_insert
abbrev pub heap_insert_of : List ℕ → Option HeapInsert
heap_insert_of bytes = whole 3 bytes record {
  off = u16_at 0 bytes;
  flags = u8_at 2 bytes;
}

-- DELETE: xl_heap_delete
abbrev pub heap_delete_of : List ℕ → Option HeapDelete
heap_delete_of bytes = whole 8 bytes record {
  xmax = u32_at 0 bytes;
  off = u16_at 4 bytes;
  infobits = u8_at 6 bytes;
  flags = u8_at 7 bytes;
}

-- UPDATE and HOT_UPDATE: xl_heap_update
abbrev pub heap_update_of : List ℕ → Option HeapUpdate
heap_update_of bytes = whole 14 bytes record {
  old_xmax = u32_at 0 bytes;
  old_off = u16_at 4 bytes;
  old_infobits = u8_at 6 bytes;
  flags = u8_at 7 bytes;
  new_xmax = u32_at 8 bytes;
  new_off = u16_at 12 bytes;
}

-- TRUNCATE: xl_heap_truncate, but for its flags and relations
abbrev pub heap_truncate_of : List ℕ → Option HeapTruncate
heap_truncate_of bytes = whole 8 bytes record {
  database = u32_at 0 bytes;
  nrelids = u32_at 4 bytes;
}

-- CONFIRM: xl_heap_confirm
abbrev pub heap_confirm_of : List ℕ → Option HeapConfirm
heap_confirm_of bytes = whole 2 bytes record {
  off = u16_at 0 bytes;
}

-- LOCK, and LOCK_UPDATED of the second manager: xl_heap_lock and xl_heap_lock_updated
abbrev pub heap_lock_of : List ℕ → Option HeapLock
heap_lock_of bytes = whole 8 bytes record {
  xmax = u32_at 0 bytes;
  off = u16_at 4 bytes;
  infobits = u8_at 6 bytes;
  flags = u8_at 7 bytes;
}

-- INPLACE: xl_heap_inplace
abbrev pub heap_inplace_of : List ℕ → Option HeapInplace
heap_inplace_of bytes = whole 2 bytes record {
  off = u16_at 0 bytes;
}

-- the main bytes hold the whole layout of an operation
abbrev pub heap_is_whole : HeapOp → List ℕ → Bool
heap_is_whole (op.Insert init) main = is_some (heap_insert_of main)
heap_is_whole op.Delete main = is_some (heap_delete_of main)
heap_is_whole (op.Update init) main = is_some (heap_update_of main)
heap_is_whole op.Truncate main = is_some (heap_truncate_of main)
heap_is_whole (op.HotUpdate init) main = is_some (heap_update_of main)
heap_is_whole op.HeapConfirm main = is_some (heap_confirm_of main)
heap_is_whole op.Lock main = is_some (heap_lock_of main)
heap_is_whole op.Inplace main = is_some (heap_inplace_of main)
