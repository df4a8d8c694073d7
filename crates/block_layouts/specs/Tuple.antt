-- A heap tuple in a block's bytes: PostgreSQL 16, src/include/access/heapam_xlog.h, xl_heap_header; of the tuple's
-- own header the record holds three fields, and then its bytes from 23 on (SizeofHeapTupleHeader).
use Rattle.std.specs.Prelude.{ℕ, ◌+◌, List, drop, Option}
use Rattle.layout.specs.Readers.{u8_at, u16_at}
use Rattle.block_layouts.specs.declared.tuple.HeapTuple.{HeapTuple}
use Rattle.block_layouts.specs.declared.tuple.TupleHeader.{TupleHeader}
use Rattle.layout_readers.specs.Whole.{whole}

-- a header with the bytes that stand behind it
pub record TupleView : Type 0 where
  pub header : TupleHeader
  pub bytes : List ℕ

-- what a clause sees of a tuple
abbrev pub tuple_seen : HeapTuple → TupleView
tuple_seen tuple = record { header = tuple.header; bytes = tuple.bytes.now }

-- the five bytes of a tuple's header
abbrev pub header_at : ℕ → List ℕ → TupleHeader
header_at at bytes = record {
  infomask2 = u16_at at bytes;
  infomask = u16_at (at + 2) bytes;
  hoff = u8_at (at + 4) bytes;
}

-- the tuple of an INSERT: its header, and all that follows
abbrev pub insert_tuple_of : List ℕ → Option TupleView
insert_tuple_of bytes = whole 5 bytes record { header = header_at 0 bytes; bytes = drop 5 bytes }
