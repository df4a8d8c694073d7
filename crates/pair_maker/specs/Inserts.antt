-- The tuples of a pair, and the records that insert them: PostgreSQL 16, src/include/access/heapam_xlog.h, xl_heap_insert and xl_heap_header;
-- src/include/access/htup_details.h. Own: "A pair from a number".
use Rattle.std.specs.Prelude.{ℕ, ◌+◌, ◌*◌, ◌%◌, ◌^◌, ◌==◌, Bool, false, List, [], ◌∷◌, ◌++◌, filter, None}
use Rattle.std.specs.List.{range_with_len}
use Rattle.byteorder.specs.Endian.{little_bytes}
use Rattle.block_layouts.specs.Tuple.{TupleView}
use Rattle.block_refs.specs.Written.{Written, body_bytes}
use Rattle.block_refs.specs.declared.names.Fork.TheVariants.{Main}
use Rattle.block_refs.specs.declared.names.RelName.{RelName}
use Rattle.wal_records.specs.Writer.{NewRecord, new_record}
use Rattle.pair_maker.specs.declared.side.Side.{Side}
use Rattle.pair_maker.specs.declared.side.Side.TheVariants.{Target, Source}

-- whether a cluster has a tuple of its own in a block
abbrev pub inserts_into : Side → (seed block : ℕ) → Bool
inserts_into Target seed block = (7 * block + seed) % 5 == 0
inserts_into Source seed block = (11 * block + seed) % 3 == 0

-- those of the first so many blocks, in ascending order
abbrev pub insert_blocks : Side → (seed blocks : ℕ) → List ℕ
insert_blocks side seed blocks = filter (inserts_into side seed) (range_with_len 0 blocks)

-- the relation of a pair
abbrev pub pair_relation : RelName
pair_relation = record { space = 1663; database = 5; relation = 16384 }

-- the transaction of all inserts
abbrev pub transaction : ℕ
transaction = 700

-- the tuple of a block: one column, not deleted (HEAP_XMAX_INVALID), which begins at byte 24, behind one of zero: the block's number and the seed
abbrev pub tuple_of : (seed block : ℕ) → TupleView
tuple_of seed block = record {
  header = record { infomask2 = 1; infomask = 0x0800; hoff = 24 };
  bytes = 0 ∷ little_bytes 4 ((block + seed) % 2 ^ 32);
}

-- a tuple as a record has it: xl_heap_header, and its bytes
abbrev pub tuple_bytes : TupleView → List ℕ
tuple_bytes tuple = little_bytes 2 tuple.header.infomask2 ++ (little_bytes 2 tuple.header.infomask ++ (tuple.header.hoff ∷ tuple.bytes))

-- the one block of the record of an insert, with its tuple
abbrev pub insert_block : (seed block : ℕ) → Written
insert_block seed block = record {
  block = record { id = 0; name = record { rel = pair_relation; fork = Main; block = block }; will_init = false; image = None };
  image = [];
  bytes = tuple_bytes (tuple_of seed block);
}

-- xl_heap_insert: the page's first place, and no flag
abbrev pub insert_main : List ℕ
insert_main = little_bytes 2 1 ++ 0 ∷ []

unfoldable pub insert_body : (seed block : ℕ) → List ℕ
insert_body seed block = body_bytes (insert_block seed block ∷ []) insert_main

-- XLOG_HEAP_INSERT of the manager Heap (10)
abbrev pub insert_record : (seed block : ℕ) → NewRecord
insert_record seed block = new_record transaction 0 10 (insert_body seed block)
