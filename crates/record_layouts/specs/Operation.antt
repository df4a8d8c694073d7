-- The operation of a record, by its resource manager: PostgreSQL 16, src/include/access/rmgrlist.h.
use Rattle.std.specs.Prelude.{ℕ, ◌==◌, ◌||◌, Bool, true, List, bit_and, if◌then◌else◌}
use Rattle.record_layouts.specs.declared.operation.Operation.{Operation}
use Rattle.record_layouts.specs.declared.operation.Operation.TheVariants.{Xlog, Transaction, Storage, Clog, Database, Tablespace, MultiXact, RelMap, Standby, Heap2, Heap, Btree, Sequence, Other}
use Rattle.record_layouts.specs.Xlog.{xlog_op_of, xlog_number, xlog_is_whole}
use Rattle.record_layouts.specs.Transaction.{transaction_op_of, transaction_number, transaction_is_whole}
use Rattle.record_layouts.specs.Storage.{storage_op_of, storage_number, storage_is_whole}
use Rattle.record_layouts.specs.Clog.{clog_op_of, clog_number, clog_is_whole}
use Rattle.record_layouts.specs.Database.{database_op_of, database_number, database_is_whole}
use Rattle.record_layouts.specs.Tablespace.{tablespace_op_of, tablespace_number}
use Rattle.record_layouts.specs.MultiXact.{multixact_op_of, multixact_number, multixact_is_whole}
use Rattle.record_layouts.specs.RelMap.{relmap_op_of, relmap_number, relmap_is_whole}
use Rattle.record_layouts.specs.Standby.{standby_op_of, standby_number, standby_is_whole}
use Rattle.record_layouts.specs.Heap2.{heap2_op_of, heap2_number, heap2_is_whole}
use Rattle.record_layouts.specs.Heap.{heap_op_of, heap_number, heap_is_whole}
use Rattle.record_layouts.specs.Btree.{btree_op_of, btree_number, btree_is_whole}
use Rattle.record_layouts.specs.Sequence.{sequence_op_of, sequence_number, sequence_is_whole}

-- what a record with this manager and this `info` does
unfoldable pub operation_of : ℕ → ℕ → Operation
operation_of manager info =
    if manager == 0 then Xlog (xlog_op_of info)
    else if manager == 1 then Transaction (transaction_op_of info)
    else if manager == 2 then Storage (storage_op_of info)
    else if manager == 3 then Clog (clog_op_of info)
    else if manager == 4 then Database (database_op_of info)
    else if manager == 5 then Tablespace (tablespace_op_of info)
    else if manager == 6 then MultiXact (multixact_op_of info)
    else if manager == 7 then RelMap (relmap_op_of info)
    else if manager == 8 then Standby (standby_op_of info)
    else if manager == 9 then Heap2 (heap2_op_of info)
    else if manager == 10 then Heap (heap_op_of info)
    else if manager == 11 then Btree (btree_op_of info)
    else if manager == 15 then Sequence (sequence_op_of info)
    else Other manager (bit_and info 0xF0)

-- the number of its manager
abbrev pub manager_of : Operation → ℕ
manager_of (Xlog op) = 0
manager_of (Transaction op) = 1
manager_of (Storage op) = 2
manager_of (Clog op) = 3
manager_of (Database op) = 4
manager_of (Tablespace op) = 5
manager_of (MultiXact op) = 6
manager_of (RelMap op) = 7
manager_of (Standby op) = 8
manager_of (Heap2 op) = 9
manager_of (Heap op) = 10
manager_of (Btree op) = 11
manager_of (Sequence op) = 15
manager_of (Other manager number) = manager

-- its own number
abbrev pub number_of : Operation → ℕ
number_of (Xlog op) = xlog_number op
number_of (Transaction op) = transaction_number op
number_of (Storage op) = storage_number op
number_of (Clog op) = clog_number op
number_of (Database op) = database_number op
number_of (Tablespace op) = tablespace_number op
number_of (MultiXact op) = multixact_number op
number_of (RelMap op) = relmap_number op
number_of (Standby op) = standby_number op
number_of (Heap2 op) = heap2_number op
number_of (Heap op) = heap_number op
number_of (Btree op) = btree_number op
number_of (Sequence op) = sequence_number op
number_of (Other manager number) = number

-- the managers whose info has a flag, 80, beside the number of the operation: XLOG_XACT_OPMASK, XLOG_HEAP_OPMASK
abbrev pub has_flag : ℕ → Bool
has_flag manager = manager == 1 || manager == 9 || manager == 10

-- the number of an operation in a record's info, whose low four bits belong to every manager alike
abbrev pub numbered : ℕ → ℕ → ℕ
numbered manager info = bit_and info (if has_flag manager then 0x70 else 0xF0)

-- the main bytes hold the whole layout of an operation; one whose layout isn't read here is whole
abbrev pub is_whole : Operation → List ℕ → Bool
is_whole (Xlog op) main = xlog_is_whole op main
is_whole (Transaction op) main = transaction_is_whole op main
is_whole (Storage op) main = storage_is_whole op main
is_whole (Clog op) main = clog_is_whole op main
is_whole (Database op) main = database_is_whole op main
is_whole (Tablespace op) main = true
is_whole (MultiXact op) main = multixact_is_whole op main
is_whole (RelMap op) main = relmap_is_whole op main
is_whole (Standby op) main = standby_is_whole op main
is_whole (Heap2 op) main = heap2_is_whole op main
is_whole (Heap op) main = heap_is_whole op main
is_whole (Btree op) main = btree_is_whole op main
is_whole (Sequence op) main = sequence_is_whole op main
is_whole (Other manager number) main = true
