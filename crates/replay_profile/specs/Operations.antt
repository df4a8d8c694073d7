-- The operations that replay carries out or knows to do nothing to files: PostgreSQL 16, src/include/access/rmgrlist.h.
-- Own: "The profile of replay".
use Rattle.std.specs.Prelude.{ℕ, ◌==◌, Bool, true, false, not}
use Rattle.record_layouts.specs.declared.btree.BtreeOp.{BtreeOp}
use Rattle.record_layouts.specs.declared.btree.BtreeOp.TheVariants as btree
use Rattle.record_layouts.specs.declared.clog.ClogOp.{ClogOp}
use Rattle.record_layouts.specs.declared.clog.ClogOp.TheVariants as clog
use Rattle.record_layouts.specs.declared.database.DatabaseOp.{DatabaseOp}
use Rattle.record_layouts.specs.declared.database.DatabaseOp.TheVariants as database
use Rattle.record_layouts.specs.declared.heap2.Heap2Op.{Heap2Op}
use Rattle.record_layouts.specs.declared.heap2.Heap2Op.TheVariants as heap2
use Rattle.record_layouts.specs.declared.multixact.MultiXactOp.{MultiXactOp}
use Rattle.record_layouts.specs.declared.multixact.MultiXactOp.TheVariants as multixact
use Rattle.record_layouts.specs.declared.operation.Operation.{Operation}
use Rattle.record_layouts.specs.declared.operation.Operation.TheVariants as op
use Rattle.record_layouts.specs.declared.relmap.RelMapOp.{RelMapOp}
use Rattle.record_layouts.specs.declared.relmap.RelMapOp.TheVariants as relmap
use Rattle.record_layouts.specs.declared.sequence.SequenceOp.{SequenceOp}
use Rattle.record_layouts.specs.declared.sequence.SequenceOp.TheVariants as sequence
use Rattle.record_layouts.specs.declared.storage.StorageOp.{StorageOp}
use Rattle.record_layouts.specs.declared.storage.StorageOp.TheVariants as storage
use Rattle.record_layouts.specs.declared.transaction.TransactionOp.{TransactionOp}
use Rattle.record_layouts.specs.declared.transaction.TransactionOp.TheVariants as transaction
use Rattle.record_layouts.specs.declared.xlog.XlogOp.{XlogOp}
use Rattle.record_layouts.specs.declared.xlog.XlogOp.TheVariants as xlog

-- all that have a name
abbrev pub knows_xlog : XlogOp → Bool
knows_xlog (xlog.Unlisted number) = false
knows_xlog _ = true

-- all that have a name but those of prepared transactions
abbrev pub knows_transaction : TransactionOp → Bool
knows_transaction (transaction.End outcome prepared has_xinfo) = not prepared
knows_transaction transaction.Prepare = false
knows_transaction transaction.Assignment = true
knows_transaction transaction.Invalidation = true
knows_transaction (transaction.Unlisted number) = false

-- all that have a name
abbrev pub knows_storage : StorageOp → Bool
knows_storage (storage.Unlisted number) = false
knows_storage _ = true

abbrev pub knows_clog : ClogOp → Bool
knows_clog (clog.Unlisted number) = false
knows_clog _ = true

-- no copy of another database's files, which the log doesn't have
abbrev pub knows_database : DatabaseOp → Bool
knows_database database.CreateFileCopy = false
knows_database database.CreateWalLog = true
knows_database database.Drop = true
knows_database (database.Unlisted number) = false

-- all that have a name
abbrev pub knows_multixact : MultiXactOp → Bool
knows_multixact (multixact.Unlisted number) = false
knows_multixact _ = true

abbrev pub knows_relmap : RelMapOp → Bool
knows_relmap (relmap.Unlisted number) = false
knows_relmap _ = true

-- no mapping of rewritten tuples, which is a file of logical decoding
abbrev pub knows_heap2 : Heap2Op → Bool
knows_heap2 heap2.Rewrite = false
knows_heap2 _ = true

-- none that takes a page out of the tree
abbrev pub knows_btree : BtreeOp → Bool
knows_btree btree.UnlinkPage = false
knows_btree btree.UnlinkPageMeta = false
knows_btree btree.MarkPageHalfDead = false
knows_btree (btree.Unlisted number) = false
knows_btree _ = true

-- all that have a name
abbrev pub knows_sequence : SequenceOp → Bool
knows_sequence (sequence.Unlisted number) = false
knows_sequence _ = true

-- of the managers whose operations aren't told apart that of messages of logical decoding, RM_LOGICALMSG_ID, alone
abbrev pub knows_other : ℕ → Bool
knows_other manager = manager == 21

-- an operation that replay knows
abbrev pub is_known_operation : Operation → Bool
is_known_operation (op.Xlog o) = knows_xlog o
is_known_operation (op.Transaction o) = knows_transaction o
is_known_operation (op.Storage o) = knows_storage o
is_known_operation (op.Clog o) = knows_clog o
is_known_operation (op.Database o) = knows_database o
is_known_operation (op.Tablespace o) = false
is_known_operation (op.MultiXact o) = knows_multixact o
is_known_operation (op.RelMap o) = knows_relmap o
is_known_operation (op.Standby o) = true
is_known_operation (op.Heap2 o) = knows_heap2 o
is_known_operation (op.Heap o) = true
is_known_operation (op.Btree o) = knows_btree o
is_known_operation (op.Sequence o) = knows_sequence o
is_known_operation (op.Other manager number) = knows_other manager
