-- The names of operations: PostgreSQL 16, src/backend/access/rmgrdesc, the functions *_identify; docs/RECORDS.md.
use Rattle.std.specs.Prelude.{ℕ, ◌&&◌, ◌||◌, Bool, true, false, List, [], ◌++◌, Option, None, Some, codes, nat_le, if◌then◌else◌}
use Rattle.std.specs.Fmt.{digits}
use Rattle.wal_base.specs.Hex.{hex2}
use Rattle.record_layouts.specs.Operation.{manager_of, number_of, operation_of}
use Rattle.record_layouts.specs.declared.end_parts.Outcome.{Outcome}
use Rattle.record_layouts.specs.declared.end_parts.Outcome.TheVariants.{Commit, Abort}
use Rattle.record_layouts.specs.declared.operation.Operation.{Operation}
use Rattle.record_layouts.specs.declared.operation.Operation.TheVariants as of
use Rattle.record_layouts.specs.declared.xlog.XlogOp.{XlogOp}
use Rattle.record_layouts.specs.declared.xlog.XlogOp.TheVariants as xlog
use Rattle.record_layouts.specs.declared.transaction.TransactionOp.{TransactionOp}
use Rattle.record_layouts.specs.declared.transaction.TransactionOp.TheVariants as transaction
use Rattle.record_layouts.specs.declared.storage.StorageOp.{StorageOp}
use Rattle.record_layouts.specs.declared.storage.StorageOp.TheVariants as storage
use Rattle.record_layouts.specs.declared.clog.ClogOp.{ClogOp}
use Rattle.record_layouts.specs.declared.clog.ClogOp.TheVariants as clog
use Rattle.record_layouts.specs.declared.database.DatabaseOp.{DatabaseOp}
use Rattle.record_layouts.specs.declared.database.DatabaseOp.TheVariants as database
use Rattle.record_layouts.specs.declared.tablespace.TablespaceOp.{TablespaceOp}
use Rattle.record_layouts.specs.declared.tablespace.TablespaceOp.TheVariants as tablespace
use Rattle.record_layouts.specs.declared.multixact.MultiXactOp.{MultiXactOp}
use Rattle.record_layouts.specs.declared.multixact.MultiXactOp.TheVariants as multixact
use Rattle.record_layouts.specs.declared.relmap.RelMapOp.{RelMapOp}
use Rattle.record_layouts.specs.declared.relmap.RelMapOp.TheVariants as relmap
use Rattle.record_layouts.specs.declared.standby.StandbyOp.{StandbyOp}
use Rattle.record_layouts.specs.declared.standby.StandbyOp.TheVariants as standby
use Rattle.record_layouts.specs.declared.heap2.Heap2Op.{Heap2Op}
use Rattle.record_layouts.specs.declared.heap2.Heap2Op.TheVariants as heap2
use Rattle.record_layouts.specs.declared.heap.HeapOp.{HeapOp}
use Rattle.record_layouts.specs.declared.heap.HeapOp.TheVariants as heap
use Rattle.record_layouts.specs.declared.btree.BtreeOp.{BtreeOp}
use Rattle.record_layouts.specs.declared.btree.BtreeOp.TheVariants as btree
use Rattle.record_layouts.specs.declared.sequence.SequenceOp.{SequenceOp}
use Rattle.record_layouts.specs.declared.sequence.SequenceOp.TheVariants as sequence

-- XLOG
abbrev pub xlog_name : XlogOp → Option (List ℕ)
xlog_name xlog.CheckpointShutdown = Some (codes "CHECKPOINT_SHUTDOWN")
xlog_name xlog.CheckpointOnline = Some (codes "CHECKPOINT_ONLINE")
xlog_name xlog.Noop = Some (codes "NOOP")
xlog_name xlog.NextOid = Some (codes "NEXTOID")
xlog_name xlog.Switch = Some (codes "SWITCH")
xlog_name xlog.BackupEnd = Some (codes "BACKUP_END")
xlog_name xlog.ParameterChange = Some (codes "PARAMETER_CHANGE")
xlog_name xlog.RestorePoint = Some (codes "RESTORE_POINT")
xlog_name xlog.FpwChange = Some (codes "FPW_CHANGE")
xlog_name xlog.EndOfRecovery = Some (codes "END_OF_RECOVERY")
xlog_name xlog.FpiForHint = Some (codes "FPI_FOR_HINT")
xlog_name xlog.Fpi = Some (codes "FPI")
xlog_name xlog.OverwriteContrecord = Some (codes "OVERWRITE_CONTRECORD")
xlog_name (xlog.Unlisted number) = None

-- Transaction: how a transaction ends, and its other operations
abbrev pub end_name : Outcome → Bool → List ℕ
end_name Commit false = codes "COMMIT"
end_name Abort false = codes "ABORT"
end_name Commit true = codes "COMMIT_PREPARED"
end_name Abort true = codes "ABORT_PREPARED"

abbrev pub transaction_name : TransactionOp → Option (List ℕ)
transaction_name (transaction.End outcome prepared has_xinfo) = Some (end_name outcome prepared)
transaction_name transaction.Prepare = Some (codes "PREPARE")
transaction_name transaction.Assignment = Some (codes "ASSIGNMENT")
transaction_name transaction.Invalidation = Some (codes "INVALIDATION")
transaction_name (transaction.Unlisted number) = None

-- Storage
abbrev pub storage_name : StorageOp → Option (List ℕ)
storage_name storage.Create = Some (codes "CREATE")
storage_name storage.Truncate = Some (codes "TRUNCATE")
storage_name (storage.Unlisted number) = None

-- CLOG
abbrev pub clog_name : ClogOp → Option (List ℕ)
clog_name clog.ZeroPage = Some (codes "ZEROPAGE")
clog_name clog.Truncate = Some (codes "TRUNCATE")
clog_name (clog.Unlisted number) = None

-- Database
abbrev pub database_name : DatabaseOp → Option (List ℕ)
database_name database.CreateFileCopy = Some (codes "CREATE_FILE_COPY")
database_name database.CreateWalLog = Some (codes "CREATE_WAL_LOG")
database_name database.Drop = Some (codes "DROP")
database_name (database.Unlisted number) = None

-- Tablespace
abbrev pub tablespace_name : TablespaceOp → Option (List ℕ)
tablespace_name tablespace.Create = Some (codes "CREATE")
tablespace_name tablespace.Drop = Some (codes "DROP")
tablespace_name (tablespace.Unlisted number) = None

-- MultiXact
abbrev pub multixact_name : MultiXactOp → Option (List ℕ)
multixact_name multixact.ZeroOffsetsPage = Some (codes "ZERO_OFF_PAGE")
multixact_name multixact.ZeroMembersPage = Some (codes "ZERO_MEM_PAGE")
multixact_name multixact.CreateId = Some (codes "CREATE_ID")
multixact_name multixact.TruncateId = Some (codes "TRUNCATE_ID")
multixact_name (multixact.Unlisted number) = None

-- RelMap
abbrev pub relmap_name : RelMapOp → Option (List ℕ)
relmap_name relmap.Update = Some (codes "UPDATE")
relmap_name (relmap.Unlisted number) = None

-- Standby
abbrev pub standby_name : StandbyOp → Option (List ℕ)
standby_name standby.Lock = Some (codes "LOCK")
standby_name standby.RunningXacts = Some (codes "RUNNING_XACTS")
standby_name standby.Invalidations = Some (codes "INVALIDATIONS")
standby_name (standby.Unlisted number) = None

-- Heap2
abbrev pub heap2_name : Heap2Op → List ℕ
heap2_name heap2.Rewrite = codes "REWRITE"
heap2_name heap2.Prune = codes "PRUNE"
heap2_name heap2.Vacuum = codes "VACUUM"
heap2_name heap2.FreezePage = codes "FREEZE_PAGE"
heap2_name heap2.Visible = codes "VISIBLE"
heap2_name (heap2.MultiInsert init) = codes "MULTI_INSERT"
heap2_name heap2.LockUpdated = codes "LOCK_UPDATED"
heap2_name heap2.NewCid = codes "NEW_CID"

-- Heap
abbrev pub heap_name : HeapOp → List ℕ
heap_name (heap.Insert init) = codes "INSERT"
heap_name heap.Delete = codes "DELETE"
heap_name (heap.Update init) = codes "UPDATE"
heap_name heap.Truncate = codes "TRUNCATE"
heap_name (heap.HotUpdate init) = codes "HOT_UPDATE"
heap_name heap.HeapConfirm = codes "HEAP_CONFIRM"
heap_name heap.Lock = codes "LOCK"
heap_name heap.Inplace = codes "INPLACE"

-- Btree
abbrev pub btree_name : BtreeOp → Option (List ℕ)
btree_name btree.InsertLeaf = Some (codes "INSERT_LEAF")
btree_name btree.InsertUpper = Some (codes "INSERT_UPPER")
btree_name btree.InsertMeta = Some (codes "INSERT_META")
btree_name btree.SplitLeft = Some (codes "SPLIT_L")
btree_name btree.SplitRight = Some (codes "SPLIT_R")
btree_name btree.InsertPost = Some (codes "INSERT_POST")
btree_name btree.Dedup = Some (codes "DEDUP")
btree_name btree.Delete = Some (codes "DELETE")
btree_name btree.UnlinkPage = Some (codes "UNLINK_PAGE")
btree_name btree.UnlinkPageMeta = Some (codes "UNLINK_PAGE_META")
btree_name btree.NewRoot = Some (codes "NEWROOT")
btree_name btree.MarkPageHalfDead = Some (codes "MARK_PAGE_HALFDEAD")
btree_name btree.Vacuum = Some (codes "VACUUM")
btree_name btree.ReusePage = Some (codes "REUSE_PAGE")
btree_name btree.MetaCleanup = Some (codes "META_CLEANUP")
btree_name (btree.Unlisted number) = None

-- Sequence
abbrev pub sequence_name : SequenceOp → Option (List ℕ)
sequence_name sequence.Log = Some (codes "LOG")
sequence_name (sequence.Unlisted number) = None

-- the name of an operation that is in a row of docs/RECORDS.md
abbrev pub listed_name : Operation → Option (List ℕ)
listed_name (of.Xlog op) = xlog_name op
listed_name (of.Transaction op) = transaction_name op
listed_name (of.Storage op) = storage_name op
listed_name (of.Clog op) = clog_name op
listed_name (of.Database op) = database_name op
listed_name (of.Tablespace op) = tablespace_name op
listed_name (of.MultiXact op) = multixact_name op
listed_name (of.RelMap op) = relmap_name op
listed_name (of.Standby op) = standby_name op
listed_name (of.Heap2 op) = Some (heap2_name op)
listed_name (of.Heap op) = Some (heap_name op)
listed_name (of.Btree op) = btree_name op
listed_name (of.Sequence op) = sequence_name op
listed_name (of.Other manager number) = None

-- the page is made anew first: the flag XLOG_HEAP_INIT_PAGE
abbrev pub heap_inits : HeapOp → Bool
heap_inits (heap.Insert init) = init
heap_inits heap.Delete = false
heap_inits (heap.Update init) = init
heap_inits heap.Truncate = false
heap_inits (heap.HotUpdate init) = init
heap_inits heap.HeapConfirm = false
heap_inits heap.Lock = false
heap_inits heap.Inplace = false

abbrev pub heap2_inits : Heap2Op → Bool
heap2_inits heap2.Rewrite = false
heap2_inits heap2.Prune = false
heap2_inits heap2.Vacuum = false
heap2_inits heap2.FreezePage = false
heap2_inits heap2.Visible = false
heap2_inits (heap2.MultiInsert init) = init
heap2_inits heap2.LockUpdated = false
heap2_inits heap2.NewCid = false

abbrev pub inits : Operation → Bool
inits (of.Xlog op) = false
inits (of.Transaction op) = false
inits (of.Storage op) = false
inits (of.Clog op) = false
inits (of.Database op) = false
inits (of.Tablespace op) = false
inits (of.MultiXact op) = false
inits (of.RelMap op) = false
inits (of.Standby op) = false
inits (of.Heap2 op) = heap2_inits op
inits (of.Heap op) = heap_inits op
inits (of.Btree op) = false
inits (of.Sequence op) = false
inits (of.Other manager number) = false

abbrev pub init_mark : Operation → List ℕ
init_mark operation = if inits operation then codes "+INIT" else []

-- the managers whose operations have no names here, own: 12 to 14, 16 to 21, and the custom ones
abbrev pub is_unnamed : ℕ → Bool
is_unnamed manager =
    nat_le 12 manager && nat_le manager 14 || nat_le 16 manager && nat_le manager 21 || nat_le 128 manager

-- an operation that is told by its number
abbrev pub numbered_name : Operation → List ℕ
numbered_name operation =
    if is_unnamed (manager_of operation) then codes "INFO_" ++ hex2 (number_of operation)
    else codes "UNKNOWN (" ++ (digits 16 false (number_of operation) ++ codes ")")

abbrev pub named_by : Option (List ℕ) → Operation → List ℕ
named_by (Some name) operation = name ++ init_mark operation
named_by None operation = numbered_name operation

-- the name of an operation
unfoldable pub name_of : Operation → List ℕ
name_of operation = named_by (listed_name operation) operation

-- the name of the operation of a record with this manager and this info
unfoldable pub operation_name_of : ℕ → ℕ → List ℕ
operation_name_of manager info = name_of (operation_of manager info)
