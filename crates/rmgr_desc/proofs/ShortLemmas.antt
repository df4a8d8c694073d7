-- Where the layout of an operation isn't whole, its text says so.
use Rattle.std.proofs.Common.{◌≡◌, ℕ, false, List, Option, Some, None, is_some, refl}
use Rattle.std.specs.Prelude.{codes}
use Rattle.control_file.specs.Reading.{checkpoint_of}
use Rattle.record_layouts.specs.Operation.{is_whole}
use Rattle.record_layouts.specs.Btree.{btree_dedup_of, btree_delete_of, btree_insert_of, btree_is_whole, btree_new_root_of, btree_split_of, btree_vacuum_of}
use Rattle.record_layouts.specs.Clog.{clog_is_whole, clog_truncate_of, clog_zero_page_of}
use Rattle.record_layouts.specs.Database.{database_copy_of, database_create_of, database_drop_of, database_is_whole}
use Rattle.record_layouts.specs.End.{end_of}
use Rattle.record_layouts.specs.Heap.{heap_confirm_of, heap_delete_of, heap_inplace_of, heap_insert_of, heap_is_whole, heap_lock_of, heap_truncate_of, heap_update_of}
use Rattle.record_layouts.specs.Heap2.{heap2_is_whole, heap_freeze_page_of, heap_prune_of, heap_vacuum_of, heap_visible_of, multi_insert_of}
use Rattle.record_layouts.specs.MultiXact.{multixact_create_of, multixact_is_whole, multixact_truncate_of, multixact_zero_page_of}
use Rattle.record_layouts.specs.RelMap.{relmap_is_whole, relmap_update_of}
use Rattle.record_layouts.specs.Sequence.{sequence_is_whole, sequence_log_of}
use Rattle.record_layouts.specs.Standby.{running_xacts_of, standby_is_whole}
use Rattle.record_layouts.specs.Storage.{storage_create_of, storage_is_whole, storage_truncate_of}
use Rattle.record_layouts.specs.Transaction.{assignment_of, transaction_is_whole}
use Rattle.record_layouts.specs.Xlog.{backup_end_of, end_of_recovery_of, fpw_change_of, next_oid_of, overwrite_contrecord_of, parameter_change_of, restore_point_of, xlog_is_whole}
use Rattle.record_layouts.specs.declared.operation.Operation.{Operation}
use Rattle.record_layouts.specs.declared.operation.Operation.TheVariants as of
use Rattle.record_layouts.specs.declared.xlog.XlogOp.{XlogOp}
use Rattle.record_layouts.specs.declared.xlog.XlogOp.TheVariants as xlog
use Rattle.record_layouts.specs.declared.transaction.TransactionOp.{TransactionOp}
use Rattle.record_layouts.specs.declared.transaction.TransactionOp.TheVariants as transaction
use Rattle.record_layouts.specs.declared.storage.StorageOp.{StorageOp}
use Rattle.record_layouts.specs.declared.storage.StorageOp.TheVariants as storage
use Rattle.record_layouts.specs.declared.clog.ClogOp.{ClogOp}
use Rattle.record_layouts.specs.declared.clog.ClogOp.TheVariants as clog
use Rattle.record_layouts.specs.declared.database.DatabaseOp.{DatabaseOp}
use Rattle.record_layouts.specs.declared.database.DatabaseOp.TheVariants as database
use Rattle.record_layouts.specs.declared.multixact.MultiXactOp.{MultiXactOp}
use Rattle.record_layouts.specs.declared.multixact.MultiXactOp.TheVariants as multixact
use Rattle.record_layouts.specs.declared.relmap.RelMapOp.{RelMapOp}
use Rattle.record_layouts.specs.declared.relmap.RelMapOp.TheVariants as relmap
use Rattle.record_layouts.specs.declared.standby.StandbyOp.{StandbyOp}
use Rattle.record_layouts.specs.declared.standby.StandbyOp.TheVariants as standby
use Rattle.record_layouts.specs.declared.heap2.Heap2Op.{Heap2Op}
use Rattle.record_layouts.specs.declared.heap2.Heap2Op.TheVariants as heap2
use Rattle.record_layouts.specs.declared.heap.HeapOp.{HeapOp}
use Rattle.record_layouts.specs.declared.heap.HeapOp.TheVariants as heap
use Rattle.record_layouts.specs.declared.btree.BtreeOp.{BtreeOp}
use Rattle.record_layouts.specs.declared.btree.BtreeOp.TheVariants as btree
use Rattle.record_layouts.specs.declared.sequence.SequenceOp.{SequenceOp}
use Rattle.record_layouts.specs.declared.sequence.SequenceOp.TheVariants as sequence
use Rattle.rmgr_desc.specs.Pieces.{or_short}
use Rattle.rmgr_desc.specs.Describe.{text_of}
use Rattle.rmgr_desc.specs.Checkpoint.{checkpoint_text}
use Rattle.rmgr_desc.specs.Btree.{btree_text, dedup_text, delete_text, insert_text, new_root_text, split_text, vacuum_text}
use Rattle.rmgr_desc.specs.Clog.{clog_cut_text, clog_page_text, clog_text, multixact_cut_text, multixact_made_text, multixact_page_text, multixact_text}
use Rattle.rmgr_desc.specs.Database.{database_copied_text, database_dropped_text, database_made_text, database_text, relmap_text, relmap_updated_text}
use Rattle.rmgr_desc.specs.Heap.{confirm_text, delete_text as heap_delete_text, freeze_text, heap2_text, heap_text, inplace_text, insert_text as heap_insert_text, lock_text, multi_insert_text, prune_text, truncate_text, update_text, vacuum_text as heap_vacuum_text, visible_text}
use Rattle.rmgr_desc.specs.Standby.{running_text, sequence_log_text, sequence_text, standby_text}
use Rattle.rmgr_desc.specs.Storage.{create_text, cut_text, storage_text}
use Rattle.rmgr_desc.specs.Transaction.{assignment_text, end_text, transaction_text}
use Rattle.rmgr_desc.specs.Xlog.{backup_end_text, fpw_text, next_oid_text, overwrite_text, parameters_text, recovery_text, restore_point_text, xlog_text}

short : {A : Type 0} (text : A → List ℕ) (layout : Option A) → is_some layout ≡ false → or_short text layout ≡ codes "(short)"
short text None h = refl
short text (Some x) h = absurd cc

xlog_short : (op : XlogOp) (main : List ℕ) → xlog_is_whole op main ≡ false → xlog_text op main ≡ codes "(short)"
xlog_short xlog.CheckpointShutdown main h = short (checkpoint_text (codes "shutdown")) (checkpoint_of main) h
xlog_short xlog.CheckpointOnline main h = short (checkpoint_text (codes "online")) (checkpoint_of main) h
xlog_short xlog.Noop main h = absurd cc
xlog_short xlog.NextOid main h = short next_oid_text (next_oid_of main) h
xlog_short xlog.Switch main h = absurd cc
xlog_short xlog.BackupEnd main h = short backup_end_text (backup_end_of main) h
xlog_short xlog.ParameterChange main h = short parameters_text (parameter_change_of main) h
xlog_short xlog.RestorePoint main h = short restore_point_text (restore_point_of main) h
xlog_short xlog.FpwChange main h = short fpw_text (fpw_change_of main) h
xlog_short xlog.EndOfRecovery main h = short recovery_text (end_of_recovery_of main) h
xlog_short xlog.FpiForHint main h = absurd cc
xlog_short xlog.Fpi main h = absurd cc
xlog_short xlog.OverwriteContrecord main h = short overwrite_text (overwrite_contrecord_of main) h
xlog_short (xlog.Unlisted number) main h = absurd cc

transaction_short : (op : TransactionOp) (main : List ℕ) → transaction_is_whole op main ≡ false → transaction_text op main ≡ codes "(short)"
transaction_short (transaction.End outcome prepared has_xinfo) main h = short end_text (end_of outcome has_xinfo main) h
transaction_short transaction.Prepare main h = absurd cc
transaction_short transaction.Assignment main h = short assignment_text (assignment_of main) h
transaction_short transaction.Invalidation main h = absurd cc
transaction_short (transaction.Unlisted number) main h = absurd cc

storage_short : (op : StorageOp) (main : List ℕ) → storage_is_whole op main ≡ false → storage_text op main ≡ codes "(short)"
storage_short storage.Create main h = short create_text (storage_create_of main) h
storage_short storage.Truncate main h = short cut_text (storage_truncate_of main) h
storage_short (storage.Unlisted number) main h = absurd cc

clog_short : (op : ClogOp) (main : List ℕ) → clog_is_whole op main ≡ false → clog_text op main ≡ codes "(short)"
clog_short clog.ZeroPage main h = short clog_page_text (clog_zero_page_of main) h
clog_short clog.Truncate main h = short clog_cut_text (clog_truncate_of main) h
clog_short (clog.Unlisted number) main h = absurd cc

database_short : (op : DatabaseOp) (main : List ℕ) → database_is_whole op main ≡ false → database_text op main ≡ codes "(short)"
database_short database.CreateFileCopy main h = short database_copied_text (database_copy_of main) h
database_short database.CreateWalLog main h = short database_made_text (database_create_of main) h
database_short database.Drop main h = short database_dropped_text (database_drop_of main) h
database_short (database.Unlisted number) main h = absurd cc

multixact_short : (op : MultiXactOp) (main : List ℕ) → multixact_is_whole op main ≡ false → multixact_text op main ≡ codes "(short)"
multixact_short multixact.ZeroOffsetsPage main h = short multixact_page_text (multixact_zero_page_of main) h
multixact_short multixact.ZeroMembersPage main h = short multixact_page_text (multixact_zero_page_of main) h
multixact_short multixact.CreateId main h = short multixact_made_text (multixact_create_of main) h
multixact_short multixact.TruncateId main h = short multixact_cut_text (multixact_truncate_of main) h
multixact_short (multixact.Unlisted number) main h = absurd cc

relmap_short : (op : RelMapOp) (main : List ℕ) → relmap_is_whole op main ≡ false → relmap_text op main ≡ codes "(short)"
relmap_short relmap.Update main h = short relmap_updated_text (relmap_update_of main) h
relmap_short (relmap.Unlisted number) main h = absurd cc

standby_short : (op : StandbyOp) (main : List ℕ) → standby_is_whole op main ≡ false → standby_text op main ≡ codes "(short)"
standby_short standby.Lock main h = absurd cc
standby_short standby.RunningXacts main h = short running_text (running_xacts_of main) h
standby_short standby.Invalidations main h = absurd cc
standby_short (standby.Unlisted number) main h = absurd cc

heap2_short : (op : Heap2Op) (main : List ℕ) → heap2_is_whole op main ≡ false → heap2_text op main ≡ codes "(short)"
heap2_short heap2.Rewrite main h = absurd cc
heap2_short heap2.Prune main h = short prune_text (heap_prune_of main) h
heap2_short heap2.Vacuum main h = short heap_vacuum_text (heap_vacuum_of main) h
heap2_short heap2.FreezePage main h = short freeze_text (heap_freeze_page_of main) h
heap2_short heap2.Visible main h = short visible_text (heap_visible_of main) h
heap2_short (heap2.MultiInsert init) main h = short multi_insert_text (multi_insert_of init main) h
heap2_short heap2.LockUpdated main h = short lock_text (heap_lock_of main) h
heap2_short heap2.NewCid main h = absurd cc

heap_short : (op : HeapOp) (main : List ℕ) → heap_is_whole op main ≡ false → heap_text op main ≡ codes "(short)"
heap_short (heap.Insert init) main h = short heap_insert_text (heap_insert_of main) h
heap_short heap.Delete main h = short heap_delete_text (heap_delete_of main) h
heap_short (heap.Update init) main h = short update_text (heap_update_of main) h
heap_short heap.Truncate main h = short truncate_text (heap_truncate_of main) h
heap_short (heap.HotUpdate init) main h = short update_text (heap_update_of main) h
heap_short heap.HeapConfirm main h = short confirm_text (heap_confirm_of main) h
heap_short heap.Lock main h = short lock_text (heap_lock_of main) h
heap_short heap.Inplace main h = short inplace_text (heap_inplace_of main) h

btree_short : (op : BtreeOp) (main : List ℕ) → btree_is_whole op main ≡ false → btree_text op main ≡ codes "(short)"
btree_short btree.InsertLeaf main h = short insert_text (btree_insert_of main) h
btree_short btree.InsertUpper main h = short insert_text (btree_insert_of main) h
btree_short btree.InsertMeta main h = short insert_text (btree_insert_of main) h
btree_short btree.SplitLeft main h = short split_text (btree_split_of main) h
btree_short btree.SplitRight main h = short split_text (btree_split_of main) h
btree_short btree.InsertPost main h = short insert_text (btree_insert_of main) h
btree_short btree.Dedup main h = short dedup_text (btree_dedup_of main) h
btree_short btree.Delete main h = short delete_text (btree_delete_of main) h
btree_short btree.UnlinkPage main h = absurd cc
btree_short btree.UnlinkPageMeta main h = absurd cc
btree_short btree.NewRoot main h = short new_root_text (btree_new_root_of main) h
btree_short btree.MarkPageHalfDead main h = absurd cc
btree_short btree.Vacuum main h = short vacuum_text (btree_vacuum_of main) h
btree_short btree.ReusePage main h = absurd cc
btree_short btree.MetaCleanup main h = absurd cc
btree_short (btree.Unlisted number) main h = absurd cc

sequence_short : (op : SequenceOp) (main : List ℕ) → sequence_is_whole op main ≡ false → sequence_text op main ≡ codes "(short)"
sequence_short sequence.Log main h = short sequence_log_text (sequence_log_of main) h
sequence_short (sequence.Unlisted number) main h = absurd cc

pub all_short : (op : Operation) (main : List ℕ) → is_whole op main ≡ false → text_of op main ≡ codes "(short)"
all_short (of.Xlog op) main h = xlog_short op main h
all_short (of.Transaction op) main h = transaction_short op main h
all_short (of.Storage op) main h = storage_short op main h
all_short (of.Clog op) main h = clog_short op main h
all_short (of.Database op) main h = database_short op main h
all_short (of.Tablespace op) main h = absurd cc
all_short (of.MultiXact op) main h = multixact_short op main h
all_short (of.RelMap op) main h = relmap_short op main h
all_short (of.Standby op) main h = standby_short op main h
all_short (of.Heap2 op) main h = heap2_short op main h
all_short (of.Heap op) main h = heap_short op main h
all_short (of.Btree op) main h = btree_short op main h
all_short (of.Sequence op) main h = sequence_short op main h
all_short (of.Other manager number) main h = absurd cc
