-- Operations are told by their numbers.
use Rattle.std.proofs.Common.{◌≡◌, ℕ, zero, suc, ◌+◌, ◌<◌, ◌≤◌, Bool, true, false, cond, eqb, refl, sym, ◌∙◌, arith}
use Rattle.std.specs.Prelude.{bit_and}
use Rattle.std.specs.List.{list_all, range_with_len}
use Rattle.std.proofs.lemmas.Bool.{and_parts, eqb-true}
use Rattle.block_refs.specs.Bits.{has_bits}
use Rattle.record_layouts.specs.declared.end_parts.Outcome.TheVariants.{Commit, Abort}
use Rattle.record_layouts.specs.declared.operation.Operation.{Operation}
use Rattle.record_layouts.specs.declared.operation.Operation.TheVariants as of
use Rattle.record_layouts.specs.Operation.{manager_of, number_of, numbered, operation_of}
use Rattle.record_layouts.specs.declared.xlog.XlogOp.TheVariants as xlog
use Rattle.record_layouts.specs.Xlog.{xlog_number, xlog_op_of, xlog_op_numbered}
use Rattle.record_layouts.specs.declared.transaction.TransactionOp.TheVariants as transaction
use Rattle.record_layouts.specs.Transaction.{transaction_number, transaction_op_of, transaction_op_numbered}
use Rattle.record_layouts.specs.declared.storage.StorageOp.TheVariants as storage
use Rattle.record_layouts.specs.Storage.{storage_number, storage_op_of, storage_op_numbered}
use Rattle.record_layouts.specs.declared.clog.ClogOp.TheVariants as clog
use Rattle.record_layouts.specs.Clog.{clog_number, clog_op_of, clog_op_numbered}
use Rattle.record_layouts.specs.declared.database.DatabaseOp.TheVariants as database
use Rattle.record_layouts.specs.Database.{database_number, database_op_of, database_op_numbered}
use Rattle.record_layouts.specs.declared.tablespace.TablespaceOp.TheVariants as tablespace
use Rattle.record_layouts.specs.Tablespace.{tablespace_number, tablespace_op_of, tablespace_op_numbered}
use Rattle.record_layouts.specs.declared.multixact.MultiXactOp.TheVariants as multixact
use Rattle.record_layouts.specs.MultiXact.{multixact_number, multixact_op_of, multixact_op_numbered}
use Rattle.record_layouts.specs.declared.relmap.RelMapOp.TheVariants as relmap
use Rattle.record_layouts.specs.RelMap.{relmap_number, relmap_op_of, relmap_op_numbered}
use Rattle.record_layouts.specs.declared.standby.StandbyOp.TheVariants as standby
use Rattle.record_layouts.specs.Standby.{standby_number, standby_op_of, standby_op_numbered}
use Rattle.record_layouts.specs.Heap2.{heap2_number, heap2_op_of}
use Rattle.record_layouts.specs.Heap.{heap_number, heap_op_of}
use Rattle.record_layouts.specs.declared.btree.BtreeOp.TheVariants as btree
use Rattle.record_layouts.specs.Btree.{btree_number, btree_op_of, btree_op_numbered}
use Rattle.record_layouts.specs.declared.sequence.SequenceOp.TheVariants as sequence
use Rattle.record_layouts.specs.Sequence.{sequence_number, sequence_op_of, sequence_op_numbered}

-- a chain of tests picks what has the number
pick : {A : Type 0} (number : A → ℕ) (n k : ℕ) (here rest : A) → number here ≡ k → number rest ≡ n → number (cond (eqb n k) here rest) ≡ n
pick number n k here rest h r = by (eqb n k) refl
  where
    by : (b : Bool) → eqb n k ≡ b → number (cond b here rest) ≡ n
    by true e = h ∙ sym (eqb-true n k e)
    by false e = r

xlog_numbers : (n : ℕ) → xlog_number (xlog_op_numbered n) ≡ n
xlog_numbers n =
    pick xlog_number n 0x00 xlog.CheckpointShutdown _ refl (
    pick xlog_number n 0x10 xlog.CheckpointOnline _ refl (
    pick xlog_number n 0x20 xlog.Noop _ refl (
    pick xlog_number n 0x30 xlog.NextOid _ refl (
    pick xlog_number n 0x40 xlog.Switch _ refl (
    pick xlog_number n 0x50 xlog.BackupEnd _ refl (
    pick xlog_number n 0x60 xlog.ParameterChange _ refl (
    pick xlog_number n 0x70 xlog.RestorePoint _ refl (
    pick xlog_number n 0x80 xlog.FpwChange _ refl (
    pick xlog_number n 0x90 xlog.EndOfRecovery _ refl (
    pick xlog_number n 0xA0 xlog.FpiForHint _ refl (
    pick xlog_number n 0xB0 xlog.Fpi _ refl (
    pick xlog_number n 0xD0 xlog.OverwriteContrecord _ refl (
    refl)))))))))))))

transaction_numbers : (flag : Bool) (n : ℕ) → transaction_number (transaction_op_numbered flag n) ≡ n
transaction_numbers flag n =
    pick transaction_number n 0x00 (transaction.End Commit false flag) _ refl (
    pick transaction_number n 0x10 transaction.Prepare _ refl (
    pick transaction_number n 0x20 (transaction.End Abort false flag) _ refl (
    pick transaction_number n 0x30 (transaction.End Commit true flag) _ refl (
    pick transaction_number n 0x40 (transaction.End Abort true flag) _ refl (
    pick transaction_number n 0x50 transaction.Assignment _ refl (
    pick transaction_number n 0x60 transaction.Invalidation _ refl (
    refl)))))))

storage_numbers : (n : ℕ) → storage_number (storage_op_numbered n) ≡ n
storage_numbers n =
    pick storage_number n 0x10 storage.Create _ refl (
    pick storage_number n 0x20 storage.Truncate _ refl (
    refl))

clog_numbers : (n : ℕ) → clog_number (clog_op_numbered n) ≡ n
clog_numbers n =
    pick clog_number n 0x00 clog.ZeroPage _ refl (
    pick clog_number n 0x10 clog.Truncate _ refl (
    refl))

database_numbers : (n : ℕ) → database_number (database_op_numbered n) ≡ n
database_numbers n =
    pick database_number n 0x00 database.CreateFileCopy _ refl (
    pick database_number n 0x10 database.CreateWalLog _ refl (
    pick database_number n 0x20 database.Drop _ refl (
    refl)))

tablespace_numbers : (n : ℕ) → tablespace_number (tablespace_op_numbered n) ≡ n
tablespace_numbers n =
    pick tablespace_number n 0x00 tablespace.Create _ refl (
    pick tablespace_number n 0x10 tablespace.Drop _ refl (
    refl))

multixact_numbers : (n : ℕ) → multixact_number (multixact_op_numbered n) ≡ n
multixact_numbers n =
    pick multixact_number n 0x00 multixact.ZeroOffsetsPage _ refl (
    pick multixact_number n 0x10 multixact.ZeroMembersPage _ refl (
    pick multixact_number n 0x20 multixact.CreateId _ refl (
    pick multixact_number n 0x30 multixact.TruncateId _ refl (
    refl))))

relmap_numbers : (n : ℕ) → relmap_number (relmap_op_numbered n) ≡ n
relmap_numbers n =
    pick relmap_number n 0x00 relmap.Update _ refl (
    refl)

standby_numbers : (n : ℕ) → standby_number (standby_op_numbered n) ≡ n
standby_numbers n =
    pick standby_number n 0x00 standby.Lock _ refl (
    pick standby_number n 0x10 standby.RunningXacts _ refl (
    pick standby_number n 0x20 standby.Invalidations _ refl (
    refl)))

btree_numbers : (n : ℕ) → btree_number (btree_op_numbered n) ≡ n
btree_numbers n =
    pick btree_number n 0x00 btree.InsertLeaf _ refl (
    pick btree_number n 0x10 btree.InsertUpper _ refl (
    pick btree_number n 0x20 btree.InsertMeta _ refl (
    pick btree_number n 0x30 btree.SplitLeft _ refl (
    pick btree_number n 0x40 btree.SplitRight _ refl (
    pick btree_number n 0x50 btree.InsertPost _ refl (
    pick btree_number n 0x60 btree.Dedup _ refl (
    pick btree_number n 0x70 btree.Delete _ refl (
    pick btree_number n 0x80 btree.UnlinkPage _ refl (
    pick btree_number n 0x90 btree.UnlinkPageMeta _ refl (
    pick btree_number n 0xA0 btree.NewRoot _ refl (
    pick btree_number n 0xB0 btree.MarkPageHalfDead _ refl (
    pick btree_number n 0xC0 btree.Vacuum _ refl (
    pick btree_number n 0xD0 btree.ReusePage _ refl (
    pick btree_number n 0xE0 btree.MetaCleanup _ refl (
    refl)))))))))))))))

sequence_numbers : (n : ℕ) → sequence_number (sequence_op_numbered n) ≡ n
sequence_numbers n =
    pick sequence_number n 0x00 sequence.Log _ refl (
    refl)

-- what a test says of each number below a bound, it says of any of them
pub all_at : (test : ℕ → Bool) (a n j : ℕ) → list_all test (range_with_len a n) ≡ true → a ≤ j → j < a + n → test j ≡ true
all_at test a zero j h le lt = absurd (omega (arith, le, lt))
all_at test a (suc n) j h le lt =
    let parts = and_parts (test a) (list_all test (range_with_len (a + 1) n)) h in
    go (λ below. all_at test (a + 1) n j parts.1 (omega (arith, below)) (omega (arith, lt))) parts.0 (eqb a j) refl
  where
    go : (a < j → test j ≡ true) → test a ≡ true → (b : Bool) → eqb a j ≡ b → test j ≡ true
    go later this true e =
        let same : a ≡ j = eqb-true a j e in
        rw (← same) this
    go later this false e =
        let below : a < j = grind arith in
        later below

-- every number of Heap and Heap2 is an operation's
heap_each : list_all (λ i. eqb (heap_number (heap_op_of i)) (bit_and i 0x70)) (range_with_len 0 256) ≡ true
unfolding heap_op_of
heap_each = refl

heap2_each : list_all (λ i. eqb (heap2_number (heap2_op_of i)) (bit_and i 0x70)) (range_with_len 0 256) ≡ true
unfolding heap2_op_of
heap2_each = refl

heap_numbers : (info : ℕ) → info < 256 → heap_number (heap_op_of info) ≡ bit_and info 0x70
heap_numbers info low = eqb-true _ _ (all_at (λ i. eqb (heap_number (heap_op_of i)) (bit_and i 0x70)) 0 256 info heap_each (omega arith) low)

heap2_numbers : (info : ℕ) → info < 256 → heap2_number (heap2_op_of info) ≡ bit_and info 0x70
heap2_numbers info low = eqb-true _ _ (all_at (λ i. eqb (heap2_number (heap2_op_of i)) (bit_and i 0x70)) 0 256 info heap2_each (omega arith) low)

-- a chain of managers
choose : (P : Operation → Type 0) (m k : ℕ) (here rest : Operation) → (m ≡ k → P here) → (eqb m k ≡ false → P rest) → P (cond (eqb m k) here rest)
choose P m k here rest h r = by (eqb m k) refl
  where
    by : (b : Bool) → eqb m k ≡ b → P (cond b here rest)
    by true e = h (eqb-true m k e)
    by false e = r e

pub manager_is : (manager info : ℕ) → manager_of (operation_of manager info) ≡ manager
unfolding operation_of
manager_is manager info =
    let P : Operation → Type 0 = λ op. manager_of op ≡ manager in
    choose P manager 0 (of.Xlog (xlog_op_of info)) _ (λ e. sym e) (λ _.
    choose P manager 1 (of.Transaction (transaction_op_of info)) _ (λ e. sym e) (λ _.
    choose P manager 2 (of.Storage (storage_op_of info)) _ (λ e. sym e) (λ _.
    choose P manager 3 (of.Clog (clog_op_of info)) _ (λ e. sym e) (λ _.
    choose P manager 4 (of.Database (database_op_of info)) _ (λ e. sym e) (λ _.
    choose P manager 5 (of.Tablespace (tablespace_op_of info)) _ (λ e. sym e) (λ _.
    choose P manager 6 (of.MultiXact (multixact_op_of info)) _ (λ e. sym e) (λ _.
    choose P manager 7 (of.RelMap (relmap_op_of info)) _ (λ e. sym e) (λ _.
    choose P manager 8 (of.Standby (standby_op_of info)) _ (λ e. sym e) (λ _.
    choose P manager 9 (of.Heap2 (heap2_op_of info)) _ (λ e. sym e) (λ _.
    choose P manager 10 (of.Heap (heap_op_of info)) _ (λ e. sym e) (λ _.
    choose P manager 11 (of.Btree (btree_op_of info)) _ (λ e. sym e) (λ _.
    choose P manager 15 (of.Sequence (sequence_op_of info)) _ (λ e. sym e) (λ _.
    refl)))))))))))))

pub number_is : (manager info : ℕ) → info < 256 → number_of (operation_of manager info) ≡ numbered manager info
unfolding operation_of xlog_op_of transaction_op_of storage_op_of clog_op_of database_op_of tablespace_op_of multixact_op_of relmap_op_of standby_op_of btree_op_of sequence_op_of
number_is manager info low =
    let P : Operation → Type 0 = λ op. number_of op ≡ numbered manager info in
    choose P manager 0 (of.Xlog (xlog_op_of info)) _ (λ e. rw e (xlog_numbers (bit_and info 0xF0))) (λ n0.
    choose P manager 1 (of.Transaction (transaction_op_of info)) _ (λ e. rw e (transaction_numbers (has_bits info 0x80) (bit_and info 0x70))) (λ n1.
    choose P manager 2 (of.Storage (storage_op_of info)) _ (λ e. rw e (storage_numbers (bit_and info 0xF0))) (λ n2.
    choose P manager 3 (of.Clog (clog_op_of info)) _ (λ e. rw e (clog_numbers (bit_and info 0xF0))) (λ n3.
    choose P manager 4 (of.Database (database_op_of info)) _ (λ e. rw e (database_numbers (bit_and info 0xF0))) (λ n4.
    choose P manager 5 (of.Tablespace (tablespace_op_of info)) _ (λ e. rw e (tablespace_numbers (bit_and info 0xF0))) (λ n5.
    choose P manager 6 (of.MultiXact (multixact_op_of info)) _ (λ e. rw e (multixact_numbers (bit_and info 0xF0))) (λ n6.
    choose P manager 7 (of.RelMap (relmap_op_of info)) _ (λ e. rw e (relmap_numbers (bit_and info 0xF0))) (λ n7.
    choose P manager 8 (of.Standby (standby_op_of info)) _ (λ e. rw e (standby_numbers (bit_and info 0xF0))) (λ n8.
    choose P manager 9 (of.Heap2 (heap2_op_of info)) _ (λ e. rw e (heap2_numbers info low)) (λ n9.
    choose P manager 10 (of.Heap (heap_op_of info)) _ (λ e. rw e (heap_numbers info low)) (λ n10.
    choose P manager 11 (of.Btree (btree_op_of info)) _ (λ e. rw e (btree_numbers (bit_and info 0xF0))) (λ n11.
    choose P manager 15 (of.Sequence (sequence_op_of info)) _ (λ e. rw e (sequence_numbers (bit_and info 0xF0))) (λ n15.
    rw (n1, n9, n10) refl)))))))))))))
