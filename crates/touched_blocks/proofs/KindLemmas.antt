-- What a record does, by its manager and its number.
use Rattle.std.proofs.Common.{◌≡◌, ℕ, Bool, true, false, cond, eqb, List, [], Some, ◌⊎◌, inl, inr, refl, arith}
use Rattle.std.specs.Prelude.{bit_and}
use Rattle.std.proofs.lemmas.Bool.{eqb-true}
use Rattle.std.proofs.lemmas.Bool.Decides.{nat_tests}
use Rattle.block_refs.specs.Bits.{has_bits}
use Rattle.record_layouts.specs.declared.database.DatabaseOp.{DatabaseOp}
use Rattle.record_layouts.specs.declared.database.DatabaseOp.TheVariants as database
use Rattle.record_layouts.specs.declared.end_parts.Outcome.{Outcome}
use Rattle.record_layouts.specs.declared.end_parts.Outcome.TheVariants.{Commit, Abort}
use Rattle.record_layouts.specs.declared.operation.Operation.{Operation}
use Rattle.record_layouts.specs.declared.operation.Operation.TheVariants as of
use Rattle.record_layouts.specs.declared.storage.StorageOp.{StorageOp}
use Rattle.record_layouts.specs.declared.storage.StorageOp.TheVariants as storage
use Rattle.record_layouts.specs.declared.transaction.TransactionOp.{TransactionOp}
use Rattle.record_layouts.specs.declared.transaction.TransactionOp.TheVariants as transaction
use Rattle.record_layouts.specs.Database.{database_op_numbered, database_op_of}
use Rattle.record_layouts.specs.Operation.{operation_of}
use Rattle.record_layouts.specs.Storage.{storage_op_numbered, storage_op_of}
use Rattle.record_layouts.specs.Transaction.{transaction_op_numbered, transaction_op_of}
use Rattle.wal_records.specs.Reading.{LogRecord}
use Rattle.touched_blocks.specs.Fields.{is_kind, named_by_fields}
use Rattle.touched_blocks.specs.Layouts.{IsDatabase, IsEnd, IsKind, IsStorage, IsTransaction}
use Rattle.touched_blocks.specs.Touched.{operation_in}

-- whether a commit or an abort has flags
abbrev pub has_flags : LogRecord → Bool
has_flags rec = has_bits rec.header.info 0x80

-- each kind has its operation, and any other names nothing by its fields
pub data Shape (rec : LogRecord) (op : Operation) : Type 0 where
  Made : IsStorage rec 0x10 → op ≡ of.Storage storage.Create → Shape rec op
  Cut : IsStorage rec 0x20 → op ≡ of.Storage storage.Truncate → Shape rec op
  Ended : (outcome : Outcome) (prepared : Bool) → IsEnd rec outcome → op ≡ of.Transaction (transaction.End outcome prepared (has_flags rec)) → Shape rec op
  Copied : IsDatabase rec 0x00 → op ≡ of.Database database.CreateFileCopy → Shape rec op
  Logged : IsDatabase rec 0x10 → op ≡ of.Database database.CreateWalLog → Shape rec op
  Gone : IsDatabase rec 0x20 → op ≡ of.Database database.Drop → Shape rec op
  Other : (IsKind rec → ⊥) → is_kind op ≡ false → ((main : List ℕ) → named_by_fields op main ≡ Some []) → Shape rec op

-- a chain of tests
choose : {A : Type 0} (P : A → Type 0) (m k : ℕ) (here rest : A) → (m ≡ k → P here) → (eqb m k ≡ false → P rest) → P (cond (eqb m k) here rest)
choose P m k here rest h r = by (eqb m k) refl
  where
    by : (b : Bool) → eqb m k ≡ b → P (cond b here rest)
    by true e = h (eqb-true m k e)
    by false e = r e

-- no kind
of_kind : (P : Type 0) (rec : LogRecord) → ((n : ℕ) → IsStorage rec n → (n ≡ 0x10) ⊎ (n ≡ 0x20) → P)
    → ((n : ℕ) → IsDatabase rec n → (n ≡ 0x00) ⊎ ((n ≡ 0x10) ⊎ (n ≡ 0x20)) → P)
    → ((n : ℕ) → IsTransaction rec n → ((n ≡ 0x00) ⊎ (n ≡ 0x30)) ⊎ ((n ≡ 0x20) ⊎ (n ≡ 0x40)) → P) → IsKind rec → P
of_kind P rec s d t (inl (inl h)) = s 0x10 h (inl refl)
of_kind P rec s d t (inl (inr h)) = s 0x20 h (inr refl)
of_kind P rec s d t (inr (inl (inl h))) = d 0x00 h (inl refl)
of_kind P rec s d t (inr (inl (inr (inl h)))) = d 0x10 h (inr (inl refl))
of_kind P rec s d t (inr (inl (inr (inr h)))) = d 0x20 h (inr (inr refl))
of_kind P rec s d t (inr (inr (inl (inl h)))) = t 0x00 h (inl (inl refl))
of_kind P rec s d t (inr (inr (inl (inr h)))) = t 0x30 h (inl (inr refl))
of_kind P rec s d t (inr (inr (inr (inl h)))) = t 0x20 h (inr (inl refl))
of_kind P rec s d t (inr (inr (inr (inr h)))) = t 0x40 h (inr (inr refl))

not_kind : (rec : LogRecord) (m : ℕ) → rec.header.manager ≡ m → eqb m 1 ≡ false → eqb m 2 ≡ false → eqb m 4 ≡ false → IsKind rec → ⊥
not_kind rec m e n1 n2 n4 =
    of_kind ⊥ rec (λ n h o. clash m 2 n2 (sym' e h.manager)) (λ n h o. clash m 4 n4 (sym' e h.manager)) (λ n h o. clash m 1 n1 (sym' e h.manager))
  where
    clash : (a b : ℕ) → eqb a b ≡ false → a ≡ b → ⊥
    clash a b differs e = grind (arith, nat_tests)

    sym' : {a b c : ℕ} → a ≡ b → a ≡ c → b ≡ c
    sym' e f = cc

other : (rec : LogRecord) (op : Operation) → eqb rec.header.manager 1 ≡ false → eqb rec.header.manager 2 ≡ false → eqb rec.header.manager 4 ≡ false
    → is_kind op ≡ false → ((main : List ℕ) → named_by_fields op main ≡ Some []) → Shape rec op
other rec op n1 n2 n4 none nothing = Other (not_kind rec rec.header.manager refl n1 n2 n4) none nothing

other_at : (rec : LogRecord) (op : Operation) (m : ℕ) → rec.header.manager ≡ m → eqb m 1 ≡ false → eqb m 2 ≡ false → eqb m 4 ≡ false
    → is_kind op ≡ false → ((main : List ℕ) → named_by_fields op main ≡ Some []) → Shape rec op
other_at rec op m e n1 n2 n4 none nothing = Other (not_kind rec m e n1 n2 n4) none nothing

-- of Storage
other_storage : (rec : LogRecord) (n : ℕ) → rec.header.manager ≡ 2 → bit_and rec.header.info 0xF0 ≡ n → eqb n 0x10 ≡ false → eqb n 0x20 ≡ false → IsKind rec → ⊥
other_storage rec n m e n1 n2 =
    of_kind ⊥ rec
    (λ k h o. let f : n ≡ k = cc in grind (arith, nat_tests, h.number))
    (λ k h o. omega (arith, m, h.manager))
    (λ k h o. omega (arith, m, h.manager))

storage_shape : (rec : LogRecord) → rec.header.manager ≡ 2 → Shape rec (of.Storage (storage_op_of rec.header.info))
unfolding storage_op_of
storage_shape rec m =
    let n = bit_and rec.header.info 0xF0 in
    let P : StorageOp → Type 0 = λ o. Shape rec (of.Storage o) in
    choose P n 0x10 storage.Create _ (λ e. Made (record { manager = m; number = e }) refl) (λ n1.
    choose P n 0x20 storage.Truncate _ (λ e. Cut (record { manager = m; number = e }) refl) (λ n2.
    Other (other_storage rec n m refl n1 n2) refl (λ main. refl)))

-- of Database
other_database : (rec : LogRecord) (n : ℕ) → rec.header.manager ≡ 4 → bit_and rec.header.info 0xF0 ≡ n → eqb n 0x00 ≡ false → eqb n 0x10 ≡ false → eqb n 0x20 ≡ false
    → IsKind rec → ⊥
other_database rec n m e n0 n1 n2 =
    of_kind ⊥ rec
    (λ k h o. omega (arith, m, h.manager))
    (λ k h o. let f : n ≡ k = cc in grind (arith, nat_tests, h.number))
    (λ k h o. omega (arith, m, h.manager))

database_shape : (rec : LogRecord) → rec.header.manager ≡ 4 → Shape rec (of.Database (database_op_of rec.header.info))
unfolding database_op_of
database_shape rec m =
    let n = bit_and rec.header.info 0xF0 in
    let P : DatabaseOp → Type 0 = λ o. Shape rec (of.Database o) in
    choose P n 0x00 database.CreateFileCopy _ (λ e. Copied (record { manager = m; number = e }) refl) (λ n0.
    choose P n 0x10 database.CreateWalLog _ (λ e. Logged (record { manager = m; number = e }) refl) (λ n1.
    choose P n 0x20 database.Drop _ (λ e. Gone (record { manager = m; number = e }) refl) (λ n2.
    Other (other_database rec n m refl n0 n1 n2) refl (λ main. refl))))

-- of Transaction
transaction_shape : (rec : LogRecord) → rec.header.manager ≡ 1 → Shape rec (of.Transaction (transaction_op_of rec.header.info))
unfolding transaction_op_of
transaction_shape rec m =
    let n = bit_and rec.header.info 0x70 in
    let P : TransactionOp → Type 0 = λ o. Shape rec (of.Transaction o) in
    choose P n 0x00 (transaction.End Commit false (has_flags rec)) _ (λ e. Ended Commit false (inl record { manager = m; number = e }) refl) (λ n0.
    choose P n 0x10 transaction.Prepare _ (λ e. Other (none 0x10 e refl refl refl refl) refl (λ main. refl)) (λ n1.
    choose P n 0x20 (transaction.End Abort false (has_flags rec)) _ (λ e. Ended Abort false (inl record { manager = m; number = e }) refl) (λ n2.
    choose P n 0x30 (transaction.End Commit true (has_flags rec)) _ (λ e. Ended Commit true (inr record { manager = m; number = e }) refl) (λ n3.
    choose P n 0x40 (transaction.End Abort true (has_flags rec)) _ (λ e. Ended Abort true (inr record { manager = m; number = e }) refl) (λ n4.
    choose P n 0x50 transaction.Assignment _ (λ e. Other (none 0x50 e refl refl refl refl) refl (λ main. refl)) (λ n5.
    choose P n 0x60 transaction.Invalidation _ (λ e. Other (none 0x60 e refl refl refl refl) refl (λ main. refl)) (λ n6.
    Other (none n refl n0 n3 n2 n4) refl (λ main. refl))))))))
  where
    none : (k : ℕ) → bit_and rec.header.info 0x70 ≡ k → eqb k 0x00 ≡ false → eqb k 0x30 ≡ false → eqb k 0x20 ≡ false → eqb k 0x40 ≡ false → IsKind rec → ⊥
    none k e n0 n3 n2 n4 =
        of_kind ⊥ rec
        (λ j h o. omega (arith, m, h.manager))
        (λ j h o. omega (arith, m, h.manager))
        (λ j h o. let f : k ≡ j = cc in grind (arith, nat_tests, h.number))

-- of each manager
pub shape_of : (rec : LogRecord) → Shape rec (operation_in rec)
unfolding operation_of
shape_of rec =
    let m = rec.header.manager in
    let P : Operation → Type 0 = λ op. Shape rec op in
    choose P m 0 (of.Xlog _) _ (λ e. other_at rec _ 0 e refl refl refl refl (λ main. refl)) (λ n0.
    choose P m 1 (of.Transaction _) _ (λ e. transaction_shape rec e) (λ n1.
    choose P m 2 (of.Storage _) _ (λ e. storage_shape rec e) (λ n2.
    choose P m 3 (of.Clog _) _ (λ e. other_at rec _ 3 e refl refl refl refl (λ main. refl)) (λ n3.
    choose P m 4 (of.Database _) _ (λ e. database_shape rec e) (λ n4.
    choose P m 5 (of.Tablespace _) _ (λ e. other rec _ n1 n2 n4 refl (λ main. refl)) (λ n5.
    choose P m 6 (of.MultiXact _) _ (λ e. other rec _ n1 n2 n4 refl (λ main. refl)) (λ n6.
    choose P m 7 (of.RelMap _) _ (λ e. other rec _ n1 n2 n4 refl (λ main. refl)) (λ n7.
    choose P m 8 (of.Standby _) _ (λ e. other rec _ n1 n2 n4 refl (λ main. refl)) (λ n8.
    choose P m 9 (of.Heap2 _) _ (λ e. other rec _ n1 n2 n4 refl (λ main. refl)) (λ n9.
    choose P m 10 (of.Heap _) _ (λ e. other rec _ n1 n2 n4 refl (λ main. refl)) (λ n10.
    choose P m 11 (of.Btree _) _ (λ e. other rec _ n1 n2 n4 refl (λ main. refl)) (λ n11.
    choose P m 15 (of.Sequence _) _ (λ e. other rec _ n1 n2 n4 refl (λ main. refl)) (λ n15.
    other rec _ n1 n2 n4 refl (λ main. refl))))))))))))))

-- ---- from the numbers to the operation

pub storage_is : (rec : LogRecord) (n : ℕ) → IsStorage rec n → operation_in rec ≡ of.Storage (storage_op_numbered n)
unfolding operation_of storage_op_of
storage_is rec n h = rw (h.manager, h.number) refl

pub database_is : (rec : LogRecord) (n : ℕ) → IsDatabase rec n → operation_in rec ≡ of.Database (database_op_numbered n)
unfolding operation_of database_op_of
database_is rec n h = rw (h.manager, h.number) refl

pub transaction_is : (rec : LogRecord) (n : ℕ) → IsTransaction rec n → operation_in rec ≡ of.Transaction (transaction_op_numbered (has_flags rec) n)
unfolding operation_of transaction_op_of
transaction_is rec n h = rw (h.manager, h.number) refl

pub end_is : (rec : LogRecord) (outcome : Outcome) → IsEnd rec outcome → (prepared : Bool) × (operation_in rec ≡ of.Transaction (transaction.End outcome prepared (has_flags rec)))
end_is rec Commit (inl h) = (false, transaction_is rec 0x00 h)
end_is rec Commit (inr h) = (true, transaction_is rec 0x30 h)
end_is rec Abort (inl h) = (false, transaction_is rec 0x20 h)
end_is rec Abort (inr h) = (true, transaction_is rec 0x40 h)

pub end_kind : (rec : LogRecord) (outcome : Outcome) → IsEnd rec outcome → IsEnd rec Commit ⊎ IsEnd rec Abort
end_kind rec Commit h = inl h
end_kind rec Abort h = inr h
