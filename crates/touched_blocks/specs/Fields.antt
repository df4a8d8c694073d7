-- What the fields of a record name: PostgreSQL 16, src/include/catalog/storage_xlog.h, src/include/access/xact.h,
-- src/include/commands/dbcommands_xlog.h. Own: "What a record touches".
use Rattle.std.specs.Prelude.{ℕ, Bool, true, false, List, [], ◌∷◌, Option, Some, option_map, if◌then◌else◌}
use Rattle.std.specs.List.{flat_map}
use Rattle.block_refs.specs.Bits.{has_bits}
use Rattle.record_layouts.specs.Database.{database_copy_of, database_create_of, database_drop_of}
use Rattle.record_layouts.specs.End.{end_of}
use Rattle.record_layouts.specs.Storage.{storage_create_of, storage_truncate_of}
use Rattle.record_layouts.specs.declared.database.DatabaseOp.{DatabaseOp}
use Rattle.record_layouts.specs.declared.database.DatabaseOp.TheVariants as database
use Rattle.record_layouts.specs.declared.operation.Operation.{Operation}
use Rattle.record_layouts.specs.declared.operation.Operation.TheVariants as op
use Rattle.record_layouts.specs.declared.storage.StorageOp.{StorageOp}
use Rattle.record_layouts.specs.declared.storage.StorageOp.TheVariants as storage
use Rattle.record_layouts.specs.declared.storage.StorageTruncate.{StorageTruncate}
use Rattle.record_layouts.specs.declared.transaction.TransactionOp.{TransactionOp}
use Rattle.record_layouts.specs.declared.transaction.TransactionOp.TheVariants as transaction
use Rattle.touched_blocks.specs.Named.{whole_rel}
use Rattle.touched_blocks.specs.declared.named.Named.{Named}
use Rattle.touched_blocks.specs.declared.named.Named.TheVariants.{BlocksFrom, AllOf}

-- a truncation names what it cuts of the main fork, SMGR_TRUNCATE_HEAP
abbrev pub cut_names : StorageTruncate → List Named
cut_names cut = if has_bits cut.flags 1 then BlocksFrom cut.rel cut.blocks ∷ [] else []

abbrev pub storage_names : StorageOp → List ℕ → Option (List Named)
storage_names storage.Create main = option_map (λ create. whole_rel create.rel) (storage_create_of main)
storage_names storage.Truncate main = option_map cut_names (storage_truncate_of main)
storage_names (storage.Unlisted number) main = Some []

-- the end of a transaction names the relations that are dropped
abbrev pub transaction_names : TransactionOp → List ℕ → Option (List Named)
transaction_names (transaction.End outcome prepared has_xinfo) main =
    option_map (λ end. flat_map whole_rel end.dropped) (end_of outcome has_xinfo main)
transaction_names transaction.Prepare main = Some []
transaction_names transaction.Assignment main = Some []
transaction_names transaction.Invalidation main = Some []
transaction_names (transaction.Unlisted number) main = Some []

-- a database that is made or goes is named whole
abbrev pub database_names : DatabaseOp → List ℕ → Option (List Named)
database_names database.CreateFileCopy main =
    option_map (λ copy. AllOf copy.database ∷ []) (database_copy_of main)
database_names database.CreateWalLog main =
    option_map (λ create. AllOf create.database ∷ []) (database_create_of main)
database_names database.Drop main =
    option_map (λ gone. AllOf gone.database ∷ []) (database_drop_of main)
database_names (database.Unlisted number) main = Some []

-- what the fields of an operation name, where they are whole; those of any other kind name nothing
abbrev pub named_by_fields : Operation → List ℕ → Option (List Named)
named_by_fields (op.Storage o) main = storage_names o main
named_by_fields (op.Transaction o) main = transaction_names o main
named_by_fields (op.Database o) main = database_names o main
named_by_fields o main = Some []

-- operations whose fields are read here: they change relations without a reference
abbrev pub is_storage_kind : StorageOp → Bool
is_storage_kind storage.Create = true
is_storage_kind storage.Truncate = true
is_storage_kind (storage.Unlisted number) = false

abbrev pub is_transaction_kind : TransactionOp → Bool
is_transaction_kind (transaction.End outcome prepared has_xinfo) = true
is_transaction_kind transaction.Prepare = false
is_transaction_kind transaction.Assignment = false
is_transaction_kind transaction.Invalidation = false
is_transaction_kind (transaction.Unlisted number) = false

abbrev pub is_database_kind : DatabaseOp → Bool
is_database_kind database.CreateFileCopy = true
is_database_kind database.CreateWalLog = true
is_database_kind database.Drop = true
is_database_kind (database.Unlisted number) = false

abbrev pub is_kind : Operation → Bool
is_kind (op.Storage o) = is_storage_kind o
is_kind (op.Transaction o) = is_transaction_kind o
is_kind (op.Database o) = is_database_kind o
is_kind o = false
