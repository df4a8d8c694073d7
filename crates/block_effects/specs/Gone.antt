-- Blocks that a record takes away: PostgreSQL 16, src/backend/catalog/storage.c, smgr_redo; src/backend/access/transam/xact.c,
-- xact_redo_commit and xact_redo_abort; src/backend/commands/dbcommands.c, dbase_redo. Own: "Effects of records".
use Rattle.std.specs.Prelude.{ℕ, ◌==◌, ◌&&◌, Bool, true, false, List, nat_le}
use Rattle.std.specs.List.{list_any}
use Rattle.std.specs.Option.{option_map_or}
use Rattle.block_refs.specs.Bits.{has_bits}
use Rattle.block_refs.specs.Bytes.{main_bytes}
use Rattle.block_refs.specs.Parts.{PartsView}
use Rattle.block_refs.specs.declared.names.BlockName.{BlockName}
use Rattle.block_refs.specs.declared.names.Fork.{Fork}
use Rattle.block_refs.specs.declared.names.Fork.TheVariants as fork
use Rattle.record_layouts.specs.Database.{database_drop_of}
use Rattle.record_layouts.specs.End.{end_of}
use Rattle.record_layouts.specs.Operation.{operation_of}
use Rattle.record_layouts.specs.Storage.{storage_truncate_of}
use Rattle.record_layouts.specs.declared.database.DatabaseDrop.{DatabaseDrop}
use Rattle.record_layouts.specs.declared.database.DatabaseOp.{DatabaseOp}
use Rattle.record_layouts.specs.declared.database.DatabaseOp.TheVariants as database
use Rattle.record_layouts.specs.declared.end.TransactionEnd.{TransactionEnd}
use Rattle.record_layouts.specs.declared.operation.Operation.{Operation}
use Rattle.record_layouts.specs.declared.operation.Operation.TheVariants as op
use Rattle.record_layouts.specs.declared.storage.StorageOp.{StorageOp}
use Rattle.record_layouts.specs.declared.storage.StorageOp.TheVariants as storage
use Rattle.record_layouts.specs.declared.storage.StorageTruncate.{StorageTruncate}
use Rattle.record_layouts.specs.declared.transaction.TransactionOp.{TransactionOp}
use Rattle.record_layouts.specs.declared.transaction.TransactionOp.TheVariants as transaction
use Rattle.replay_profile.specs.Names.{is_rel}
use Rattle.wal_records.specs.Reading.{LogRecord}

abbrev pub is_main : Fork → Bool
is_main fork.Main = true
is_main _ = false

-- a truncation of the main fork, SMGR_TRUNCATE_HEAP, takes its blocks from the cut on
abbrev pub is_cut : BlockName → StorageTruncate → Bool
is_cut name cut = has_bits cut.flags 1 && is_main name.fork && is_rel cut.rel name.rel && nat_le cut.blocks name.block

-- the end of a transaction takes each block of every fork of the relations that it drops
abbrev pub is_dropped : BlockName → TransactionEnd → Bool
is_dropped name end = list_any (λ rel. is_rel rel name.rel) end.dropped

-- the drop of a database takes each block of every relation in it
abbrev pub is_in_dropped : BlockName → DatabaseDrop → Bool
is_in_dropped name gone = gone.database == name.rel.database

-- fields that aren't whole take nothing
abbrev pub gone_by_storage : StorageOp → List ℕ → BlockName → Bool
gone_by_storage storage.Truncate main name = option_map_or (is_cut name) (storage_truncate_of main) false
gone_by_storage _ main name = false

abbrev pub gone_by_end : TransactionOp → List ℕ → BlockName → Bool
gone_by_end (transaction.End outcome prepared has_xinfo) main name = option_map_or (is_dropped name) (end_of outcome has_xinfo main) false
gone_by_end _ main name = false

abbrev pub gone_by_database : DatabaseOp → List ℕ → BlockName → Bool
gone_by_database database.Drop main name = option_map_or (is_in_dropped name) (database_drop_of main) false
gone_by_database _ main name = false

abbrev pub gone_by : Operation → List ℕ → BlockName → Bool
gone_by (op.Storage o) main name = gone_by_storage o main name
gone_by (op.Transaction o) main name = gone_by_end o main name
gone_by (op.Database o) main name = gone_by_database o main name
gone_by _ main name = false

-- a record takes a block away
abbrev pub is_gone : LogRecord → PartsView → BlockName → Bool
is_gone rec parts name = gone_by (operation_of rec.header.manager rec.header.info) (main_bytes rec.body parts) name
