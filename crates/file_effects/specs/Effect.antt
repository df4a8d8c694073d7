-- What a record does to files beside bits of the map, by its operation: PostgreSQL 16, src/backend/access/transam/xact.c,
-- xact_redo; src/backend/catalog/storage.c, smgr_redo; src/backend/access/transam/clog.c, clog_redo; multixact.c,
-- multixact_redo; src/backend/commands/dbcommands.c, dbase_redo; src/backend/utils/cache/relmapper.c, relmap_redo.
-- Own: "Effects of records on files".
use Rattle.std.specs.Prelude.{ℕ, List, Option}
use Rattle.std.specs.Option.{option_map_or}
use Rattle.block_refs.specs.Bytes.{main_bytes}
use Rattle.block_refs.specs.Parts.{PartsView}
use Rattle.record_layouts.specs.Clog.{clog_truncate_of, clog_zero_page_of}
use Rattle.record_layouts.specs.Database.{database_create_of, database_drop_of}
use Rattle.record_layouts.specs.End.{end_of}
use Rattle.record_layouts.specs.MultiXact.{multixact_truncate_of, multixact_zero_page_of}
use Rattle.record_layouts.specs.Operation.{operation_of}
use Rattle.record_layouts.specs.Storage.{storage_create_of, storage_truncate_of}
use Rattle.record_layouts.specs.declared.clog.ClogOp.{ClogOp}
use Rattle.record_layouts.specs.declared.clog.ClogOp.TheVariants as clog
use Rattle.record_layouts.specs.declared.database.DatabaseOp.{DatabaseOp}
use Rattle.record_layouts.specs.declared.database.DatabaseOp.TheVariants as database
use Rattle.record_layouts.specs.declared.multixact.MultiXactOp.{MultiXactOp}
use Rattle.record_layouts.specs.declared.multixact.MultiXactOp.TheVariants as multixact
use Rattle.record_layouts.specs.declared.operation.Operation.{Operation}
use Rattle.record_layouts.specs.declared.operation.Operation.TheVariants as op
use Rattle.record_layouts.specs.declared.relmap.RelMapOp.{RelMapOp}
use Rattle.record_layouts.specs.declared.relmap.RelMapOp.TheVariants as relmap
use Rattle.record_layouts.specs.declared.storage.StorageOp.{StorageOp}
use Rattle.record_layouts.specs.declared.storage.StorageOp.TheVariants as storage
use Rattle.record_layouts.specs.declared.transaction.TransactionOp.{TransactionOp}
use Rattle.record_layouts.specs.declared.transaction.TransactionOp.TheVariants as transaction
use Rattle.slru_replay.specs.declared.area.Area.{Area}
use Rattle.slru_replay.specs.declared.area.Area.TheVariants as area
use Rattle.wal_records.specs.Reading.{LogRecord}
use Rattle.file_effects.specs.declared.effect.FileEffect.{FileEffect}
use Rattle.file_effects.specs.declared.effect.FileEffect.TheVariants as effect

-- what whole fields say; nothing where they aren't whole
abbrev pub said : {A : Type 0} → (A → FileEffect) → Option A → FileEffect
said says fields = option_map_or says fields effect.Nothing

abbrev pub effect_by_transaction : TransactionOp → List ℕ → FileEffect
effect_by_transaction (transaction.End outcome prepared has_xinfo) main = said (effect.End outcome) (end_of outcome has_xinfo main)
effect_by_transaction _ main = effect.Nothing

abbrev pub effect_by_storage : StorageOp → List ℕ → FileEffect
effect_by_storage storage.Create main = said effect.Create (storage_create_of main)
effect_by_storage storage.Truncate main = said effect.Truncate (storage_truncate_of main)
effect_by_storage (storage.Unlisted number) main = effect.Nothing

abbrev pub effect_by_clog : ClogOp → List ℕ → FileEffect
effect_by_clog clog.ZeroPage main = said (λ zero. effect.ZeroPage area.Status zero.page) (clog_zero_page_of main)
effect_by_clog clog.Truncate main = said (λ cut. effect.CutStatus cut.page) (clog_truncate_of main)
effect_by_clog (clog.Unlisted number) main = effect.Nothing

abbrev pub page_effect : Area → List ℕ → FileEffect
page_effect area main = said (λ zero. effect.ZeroPage area zero.page) (multixact_zero_page_of main)

abbrev pub effect_by_multixact : MultiXactOp → List ℕ → FileEffect
effect_by_multixact multixact.ZeroOffsetsPage main = page_effect area.Offsets main
effect_by_multixact multixact.ZeroMembersPage main = page_effect area.Members main
effect_by_multixact multixact.CreateId main = effect.AddMulti
effect_by_multixact multixact.TruncateId main = said effect.CutMultis (multixact_truncate_of main)
effect_by_multixact (multixact.Unlisted number) main = effect.Nothing

abbrev pub effect_by_relmap : RelMapOp → FileEffect
effect_by_relmap relmap.Update = effect.WriteMap
effect_by_relmap (relmap.Unlisted number) = effect.Nothing

-- a database that is copied file by file isn't replayed
abbrev pub effect_by_database : DatabaseOp → List ℕ → FileEffect
effect_by_database database.CreateWalLog main = said (λ made. effect.MakeDatabase made.database) (database_create_of main)
effect_by_database database.Drop main = said (λ gone. effect.DropDatabase gone.database) (database_drop_of main)
effect_by_database _ main = effect.Nothing

-- every other operation does nothing to files but through its blocks
unfoldable pub effect_of : Operation → List ℕ → FileEffect
effect_of (op.Transaction o) main = effect_by_transaction o main
effect_of (op.Storage o) main = effect_by_storage o main
effect_of (op.Clog o) main = effect_by_clog o main
effect_of (op.Database o) main = effect_by_database o main
effect_of (op.MultiXact o) main = effect_by_multixact o main
effect_of (op.RelMap o) main = effect_by_relmap o
effect_of _ main = effect.Nothing

-- the effect of a record
abbrev pub effect_in : LogRecord → PartsView → FileEffect
effect_in rec parts = effect_of (operation_of rec.header.manager rec.header.info) (main_bytes rec.body parts)
