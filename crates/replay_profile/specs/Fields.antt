-- The names and values in the main bytes of records that replay takes, also where the layout isn't whole. Own: "The
-- profile of replay", "Names of layouts that are cut".
use Rattle.std.specs.Prelude.{ℕ, ◌&&◌, Bool, true, List}
use Rattle.std.specs.List.{list_all}
use Rattle.record_layouts.specs.Database.{create_prefix_of, drop_prefix_of}
use Rattle.record_layouts.specs.End.{dropped_prefix_of}
use Rattle.record_layouts.specs.Storage.{created_name_of, cut_name_of}
use Rattle.record_layouts.specs.XlogPrefixes.{checkpoint_prefix_of, parameter_prefix_of}
use Rattle.record_layouts.specs.declared.database.DatabaseCreatePrefix.{DatabaseCreatePrefix}
use Rattle.record_layouts.specs.declared.database.DatabaseDropPrefix.{DatabaseDropPrefix}
use Rattle.record_layouts.specs.declared.database.DatabaseOp.{DatabaseOp}
use Rattle.record_layouts.specs.declared.database.DatabaseOp.TheVariants as database
use Rattle.record_layouts.specs.declared.operation.Operation.{Operation}
use Rattle.record_layouts.specs.declared.operation.Operation.TheVariants as op
use Rattle.record_layouts.specs.declared.storage.StorageOp.{StorageOp}
use Rattle.record_layouts.specs.declared.storage.StorageOp.TheVariants as storage
use Rattle.record_layouts.specs.declared.transaction.TransactionOp.{TransactionOp}
use Rattle.record_layouts.specs.declared.transaction.TransactionOp.TheVariants as transaction
use Rattle.record_layouts.specs.declared.xlog.XlogOp.{XlogOp}
use Rattle.record_layouts.specs.declared.xlog.XlogOp.TheVariants as xlog
use Rattle.replay_profile.specs.Names.{is_known_database, is_known_rel, is_known_space}
use Rattle.replay_profile.specs.Values.{is_known_change, is_known_checkpoint, passes}

-- a checkpoint and changed settings have values that a control file may have
abbrev pub takes_xlog : XlogOp → List ℕ → Bool
takes_xlog xlog.CheckpointShutdown main = is_known_checkpoint (checkpoint_prefix_of main)
takes_xlog xlog.CheckpointOnline main = is_known_checkpoint (checkpoint_prefix_of main)
takes_xlog xlog.ParameterChange main = is_known_change (parameter_prefix_of main)
takes_xlog _ main = true

-- each relation that is dropped, made or cut is a known one
abbrev pub takes_transaction : TransactionOp → List ℕ → Bool
takes_transaction (transaction.End outcome prepared has_xinfo) main = list_all is_known_rel (dropped_prefix_of has_xinfo main)
takes_transaction _ main = true

abbrev pub takes_storage : StorageOp → List ℕ → Bool
takes_storage storage.Create main = passes is_known_rel (created_name_of main)
takes_storage storage.Truncate main = passes is_known_rel (cut_name_of main)
takes_storage (storage.Unlisted number) main = true

-- a database that is made or dropped has a number, and lies in the default tablespace alone
abbrev pub takes_creation : DatabaseCreatePrefix → Bool
takes_creation create = passes is_known_database create.database && passes is_known_space create.space

abbrev pub takes_drop : DatabaseDropPrefix → Bool
takes_drop gone = passes is_known_database gone.database && list_all is_known_space gone.spaces

abbrev pub takes_database : DatabaseOp → List ℕ → Bool
takes_database database.CreateWalLog main = takes_creation (create_prefix_of main)
takes_database database.Drop main = takes_drop (drop_prefix_of main)
takes_database _ main = true

-- the fields of an operation, as far as they are there
abbrev pub takes_fields : Operation → List ℕ → Bool
takes_fields (op.Xlog o) main = takes_xlog o main
takes_fields (op.Transaction o) main = takes_transaction o main
takes_fields (op.Storage o) main = takes_storage o main
takes_fields (op.Database o) main = takes_database o main
takes_fields _ main = true
