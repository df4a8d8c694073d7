-- The manager Database: PostgreSQL 16, src/include/commands/dbcommands_xlog.h.
use Rattle.std.specs.Prelude.{ℕ, List, ◌==◌, bit_and, if◌then◌else◌, Option, None, Some, [], Bool, true, is_some}
use Rattle.layout.specs.Readers.{u32_at}
use Rattle.layout_readers.specs.Whole.{whole}
use Rattle.record_layouts.specs.Fields.{word_if, given, given_or, word}
use Rattle.record_layouts.specs.Items.{item_list, item_prefix}
use Rattle.record_layouts.specs.declared.database.DatabaseDrop.{DatabaseDrop}
use Rattle.record_layouts.specs.declared.database.DatabaseCreatePrefix.{DatabaseCreatePrefix}
use Rattle.record_layouts.specs.declared.database.DatabaseDropPrefix.{DatabaseDropPrefix}
use Rattle.record_layouts.specs.declared.database.DatabaseOp.{DatabaseOp}
use Rattle.record_layouts.specs.declared.database.DatabaseOp.TheVariants as op
use Rattle.record_layouts.specs.declared.database.DatabaseCopy.{DatabaseCopy}
use Rattle.record_layouts.specs.declared.database.DatabaseCreate.{DatabaseCreate}

-- the operation of a number
abbrev pub database_op_numbered : ℕ → DatabaseOp
database_op_numbered number =
    if number == 0x00 then op.CreateFileCopy
    else if number == 0x10 then op.CreateWalLog
    else if number == 0x20 then op.Drop
    else op.Unlisted number

-- the operation of `info`, without its low four bits
unfoldable pub database_op_of : ℕ → DatabaseOp
database_op_of info = database_op_numbered (bit_and info 0xF0)

-- the number of an operation
abbrev pub database_number : DatabaseOp → ℕ
database_number op.CreateFileCopy = 0x00
database_number op.CreateWalLog = 0x10
database_number op.Drop = 0x20
database_number (op.Unlisted number) = number

-- DROP: xl_dbase_drop_rec, a database and the tablespaces in which it has files
abbrev pub database_drop_of : List ℕ → Option DatabaseDrop
database_drop_of bytes =
    given (word bytes) (λ database rest.
    given (item_list 4 u32_at rest) (λ spaces rest.
    Some record { database = database; spaces = spaces }))

-- what is there of the last two, also where they are not whole
abbrev pub create_prefix_of : List ℕ → DatabaseCreatePrefix
create_prefix_of bytes = record { database = word_if 0 bytes; space = word_if 4 bytes }

abbrev pub drop_prefix_of : List ℕ → DatabaseDropPrefix
drop_prefix_of bytes =
    given_or record { database = None; spaces = [] } (word bytes) (λ database rest.
    record { database = Some database; spaces = item_prefix 4 u32_at rest })

-- CREATE_FILE_COPY: xl_dbase_create_file_copy_rec
abbrev pub database_copy_of : List ℕ → Option DatabaseCopy
database_copy_of bytes = whole 16 bytes record {
  database = u32_at 0 bytes;
  space = u32_at 4 bytes;
  from_database = u32_at 8 bytes;
  from_space = u32_at 12 bytes;
}

-- CREATE_WAL_LOG: xl_dbase_create_wal_log_rec
abbrev pub database_create_of : List ℕ → Option DatabaseCreate
database_create_of bytes = whole 8 bytes record {
  database = u32_at 0 bytes;
  space = u32_at 4 bytes;
}

-- the main bytes hold the whole layout of an operation
abbrev pub database_is_whole : DatabaseOp → List ℕ → Bool
database_is_whole op.CreateFileCopy main = is_some (database_copy_of main)
database_is_whole op.CreateWalLog main = is_some (database_create_of main)
database_is_whole op.Drop main = is_some (database_drop_of main)
database_is_whole (op.Unlisted number) main = true
