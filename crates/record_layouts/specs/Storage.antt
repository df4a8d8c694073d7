-- The manager Storage: PostgreSQL 16, src/include/catalog/storage_xlog.h.
use Rattle.std.specs.Prelude.{ℕ, List, ◌==◌, bit_and, if◌then◌else◌, Option, nat_lt, length, None, option_map, Bool, true, is_some}
use Rattle.layout.specs.Readers.{u32_at}
use Rattle.layout_readers.specs.Whole.{whole}
use Rattle.record_layouts.specs.Fields.{relation, relation_if}
use Rattle.block_refs.specs.Names.{fork_of}
use Rattle.block_refs.specs.declared.names.Fork.{Fork}
use Rattle.block_refs.specs.declared.names.RelName.{RelName}
use Rattle.record_layouts.specs.declared.storage.StorageCreate.{StorageCreate}
use Rattle.record_layouts.specs.declared.storage.StorageOp.{StorageOp}
use Rattle.record_layouts.specs.declared.storage.StorageOp.TheVariants as op
use Rattle.record_layouts.specs.declared.storage.StorageTruncate.{StorageTruncate}

-- the operation of a number
abbrev pub storage_op_numbered : ℕ → StorageOp
storage_op_numbered number =
    if number == 0x10 then op.Create
    else if number == 0x20 then op.Truncate
    else op.Unlisted number

-- the operation of `info`, without its low four bits
unfoldable pub storage_op_of : ℕ → StorageOp
storage_op_of info = storage_op_numbered (bit_and info 0xF0)

-- the number of an operation
abbrev pub storage_number : StorageOp → ℕ
storage_number op.Create = 0x10
storage_number op.Truncate = 0x20
storage_number (op.Unlisted number) = number

-- CREATE: xl_smgr_create, a relation and the number of a fork
abbrev pub storage_create_with : List ℕ → Fork → StorageCreate
storage_create_with bytes fork = record { rel = relation 0 bytes; fork = fork }

abbrev pub storage_create_of : List ℕ → Option StorageCreate
storage_create_of bytes =
    if nat_lt (length bytes) 16 then None
    else option_map (storage_create_with bytes) (fork_of (u32_at 12 bytes))

-- the relation that a CREATE names, and the one that a TRUNCATE names, also where the layout isn't whole
abbrev pub created_name_of : List ℕ → Option RelName
created_name_of bytes = relation_if 0 bytes

abbrev pub cut_name_of : List ℕ → Option RelName
cut_name_of bytes = relation_if 4 bytes

-- TRUNCATE: xl_smgr_truncate
abbrev pub storage_truncate_of : List ℕ → Option StorageTruncate
storage_truncate_of bytes = whole 20 bytes record {
  blocks = u32_at 0 bytes;
  rel = relation 4 bytes;
  flags = u32_at 16 bytes;
}

-- the main bytes hold the whole layout of an operation
abbrev pub storage_is_whole : StorageOp → List ℕ → Bool
storage_is_whole op.Create main = is_some (storage_create_of main)
storage_is_whole op.Truncate main = is_some (storage_truncate_of main)
storage_is_whole (op.Unlisted number) main = true
