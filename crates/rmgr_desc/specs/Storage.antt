-- Texts of the manager Storage: PostgreSQL 16, src/backend/access/rmgrdesc/smgrdesc.c. Own: "Names and texts of operations".
use Rattle.std.specs.Prelude.{List, [], ℕ, ◌++◌, codes, decimal}
use Rattle.record_layouts.specs.declared.storage.StorageCreate.{StorageCreate}
use Rattle.record_layouts.specs.declared.storage.StorageOp.{StorageOp}
use Rattle.record_layouts.specs.declared.storage.StorageOp.TheVariants as op
use Rattle.record_layouts.specs.declared.storage.StorageTruncate.{StorageTruncate}
use Rattle.record_layouts.specs.Storage.{storage_create_of, storage_truncate_of}
use Rattle.block_refs.specs.Names.{fork_name, rel_text}
use Rattle.rmgr_desc.specs.Pieces.{or_short}

-- CREATE
abbrev pub create_text : StorageCreate → List ℕ
create_text create = codes "rel " ++ (rel_text create.rel ++ (codes " fork " ++ fork_name create.fork))

-- TRUNCATE
abbrev pub cut_text : StorageTruncate → List ℕ
cut_text cut = codes "rel " ++ (rel_text cut.rel ++ (codes " to " ++ (decimal cut.blocks ++ (codes " blocks flags " ++ decimal cut.flags))))

-- the text of an operation with these main bytes
abbrev pub storage_text : StorageOp → List ℕ → List ℕ
storage_text op.Create main = or_short create_text (storage_create_of main)
storage_text op.Truncate main = or_short cut_text (storage_truncate_of main)
storage_text (op.Unlisted number) main = []
