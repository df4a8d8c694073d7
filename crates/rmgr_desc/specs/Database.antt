-- Texts of the managers Database and RelMap: PostgreSQL 16, src/backend/access/rmgrdesc/dbasedesc.c and relmapdesc.c.
-- Own: "Names and texts of operations".
use Rattle.std.specs.Prelude.{ℕ, List, [], ◌++◌, codes, decimal, length}
use Rattle.record_layouts.specs.Database.{database_copy_of, database_create_of, database_drop_of}
use Rattle.record_layouts.specs.RelMap.{relmap_update_of}
use Rattle.record_layouts.specs.declared.database.DatabaseCopy.{DatabaseCopy}
use Rattle.record_layouts.specs.declared.database.DatabaseCreate.{DatabaseCreate}
use Rattle.record_layouts.specs.declared.database.DatabaseDrop.{DatabaseDrop}
use Rattle.record_layouts.specs.declared.database.DatabaseOp.{DatabaseOp}
use Rattle.record_layouts.specs.declared.database.DatabaseOp.TheVariants as op
use Rattle.record_layouts.specs.declared.relmap.RelMapOp.{RelMapOp}
use Rattle.record_layouts.specs.declared.relmap.RelMapOp.TheVariants as map
use Rattle.record_layouts.specs.declared.relmap.RelMapUpdate.{RelMapUpdate}
use Rattle.rmgr_desc.specs.Pieces.{or_short}

-- CREATE_FILE_COPY
abbrev pub database_copied_text : DatabaseCopy → List ℕ
database_copied_text copy =
    codes "database " ++ (decimal copy.database ++ (codes " space " ++ (decimal copy.space ++ (codes " from database "
    ++ (decimal copy.from_database ++ (codes " space " ++ decimal copy.from_space))))))

-- CREATE_WAL_LOG
abbrev pub database_made_text : DatabaseCreate → List ℕ
database_made_text made = codes "database " ++ (decimal made.database ++ (codes " space " ++ decimal made.space))

-- DROP
abbrev pub database_dropped_text : DatabaseDrop → List ℕ
database_dropped_text dropped = codes "database " ++ decimal dropped.database

-- the text of an operation of Database with these main bytes
abbrev pub database_text : DatabaseOp → List ℕ → List ℕ
database_text op.CreateFileCopy main = or_short database_copied_text (database_copy_of main)
database_text op.CreateWalLog main = or_short database_made_text (database_create_of main)
database_text op.Drop main = or_short database_dropped_text (database_drop_of main)
database_text (op.Unlisted number) main = []

-- UPDATE
abbrev pub relmap_updated_text : RelMapUpdate → List ℕ
relmap_updated_text update =
    codes "database " ++ (decimal update.database ++ (codes " space " ++ (decimal update.space ++ (codes " size "
    ++ decimal (length update.map)))))

-- the text of an operation of RelMap with these main bytes
abbrev pub relmap_text : RelMapOp → List ℕ → List ℕ
relmap_text map.Update main = or_short relmap_updated_text (relmap_update_of main)
relmap_text (map.Unlisted number) main = []
