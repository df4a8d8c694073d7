-- Pages that replay puts in place: PostgreSQL 16, src/backend/access/transam/xlogutils.c, XLogReadBufferForRedoExtended.
-- Own: "Blocks in replay".
use Rattle.std.specs.Prelude.{ℕ, List, nat_lt, Option, None, Some, Result, Ok, unwrap_or, if◌then◌else◌}
use Rattle.block_refs.specs.Bytes.{page_of}
use Rattle.block_refs.specs.Parts.{PartsView}
use Rattle.block_refs.specs.declared.names.BlockName.{BlockName}
use Rattle.cluster_tree.specs.Causes.{given}
use Rattle.cluster_tree.specs.Contents.{Contents}
use Rattle.cluster_tree.specs.PathValue.{PathValue}
use Rattle.page_layout.specs.Lsn.{lsn}
use Rattle.page_masks.specs.Law.{Redone}
use Rattle.storage_replay.specs.Blocks.{block_put}
use Rattle.storage_replay.specs.Reading.{Reading, block_read}
use Rattle.wal_records.specs.Reading.{LogRecord}
use Rattle.block_effects.specs.Effects.{put_in_place, zeros}
use Rattle.block_replay.specs.Faults.{of_files, of_redo}
use Rattle.block_replay.specs.declared.faults.RecordFault.{RecordFault}

-- a block as it is read: one that isn't there as zeros
abbrev pub page_there : PathValue → (per_file : ℕ) → BlockName → Contents → Result Reading RecordFault
page_there root per_file name c = of_files (block_read root per_file name c zeros)

-- a page put in the place of a block, behind zeros where the fork was shorter
abbrev pub page_put : PathValue → (per_file : ℕ) → BlockName → List ℕ → Contents → Result Contents RecordFault
page_put root per_file name page c = of_files (block_put root per_file name page c)

-- the image of a reference, if there is one
abbrev pub image_at : LogRecord → PartsView → (id : ℕ) → Option (List ℕ)
image_at rec parts id = page_of rec.body parts id

-- an image with the record's end as LSN; one of zeros stays so
abbrev pub image_left : (end : ℕ) → List ℕ → List ℕ
image_left end page = unwrap_or (put_in_place end page) page

-- put in place, whatever stood there
abbrev pub image_put : PathValue → (per_file : ℕ) → LogRecord → BlockName → Option (List ℕ) → Contents → Result Contents RecordFault
image_put root per_file rec name None c = Ok c
image_put root per_file rec name (Some page) c = page_put root per_file name (image_left rec.end page) c

-- what redo makes of a page, put in place
abbrev pub redone_put : PathValue → (per_file : ℕ) → LogRecord → BlockName → Redone → Contents → Result Contents RecordFault
redone_put root per_file rec name redone c = given (of_redo rec name redone) (λ page. page_put root per_file name page c)

-- the same of a page whose LSN is below the record's end; any other one was written behind the record
abbrev pub older_put : PathValue → (per_file : ℕ) → LogRecord → BlockName → (change : List ℕ → Redone) → List ℕ → Contents → Result Contents RecordFault
older_put root per_file rec name change page c = if nat_lt (lsn page) rec.end then redone_put root per_file rec name (change page) c else Ok c
