-- What a record does to the blocks that it references: PostgreSQL 16, src/backend/access/transam/xlogutils.c,
-- XLogReadBufferForRedoExtended, XLogInitBufferForRedo and XLogReadBufferExtended; src/backend/access/heap/heapam.c,
-- heap_xlog_visible. Own: "Blocks in replay".
use Rattle.std.specs.Prelude.{ℕ, List, [], ◌∷◌, Option, None, Some, Result, Ok}
use Rattle.block_refs.specs.Parts.{PartsView}
use Rattle.block_refs.specs.declared.block_ref.BlockRef.{BlockRef}
use Rattle.block_refs.specs.declared.names.BlockName.{BlockName}
use Rattle.block_refs.specs.declared.placed.Placed.{Placed}
use Rattle.cluster_tree.specs.Causes.{given}
use Rattle.cluster_tree.specs.Contents.{Contents}
use Rattle.cluster_tree.specs.PathValue.{PathValue}
use Rattle.page_masks.specs.Law.{Redone, stamped}
use Rattle.storage_pages.specs.MapPage.{visible_map}
use Rattle.storage_replay.specs.Changes.{created}
use Rattle.storage_replay.specs.declared.found.Found.{Found}
use Rattle.storage_replay.specs.declared.found.Found.TheVariants as found
use Rattle.wal_records.specs.Reading.{LogRecord}
use Rattle.block_effects.specs.Effects.{zeros}
use Rattle.record_effects.specs.Acts.{act_on}
use Rattle.record_effects.specs.Managers.{rules_of}
use Rattle.record_effects.specs.declared.acts.Act.{Act}
use Rattle.record_effects.specs.declared.acts.Act.TheVariants.{Nothing, Image, Make, Change, MapPage, Gone}
use Rattle.block_replay.specs.Faults.{of_files}
use Rattle.block_replay.specs.Pages.{image_at, image_put, older_put, page_there, redone_put}
use Rattle.block_replay.specs.World.{BlockWorld, with_name}
use Rattle.block_replay.specs.declared.faults.RecordFault.{RecordFault}
use Rattle.rmgr_hooks.specs.Custom.{Extension}

-- other files, and the names as they were
abbrev pub with_files : List BlockName → Result Contents RecordFault → Result BlockWorld RecordFault
with_files skipped files = given files (λ c. Ok (record { files = c; skipped = skipped }))

-- what the record's manager makes of the page of a reference
abbrev pub redone : Option Extension → LogRecord → PartsView → BlockRef → List ℕ → Redone
redone custom rec parts block = stamped rec.end ((rules_of custom rec).operation rec parts block.id)

-- a change is skipped where its block has no page: the name is kept, and the fork's first file made where it isn't there
abbrev pub change_skipped : PathValue → BlockName → BlockWorld → Result BlockWorld RecordFault
change_skipped root name w = with_files (with_name name w.skipped) (of_files (created root name.rel name.fork w.files))

abbrev pub change_at : Option Extension → PathValue → (per_file : ℕ) → LogRecord → PartsView → BlockRef → BlockWorld → Found → List ℕ → Result BlockWorld RecordFault
change_at custom root per_file rec parts block w found.Absent page = change_skipped root block.name w
change_at custom root per_file rec parts block w found.Zero page = change_skipped root block.name w
change_at custom root per_file rec parts block w found.Page page = with_files w.skipped (older_put root per_file rec block.name (redone custom rec parts block) page w.files)

abbrev pub changed : Option Extension → PathValue → (per_file : ℕ) → LogRecord → PartsView → BlockRef → BlockWorld → Result BlockWorld RecordFault
changed custom root per_file rec parts block w =
    given (page_there root per_file block.name w.files) (λ reading. change_at custom root per_file rec parts block w reading.found reading.bytes)

-- bits are set in the map's page, which may be missing or zeros
abbrev pub map_changed : PathValue → (per_file : ℕ) → LogRecord → PartsView → BlockName → Contents → Result Contents RecordFault
map_changed root per_file rec parts name c =
    given (page_there root per_file name c) (λ reading. older_put root per_file rec name (stamped rec.end (visible_map rec parts)) reading.bytes c)

abbrev pub by_act : Option Extension → PathValue → (per_file : ℕ) → LogRecord → PartsView → BlockRef → BlockWorld → Act → Result BlockWorld RecordFault
by_act custom root per_file rec parts block w Nothing = Ok w
by_act custom root per_file rec parts block w Gone = Ok w
by_act custom root per_file rec parts block w Image = with_files w.skipped (image_put root per_file rec block.name (image_at rec parts block.id) w.files)
by_act custom root per_file rec parts block w Make = with_files w.skipped (redone_put root per_file rec block.name (redone custom rec parts block zeros) w.files)
by_act custom root per_file rec parts block w Change = changed custom root per_file rec parts block w
by_act custom root per_file rec parts block w MapPage = with_files w.skipped (map_changed root per_file rec parts block.name w.files)

-- what a record leaves of the block of a reference
unfoldable pub block_after : Option Extension → PathValue → (per_file : ℕ) → LogRecord → PartsView → Placed → BlockWorld → Result BlockWorld RecordFault
block_after custom root per_file rec parts placed w = by_act custom root per_file rec parts placed.block w (act_on custom rec parts placed.block)

-- of each of some references, in turn
unfoldable pub each_after : Option Extension → PathValue → (per_file : ℕ) → LogRecord → PartsView → List Placed → BlockWorld → Result BlockWorld RecordFault
each_after custom root per_file rec parts [] w = Ok w
each_after custom root per_file rec parts (placed ∷ more) w = given (block_after custom root per_file rec parts placed w) (each_after custom root per_file rec parts more)

-- of one, if there is one
abbrev pub placed_after : Option Extension → PathValue → (per_file : ℕ) → LogRecord → PartsView → Option Placed → BlockWorld → Result BlockWorld RecordFault
placed_after custom root per_file rec parts None w = Ok w
placed_after custom root per_file rec parts (Some placed) w = block_after custom root per_file rec parts placed w

-- of all, in the order of their ids
abbrev pub blocks_after : Option Extension → PathValue → (per_file : ℕ) → LogRecord → PartsView → BlockWorld → Result BlockWorld RecordFault
blocks_after custom root per_file rec parts w = each_after custom root per_file rec parts parts.blocks w
