-- What records do to a cluster, one after another: PostgreSQL 16, src/backend/access/transam/xlogrecovery.c, ApplyWalRecord.
-- Own: "What a record does, in order".
use Rattle.std.specs.Prelude.{ℕ, List, [], ◌∷◌, Option, None, Some, slice_get, option_map, Result, Ok, if◌then◌else◌}
use Rattle.block_refs.specs.Outcomes.{record_parts, start_of}
use Rattle.block_refs.specs.Parts.{PartsView}
use Rattle.block_refs.specs.declared.block_ref.BlockRef.{BlockRef}
use Rattle.block_refs.specs.declared.names.BlockName.{BlockName}
use Rattle.block_refs.specs.declared.names.Fork.TheVariants.{Main}
use Rattle.cluster_tree.specs.Causes.{given, unless}
use Rattle.cluster_tree.specs.PathValue.{PathValue}
use Rattle.page_layout.specs.declared.refusal.RedoWhy.TheVariants.{Layout}
use Rattle.block_replay.specs.Blocks.{blocks_after}
use Rattle.block_replay.specs.Faults.{of_files}
use Rattle.block_replay.specs.World.{BlockWorld, without_gone}
use Rattle.block_replay.specs.declared.faults.RecordFault.{RecordFault}
use Rattle.block_replay.specs.declared.faults.RecordFault.TheVariants.{RedoFailed}
use Rattle.file_effects.specs.Done.{files_after}
use Rattle.replay_control.specs.Following.{control_after}
use Rattle.replay_profile.specs.Profile.{is_short, parts_or_none}
use Rattle.wal_records.specs.Reading.{LogRecord}
use Rattle.replay_world.specs.World.{World, blocks_of}
use Rattle.rmgr_hooks.specs.Custom.{Extension}

-- the main fork's first block of no relation
abbrev pub no_block : BlockName
no_block = record { rel = record { space = 0; database = 0; relation = 0 }; fork = Main; block = 0 }

abbrev pub name_or_none : Option BlockRef → BlockName
name_or_none None = no_block
name_or_none (Some block) = block.name

-- the first reference, if there is one
abbrev pub first_block : PartsView → Option BlockRef
first_block parts = option_map (λ placed. placed.block) (slice_get parts.blocks 0)

-- a record whose main bytes lack some of its layout is refused with its first block, if it has one
abbrev pub short_refusal : LogRecord → PartsView → Option RecordFault
short_refusal rec parts =
    if is_short rec parts then Some (RedoFailed (start_of rec) (name_or_none (first_block parts)) Layout) else None

-- behind the blocks: the other files, the control file, and the names of blocks that the record took away are forgotten
abbrev pub others_after : PathValue → (per_file : ℕ) → LogRecord → PartsView → World → BlockWorld → Result World RecordFault
others_after root per_file rec parts w b =
    given (of_files (files_after root per_file rec parts b.files)) (λ c. Ok (record {
      files = c;
      control = control_after rec parts w.control;
      skipped = without_gone rec parts b.skipped;
    }))

-- what a record of these parts leaves: first its blocks, in the order of their ids, and then all else
unfoldable pub record_after : Option Extension → PathValue → (per_file : ℕ) → LogRecord → PartsView → World → Result World RecordFault
record_after custom root per_file rec parts w =
    unless (short_refusal rec parts) (given (blocks_after custom root per_file rec parts (blocks_of w)) (others_after root per_file rec parts w))

-- and what a log's records leave, in its order
unfoldable pub records_after : Option Extension → PathValue → (per_file : ℕ) → List LogRecord → World → Result World RecordFault
records_after custom root per_file [] w = Ok w
records_after custom root per_file (rec ∷ records) w =
    given (record_after custom root per_file rec (parts_or_none (record_parts rec)) w) (records_after custom root per_file records)
