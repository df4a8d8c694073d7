-- Why a replay is refused but for its files, seen on one block: PostgreSQL 16, src/backend/access/transam/xlogrecovery.c,
-- ApplyWalRecord; src/backend/access/heap/heapam.c, heap_xlog_visible. Own: "A replay, seen on one block".
use Rattle.std.specs.Prelude.{◌≡◌, ◌⊎◌, ℕ, ◌<◌, true, List, Option, None, Some, Err}
use Rattle.rmgr_hooks.specs.Custom.{Extension, IsSound}
use Rattle.std.specs.List.{slice_get}
use Rattle.block_refs.specs.Parts.{PartsView}
use Rattle.block_refs.specs.declared.names.BlockName.{BlockName}
use Rattle.block_replay.specs.declared.faults.RecordFault.TheVariants.{RedoFailed}
use Rattle.cluster_tree.specs.PathValue.{PathValue}
use Rattle.page_layout.specs.declared.refusal.RedoWhy.{RedoWhy}
use Rattle.page_masks.specs.Law.{view}
use Rattle.record_effects.specs.Acts.{sets_map_bits}
use Rattle.record_effects.specs.Managers.{done_by, effect_on}
use Rattle.replay_law.specs.Replay.{replay_block, replay_step}
use Rattle.replay_profile.specs.Profile.{is_short}
use Rattle.replay_world.specs.Records.{record_after, records_after}
use Rattle.replay_world.specs.World.{World}
use Rattle.storage_pages.specs.MapPage.{visible_block}
use Rattle.wal_base.specs.declared.lsn.Lsn.{Lsn}
use Rattle.wal_records.specs.Reading.{LogRecord}
use Rattle.replay_laws.specs.Converging.{Begins, IsFit}
use Rattle.replay_laws.specs.Held.{IsMainBlock, held}
use Rattle.replay_laws.specs.Log.{AreTaken, IsTaken, split_of, steps}
use Rattle.replay_laws.specs.Whole.{AreWhole}

-- the record says too little, whatever the blocks hold: its main bytes lack some of its layout, or it is a VISIBLE
-- without the reference to its heap block
abbrev pub LacksLayout : LogRecord → PartsView → Type 0
LacksLayout rec parts = (is_short rec parts ≡ true) ⊎ ((sets_map_bits (done_by rec) ≡ true) × (visible_block parts ≡ None))

-- so does some record of a log
abbrev pub SomeLacksLayout : List LogRecord → Type 0
SomeLacksLayout records = (at : ℕ) × (rec : LogRecord) × (slice_get records at ≡ Some rec) × LacksLayout rec (split_of rec).parts

-- a record that says enough is refused at a block only where the step of its effect on the block is, for the same
-- reason
abbrev pub RefusedAtItsBlock : Type 0
RefusedAtItsBlock = (custom : Option Extension) → IsSound custom → (root : PathValue) (per_file : ℕ) (rec : LogRecord) (parts : PartsView)
    (start : Lsn) (name : BlockName) (why : RedoWhy) (w : World)
    → 0 < per_file → IsTaken custom rec parts → AreWhole root per_file w.files
    → record_after custom root per_file rec parts w ≡ Err (RedoFailed start name why)
    → LacksLayout rec parts
    ⊎ (IsMainBlock name × (replay_step (view name.block) (held root per_file w name) rec.end (effect_on custom rec parts name) ≡ Err why))

-- and a log only where the run of its effects on the block is
abbrev pub LogRefusedAtItsBlock : Type 0
LogRefusedAtItsBlock = (custom : Option Extension) → IsSound custom → (root : PathValue) (per_file from : ℕ) (records : List LogRecord)
    (start : Lsn) (name : BlockName) (why : RedoWhy) (w : World)
    → 0 < per_file → AreTaken custom from records → AreWhole root per_file w.files
    → records_after custom root per_file records w ≡ Err (RedoFailed start name why)
    → SomeLacksLayout records
    ⊎ (IsMainBlock name × (replay_block (view name.block) (held root per_file w name) (steps custom name records) ≡ Err why))

-- So a cluster of which each block of a main fork fits a base, or is changed by no record, isn't refused at any block by a log whose
-- records say enough.
abbrev pub NotRefused : Type 0
NotRefused = (custom : Option Extension) → IsSound custom → (root : PathValue) (per_file from redo : ℕ) (base : BlockName → Option (List ℕ)) (records : List LogRecord)
    (start : Lsn) (name : BlockName) (why : RedoWhy) (w : World)
    → AreTaken custom from records → ¬ (SomeLacksLayout records) → Begins root per_file w
    → ((block : BlockName) → IsMainBlock block → IsFit custom root per_file redo block (base block) records w)
    → ¬ (records_after custom root per_file records w ≡ Err (RedoFailed start name why))
