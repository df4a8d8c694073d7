-- Files after a record's effect: PostgreSQL 16, src/backend/access/transam/xact.c, xact_redo_commit and xact_redo_abort;
-- src/include/access/clog.h; src/backend/access/transam/multixact.c, PerformOffsetsTruncation and PerformMembersTruncation.
-- Own: "Effects of records on files".
use Rattle.std.specs.Prelude.{ℕ, ◌+◌, ◌-◌, ◌/◌, ◌%◌, ◌^◌, ◌==◌, List, [], ◌∷◌, ◌++◌, Result, Ok, if◌then◌else◌}
use Rattle.block_refs.specs.Parts.{PartsView}
use Rattle.cluster_tree.specs.Causes.{given}
use Rattle.cluster_tree.specs.Contents.{Contents}
use Rattle.cluster_tree.specs.PathValue.{PathValue}
use Rattle.cluster_tree.specs.declared.file_fault.FileFault.{FileFault}
use Rattle.record_layouts.specs.declared.end.TransactionEnd.{TransactionEnd}
use Rattle.record_layouts.specs.declared.end_parts.Outcome.{Outcome}
use Rattle.record_layouts.specs.declared.end_parts.Outcome.TheVariants.{Commit, Abort}
use Rattle.record_layouts.specs.declared.multixact.MultiXactTruncate.{MultiXactTruncate}
use Rattle.slru_replay.specs.Area.{page_zeroed}
use Rattle.slru_replay.specs.Cutting.{area_cut}
use Rattle.slru_replay.specs.MultiXact.{create_in, multi_added}
use Rattle.slru_replay.specs.Status.{status_set}
use Rattle.slru_replay.specs.declared.area.Area.TheVariants as area
use Rattle.storage_databases.specs.Databases.{database_dropped, database_made}
use Rattle.storage_databases.specs.RelationMap.{map_written, update_in}
use Rattle.storage_replay.specs.Changes.{created, relation_dropped, truncated}
use Rattle.storage_replay.specs.MapBits.{map_edited}
use Rattle.storage_replay.specs.declared.map_edit.MapEdit.TheVariants.{Clear}
use Rattle.wal_records.specs.Reading.{LogRecord}
use Rattle.file_effects.specs.Effect.{effect_in}
use Rattle.file_effects.specs.MapClears.{bits_number, map_clears}
use Rattle.file_effects.specs.declared.clearing.Clearing.{Clearing}
use Rattle.file_effects.specs.declared.effect.FileEffect.{FileEffect}
use Rattle.file_effects.specs.declared.effect.FileEffect.TheVariants as effect

-- what is done for each of a list, in turn
unfoldable pub for_each : {A : Type 0} → (A → Contents → Result Contents FileFault) → List A → Contents → Result Contents FileFault
for_each step [] c = Ok c
for_each step (one ∷ more) c = given (step one c) (for_each step more)

-- one block's bits in its relation's map
abbrev pub bits_cleared : PathValue → (per_file : ℕ) → Clearing → Contents → Result Contents FileFault
bits_cleared root per_file clearing c = map_edited root per_file clearing.rel clearing.block (Clear (bits_number clearing.bits)) c

-- TRANSACTION_STATUS_COMMITTED, TRANSACTION_STATUS_ABORTED
abbrev pub status_of : Outcome → ℕ
status_of Commit = 1
status_of Abort = 2

-- a record of no transaction has 0
abbrev pub own_xid : (xid : ℕ) → List ℕ
own_xid xid = if xid == 0 then [] else xid ∷ []

abbrev pub statuses_set : PathValue → (status : ℕ) → List ℕ → Contents → Result Contents FileFault
statuses_set root status xids c = for_each (λ xid. status_set root xid status) xids c

-- the transaction and its subtransactions have the outcome as their status, and then its relations are dropped
unfoldable pub transaction_ended : PathValue → (xid : ℕ) → Outcome → TransactionEnd → Contents → Result Contents FileFault
transaction_ended root xid outcome end c =
    given (statuses_set root (status_of outcome) (own_xid xid ++ end.subxacts) c) (for_each (relation_dropped root) end.dropped)

-- the page of offsets of the multixact before another; a page has 2048, and the numbers go round
abbrev pub page_before : (multi : ℕ) → ℕ
page_before multi = (multi + (2 ^ 32 - 1)) % 2 ^ 32 / 2048

-- offsets before the page of the last multixact that goes, and then the members of those that go
unfoldable pub multis_cut : PathValue → MultiXactTruncate → Contents → Result Contents FileFault
multis_cut root cut c =
    given (area_cut root area.Offsets 0 (page_before cut.end_multi) c) (area_cut root area.Members cut.first_offset cut.end_offset)

abbrev pub effect_done : PathValue → (per_file : ℕ) → LogRecord → PartsView → FileEffect → Contents → Result Contents FileFault
effect_done root per_file rec parts effect.Nothing c = Ok c
effect_done root per_file rec parts (effect.End outcome end) c = transaction_ended root rec.header.xid outcome end c
effect_done root per_file rec parts (effect.Create made) c = created root made.rel made.fork c
effect_done root per_file rec parts (effect.Truncate cut) c = truncated root per_file cut.rel cut.blocks cut.flags c
effect_done root per_file rec parts (effect.ZeroPage area page) c = page_zeroed root area page c
effect_done root per_file rec parts (effect.CutStatus page) c = area_cut root area.Status 0 page c
effect_done root per_file rec parts effect.AddMulti c = multi_added root (create_in rec parts) c
effect_done root per_file rec parts (effect.CutMultis cut) c = multis_cut root cut c
effect_done root per_file rec parts effect.WriteMap c = map_written root (update_in rec parts) c
effect_done root per_file rec parts (effect.MakeDatabase database) c = database_made root database c
effect_done root per_file rec parts (effect.DropDatabase database) c = database_dropped root database c

-- the files of a cluster after a record: the map's bits first, and then its effect
unfoldable pub files_after : PathValue → (per_file : ℕ) → LogRecord → PartsView → Contents → Result Contents FileFault
files_after root per_file rec parts c =
    given (for_each (bits_cleared root per_file) (map_clears rec parts) c) (effect_done root per_file rec parts (effect_in rec parts))
