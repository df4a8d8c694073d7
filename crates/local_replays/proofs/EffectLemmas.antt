-- What records do to files beside their blocks, in two clusters of which the same is seen.
use Rattle.std.proofs.Common.{◌≡◌, ℕ, ◌+◌, ◌*◌, ◌/◌, ◌%◌, ◌^◌, Bool, List, [], ◌∷◌, ◌++◌, replicate, Option, None, Some, Result, Ok, refl, ap}
use Rattle.std.specs.Int.{w32, to_le_bytes}
use Rattle.block_refs.specs.Bytes.{main_bytes}
use Rattle.block_refs.specs.Parts.{PartsView}
use Rattle.cluster_tree.specs.Contents.{Contents, entry_at}
use Rattle.cluster_tree.specs.PathValue.{PathValue, below}
use Rattle.cluster_tree.specs.declared.file_fault.FileFault.{FileFault}
use Rattle.file_edits.specs.Asking.{file_asked, names_asked}
use Rattle.file_edits.specs.Clearing.{in_turn}
use Rattle.file_edits.specs.Edits.{file_edited, file_removed, laid}
use Rattle.record_layouts.specs.Clog.{clog_truncate_of, clog_zero_page_of}
use Rattle.record_layouts.specs.Database.{database_create_of, database_drop_of}
use Rattle.record_layouts.specs.End.{end_of}
use Rattle.record_layouts.specs.MultiXact.{multixact_truncate_of, multixact_zero_page_of}
use Rattle.record_layouts.specs.Operation.{operation_of}
use Rattle.record_layouts.specs.Storage.{storage_create_of, storage_truncate_of}
use Rattle.record_layouts.specs.declared.clog.ClogOp.{ClogOp}
use Rattle.record_layouts.specs.declared.clog.ClogOp.TheVariants as clog
use Rattle.record_layouts.specs.declared.clog.ClogTruncate.{ClogTruncate}
use Rattle.record_layouts.specs.declared.clog.ClogZeroPage.{ClogZeroPage}
use Rattle.record_layouts.specs.declared.database.DatabaseCreate.{DatabaseCreate}
use Rattle.record_layouts.specs.declared.database.DatabaseDrop.{DatabaseDrop}
use Rattle.record_layouts.specs.declared.database.DatabaseOp.{DatabaseOp}
use Rattle.record_layouts.specs.declared.database.DatabaseOp.TheVariants as database
use Rattle.record_layouts.specs.declared.end.TransactionEnd.{TransactionEnd}
use Rattle.record_layouts.specs.declared.end_parts.Outcome.{Outcome}
use Rattle.record_layouts.specs.declared.kinds.Member.{Member}
use Rattle.record_layouts.specs.declared.multixact.MultiXactCreate.{MultiXactCreate}
use Rattle.record_layouts.specs.declared.multixact.MultiXactOp.{MultiXactOp}
use Rattle.record_layouts.specs.declared.multixact.MultiXactOp.TheVariants as multixact
use Rattle.record_layouts.specs.declared.multixact.MultiXactTruncate.{MultiXactTruncate}
use Rattle.record_layouts.specs.declared.multixact.MultiXactZeroPage.{MultiXactZeroPage}
use Rattle.record_layouts.specs.declared.operation.Operation.{Operation}
use Rattle.record_layouts.specs.declared.operation.Operation.TheVariants as op
use Rattle.record_layouts.specs.declared.relmap.RelMapOp.{RelMapOp}
use Rattle.record_layouts.specs.declared.relmap.RelMapOp.TheVariants as relmap
use Rattle.record_layouts.specs.declared.relmap.RelMapUpdate.{RelMapUpdate}
use Rattle.record_layouts.specs.declared.storage.StorageCreate.{StorageCreate}
use Rattle.record_layouts.specs.declared.storage.StorageOp.{StorageOp}
use Rattle.record_layouts.specs.declared.storage.StorageOp.TheVariants as storage
use Rattle.record_layouts.specs.declared.storage.StorageTruncate.{StorageTruncate}
use Rattle.record_layouts.specs.declared.transaction.TransactionOp.{TransactionOp}
use Rattle.record_layouts.specs.declared.transaction.TransactionOp.TheVariants as transaction
use Rattle.slru_replay.specs.Area.{folder_of, page_end, page_file, page_laid, page_start, page_zeroed}
use Rattle.slru_replay.specs.Cutting.{area_cut, file_cut, name_cut}
use Rattle.slru_replay.specs.MultiXact.{create_in, flags_at, flags_set, member_set, members_page, members_set, multi_added, offset_set, xid_at, xid_set}
use Rattle.slru_replay.specs.Status.{status_page, status_set, with_status}
use Rattle.slru_replay.specs.declared.area.Area.{Area}
use Rattle.slru_replay.specs.declared.area.Area.TheVariants.{Status, Offsets, Members}
use Rattle.storage_databases.specs.Databases.{database_folder, database_made, version_by, version_file, version_text}
use Rattle.storage_databases.specs.RelationMap.{map_file, map_written, update_in}
use Rattle.storage_replay.specs.Changes.{relation_dropped}
use Rattle.storage_replay.specs.declared.map_edit.MapEdit.TheVariants.{Clear}
use Rattle.storage_replay.specs.declared.sweep.Sweep.TheVariants.{Remove}
use Rattle.wal_records.specs.Reading.{LogRecord}
use Rattle.file_effects.specs.Done.{bits_cleared, effect_done, files_after, for_each, multis_cut, own_xid, page_before, status_of, statuses_set, transaction_ended}
use Rattle.file_effects.specs.Effect.{effect_by_clog, effect_by_database, effect_by_multixact, effect_by_relmap, effect_by_storage, effect_by_transaction, effect_in, effect_of, page_effect}
use Rattle.file_effects.specs.MapClears.{bits_number, map_clears}
use Rattle.local_replays.specs.Seen.{EndSame, Sees}
use Rattle.local_replays.proofs.EditLemmas.{edited-same, names-told, removed-same, tree-same, turn-same}
use Rattle.local_replays.proofs.PlaceLemmas.{area-place, database-seen, map-place, page-place, root-seen, version-place}
use Rattle.local_replays.proofs.SeenLemmas.{Keeps, Local, if-same, then-same, told-same}
use Rattle.local_replays.proofs.StorageLemmas.{bits-same, created-same, swept-same, truncated-same}

module _ (seen : PathValue → Bool) (Same : Contents → Contents → Type 0) (keeps : Keeps seen Same) (root : PathValue) (sees : Sees root seen) where
  -- ---- status and multixacts

  page_same : (area : Area) (page : ℕ) (edit : List ℕ → List ℕ) → Local Same (file_edited root (page_file root area page) edit)
  page_same area page edit =
      let place = page-place seen root sees area page in
      edited-same seen Same keeps root (page_file root area page) (root-seen seen root sees) place.way place.own edit

  file_same : (area : Area) (first last : ℕ) (name : List ℕ) → Local Same (file_cut area first last (folder_of root area) name)
  unfolding file_cut
  file_same area first last name c d same =
      let path : PathValue = below (folder_of root area) (name ∷ []) in
      if-same Same (name_cut area first last name) (file_removed path c) (Ok c) (file_removed path d) (Ok d)
      (removed-same seen Same keeps path ((area-place seen root sees area).names name) c d same) same

  area_same : (area : Area) (first last : ℕ) → Local Same (area_cut root area first last)
  unfolding area_cut
  area_same area first last c d same =
      let folder : PathValue = folder_of root area in
      told-same Same (names_asked c folder (entry_at c folder)) (names_asked d folder (entry_at d folder))
      (λ names. in_turn (file_cut area first last folder) names c) (λ names. in_turn (file_cut area first last folder) names d)
      (names-told seen Same keeps folder (area-place seen root sees area).own (area-place seen root sees area).names c d same)
      (λ names. turn-same seen Same keeps (file_cut area first last folder) (file_same area first last) names c d same)

  zeroed_same : (area : Area) (page : ℕ) → Local Same (page_zeroed root area page)
  zeroed_same area page = page_same area page (laid (page_start page) (page_start page) (replicate 8192 0))

  laid_same : (area : Area) (page at : ℕ) (bytes : List ℕ) → Local Same (page_laid root area page at bytes)
  laid_same area page at bytes = page_same area page (laid (page_end page) (page_start page + at) bytes)

  member_same : (offset : ℕ) (member : Member) → Local Same (member_set root offset member)
  unfolding member_set
  member_same offset member c d same =
      then-same Same Same (flags_set root offset member c) (flags_set root offset member d) (xid_set root offset member) (xid_set root offset member)
      (laid_same Members (members_page offset) (flags_at offset) (member.status % 256 ∷ []) c d same)
      (laid_same Members (members_page offset) (xid_at offset) (to_le_bytes w32 member.xid))

  members_same : (offset : ℕ) (members : List Member) → Local Same (members_set root offset members)
  unfolding members_set
  members_same offset [] c d same = same
  members_same offset (member ∷ members) c d same =
      then-same Same Same (member_set root offset member c) (member_set root offset member d) (members_set root ((offset + 1) % 2 ^ 32) members) (members_set root ((offset + 1) % 2 ^ 32) members)
      (member_same offset member c d same) (members_same ((offset + 1) % 2 ^ 32) members)

  multi_same : (create : Option MultiXactCreate) → Local Same (multi_added root create)
  unfolding multi_added
  multi_same None c d same = same
  multi_same (Some create) c d same =
      then-same Same Same (offset_set root create.multi create.offset c) (offset_set root create.multi create.offset d) (members_set root create.offset create.members) (members_set root create.offset create.members)
      (laid_same Offsets (create.multi / 2048) (create.multi % 2048 * 4) (to_le_bytes w32 create.offset) c d same) (members_same create.offset create.members)

  -- ---- databases and maps

  version_same : (path : PathValue) → (o : Option (List ℕ)) → Local Same (file_edited root path (laid 0 0 version_text)) → (c d : Contents) → Same c d
      → EndSame Same (version_by root path c o) (version_by root path d o)
  version_same path (Some bytes) edit c d same = same
  version_same path None edit c d same = edit c d same

  made_same : (database : ℕ) → Local Same (database_made root database)
  unfolding database_made
  made_same database c d same =
      let path : PathValue = version_file root database in
      let place = version-place seen root sees database in
      told-same Same (file_asked path (entry_at c path)) (file_asked path (entry_at d path)) (version_by root path c) (version_by root path d)
      (ap (file_asked path) (keeps.agrees c d same path place.own))
      (λ o. version_same path o (edited-same seen Same keeps root path (root-seen seen root sees) place.way place.own (laid 0 0 version_text)) c d same)

  written_same : (update : Option RelMapUpdate) → Local Same (map_written root update)
  written_same None c d same = same
  written_same (Some update) c d same =
      let place = map-place seen root sees update.database in
      edited-same seen Same keeps root (map_file root update.database) (root-seen seen root sees) place.way place.own (λ _. update.map) c d same

  -- ---- each effect

  each_same : {A : Type 0} (step : A → Contents → Result Contents FileFault) → ((x : A) → Local Same (step x)) → (xs : List A) → Local Same (for_each step xs)
  unfolding for_each
  each_same step each [] c d same = same
  each_same step each (x ∷ xs) c d same = then-same Same Same (step x c) (step x d) (for_each step xs) (for_each step xs) (each x c d same) (each_same step each xs)

  ended_same : (xid : ℕ) (outcome : Outcome) (end : TransactionEnd) → Local Same (transaction_ended root xid outcome end)
  unfolding transaction_ended
  ended_same xid outcome end c d same =
      then-same Same Same (statuses_set root (status_of outcome) (own_xid xid ++ end.subxacts) c) (statuses_set root (status_of outcome) (own_xid xid ++ end.subxacts) d)
      (for_each (relation_dropped root) end.dropped) (for_each (relation_dropped root) end.dropped)
      (each_same (λ x. status_set root x (status_of outcome)) (λ x. page_same Status (status_page x) (with_status x (status_of outcome))) (own_xid xid ++ end.subxacts) c d same)
      (each_same (relation_dropped root) (λ rel. swept-same seen Same keeps root sees Remove rel) end.dropped)

  multis_same : (cut : MultiXactTruncate) → Local Same (multis_cut root cut)
  unfolding multis_cut
  multis_same cut c d same =
      then-same Same Same (area_cut root Offsets 0 (page_before cut.end_multi) c) (area_cut root Offsets 0 (page_before cut.end_multi) d)
      (area_cut root Members cut.first_offset cut.end_offset) (area_cut root Members cut.first_offset cut.end_offset)
      (area_same Offsets 0 (page_before cut.end_multi) c d same) (area_same Members cut.first_offset cut.end_offset)

  module _ (per : ℕ) (rec : LogRecord) (parts : PartsView) (main : List ℕ) (c d : Contents) (same : Same c d) where
    transaction_same : (o : TransactionOp) → EndSame Same (effect_done root per rec parts (effect_by_transaction o main) c) (effect_done root per rec parts (effect_by_transaction o main) d)
    transaction_same (transaction.End outcome prepared has_xinfo) = by (end_of outcome has_xinfo main) refl
      where
        by : (fields : Option TransactionEnd) → end_of outcome has_xinfo main ≡ fields
            → EndSame Same (effect_done root per rec parts (effect_by_transaction (transaction.End outcome prepared has_xinfo) main) c) (effect_done root per rec parts (effect_by_transaction (transaction.End outcome prepared has_xinfo) main) d)
        by None is = rw is same
        by (Some end) is = rw is (ended_same rec.header.xid outcome end c d same)
    transaction_same _ = same

    storage_same : (o : StorageOp) → EndSame Same (effect_done root per rec parts (effect_by_storage o main) c) (effect_done root per rec parts (effect_by_storage o main) d)
    storage_same storage.Create = by (storage_create_of main) refl
      where
        by : (fields : Option StorageCreate) → storage_create_of main ≡ fields
            → EndSame Same (effect_done root per rec parts (effect_by_storage storage.Create main) c) (effect_done root per rec parts (effect_by_storage storage.Create main) d)
        by None is = rw is same
        by (Some made) is = rw is (created-same seen Same keeps root sees made.rel made.fork c d same)
    storage_same storage.Truncate = by (storage_truncate_of main) refl
      where
        by : (fields : Option StorageTruncate) → storage_truncate_of main ≡ fields
            → EndSame Same (effect_done root per rec parts (effect_by_storage storage.Truncate main) c) (effect_done root per rec parts (effect_by_storage storage.Truncate main) d)
        by None is = rw is same
        by (Some cut) is = rw is (truncated-same seen Same keeps root sees per cut.rel cut.blocks cut.flags c d same)
    storage_same (storage.Unlisted number) = same

    database_same : (o : DatabaseOp) → EndSame Same (effect_done root per rec parts (effect_by_database o main) c) (effect_done root per rec parts (effect_by_database o main) d)
    database_same database.CreateWalLog = by (database_create_of main) refl
      where
        by : (fields : Option DatabaseCreate) → database_create_of main ≡ fields
            → EndSame Same (effect_done root per rec parts (effect_by_database database.CreateWalLog main) c) (effect_done root per rec parts (effect_by_database database.CreateWalLog main) d)
        by None is = rw is same
        by (Some made) is = rw is (made_same made.database c d same)
    database_same database.Drop = by (database_drop_of main) refl
      where
        by : (fields : Option DatabaseDrop) → database_drop_of main ≡ fields
            → EndSame Same (effect_done root per rec parts (effect_by_database database.Drop main) c) (effect_done root per rec parts (effect_by_database database.Drop main) d)
        by None is = rw is same
        by (Some gone) is = rw is (tree-same seen Same keeps (database_folder root gone.database) (database-seen seen root sees gone.database) c d same)
    database_same _ = same

    clog_same : (o : ClogOp) → EndSame Same (effect_done root per rec parts (effect_by_clog o main) c) (effect_done root per rec parts (effect_by_clog o main) d)
    clog_same clog.ZeroPage = by (clog_zero_page_of main) refl
      where
        by : (fields : Option ClogZeroPage) → clog_zero_page_of main ≡ fields
            → EndSame Same (effect_done root per rec parts (effect_by_clog clog.ZeroPage main) c) (effect_done root per rec parts (effect_by_clog clog.ZeroPage main) d)
        by None is = rw is same
        by (Some zero) is = rw is (zeroed_same Status zero.page c d same)
    clog_same clog.Truncate = by (clog_truncate_of main) refl
      where
        by : (fields : Option ClogTruncate) → clog_truncate_of main ≡ fields
            → EndSame Same (effect_done root per rec parts (effect_by_clog clog.Truncate main) c) (effect_done root per rec parts (effect_by_clog clog.Truncate main) d)
        by None is = rw is same
        by (Some cut) is = rw is (area_same Status 0 cut.page c d same)
    clog_same (clog.Unlisted number) = same

    zero_same : (area : Area) → EndSame Same (effect_done root per rec parts (page_effect area main) c) (effect_done root per rec parts (page_effect area main) d)
    zero_same area = by (multixact_zero_page_of main) refl
      where
        by : (fields : Option MultiXactZeroPage) → multixact_zero_page_of main ≡ fields → EndSame Same (effect_done root per rec parts (page_effect area main) c) (effect_done root per rec parts (page_effect area main) d)
        by None is = rw is same
        by (Some zero) is = rw is (zeroed_same area zero.page c d same)

    multixact_same : (o : MultiXactOp) → EndSame Same (effect_done root per rec parts (effect_by_multixact o main) c) (effect_done root per rec parts (effect_by_multixact o main) d)
    multixact_same multixact.ZeroOffsetsPage = zero_same Offsets
    multixact_same multixact.ZeroMembersPage = zero_same Members
    multixact_same multixact.CreateId = multi_same (create_in rec parts) c d same
    multixact_same multixact.TruncateId = by (multixact_truncate_of main) refl
      where
        by : (fields : Option MultiXactTruncate) → multixact_truncate_of main ≡ fields
            → EndSame Same (effect_done root per rec parts (effect_by_multixact multixact.TruncateId main) c) (effect_done root per rec parts (effect_by_multixact multixact.TruncateId main) d)
        by None is = rw is same
        by (Some cut) is = rw is (multis_same cut c d same)
    multixact_same (multixact.Unlisted number) = same

    relmap_same : (o : RelMapOp) → EndSame Same (effect_done root per rec parts (effect_by_relmap o) c) (effect_done root per rec parts (effect_by_relmap o) d)
    relmap_same relmap.Update = written_same (update_in rec parts) c d same
    relmap_same (relmap.Unlisted number) = same

    op_same : (o : Operation) → EndSame Same (effect_done root per rec parts (effect_of o main) c) (effect_done root per rec parts (effect_of o main) d)
    unfolding effect_of
    op_same (op.Transaction o) = transaction_same o
    op_same (op.Storage o) = storage_same o
    op_same (op.Database o) = database_same o
    op_same (op.Clog o) = clog_same o
    op_same (op.MultiXact o) = multixact_same o
    op_same (op.RelMap o) = relmap_same o
    op_same _ = same

  -- the bits of the map that a record clears, and then its effect
  pub files-same : (per : ℕ) (rec : LogRecord) (parts : PartsView) → Local Same (files_after root per rec parts)
  unfolding files_after
  files-same per rec parts c d same =
      then-same Same Same (for_each (bits_cleared root per) (map_clears rec parts) c) (for_each (bits_cleared root per) (map_clears rec parts) d)
      (effect_done root per rec parts (effect_in rec parts)) (effect_done root per rec parts (effect_in rec parts))
      (each_same (bits_cleared root per) (λ clearing. bits-same seen Same keeps root sees per clearing.rel clearing.block (Clear (bits_number clearing.bits))) (map_clears rec parts) c d same)
      (λ e f left. op_same per rec parts (main_bytes rec.body parts) e f left (operation_of rec.header.manager rec.header.info))
