-- What all else that a record does to files leaves of whole files: every page of a main fork but for the blocks that are gone.
use Rattle.std.proofs.Common.{◌≡◌, ℕ, ◌<◌, Bool, true, false, List, [], ◌∷◌, ◌++◌, Option, None, Some, Result, Ok, refl}
use Rattle.std.specs.List.{AllByRecursion, list_any}
use Rattle.std.specs.Option.{option_map_or}
use Rattle.block_effects.specs.Gone.{gone_by, gone_by_database, gone_by_end, gone_by_storage, is_cut, is_dropped, is_gone, is_in_dropped}
use Rattle.block_refs.specs.Bytes.{main_bytes}
use Rattle.block_refs.specs.Parts.{PartsView}
use Rattle.block_refs.specs.declared.names.BlockName.{BlockName}
use Rattle.block_refs.specs.declared.names.RelName.{RelName}
use Rattle.cluster_tree.specs.Contents.{Contents}
use Rattle.cluster_tree.specs.PathValue.{PathValue}
use Rattle.cluster_tree.specs.declared.file_fault.FileFault.{FileFault}
use Rattle.file_effects.specs.Done.{bits_cleared, effect_done, files_after, for_each, multis_cut, own_xid, page_before, status_of, statuses_set, transaction_ended}
use Rattle.file_effects.specs.Effect.{effect_by_clog, effect_by_database, effect_by_multixact, effect_by_relmap, effect_by_storage, effect_by_transaction, effect_in, effect_of}
use Rattle.file_effects.specs.MapClears.{map_clears}
use Rattle.layout_readers.specs.Rows.{AreBytes}
use Rattle.record_layouts.specs.Clog.{clog_truncate_of, clog_zero_page_of}
use Rattle.record_layouts.specs.Database.{database_create_of, database_drop_of}
use Rattle.record_layouts.specs.End.{end_of}
use Rattle.record_layouts.specs.MultiXact.{multixact_truncate_of, multixact_zero_page_of}
use Rattle.record_layouts.specs.Operation.{operation_of}
use Rattle.record_layouts.specs.Storage.{storage_create_of, storage_truncate_of}
use Rattle.record_layouts.specs.declared.clog.ClogOp.{ClogOp}
use Rattle.record_layouts.specs.declared.clog.ClogOp.TheVariants as clog
use Rattle.record_layouts.specs.declared.database.DatabaseOp.{DatabaseOp}
use Rattle.record_layouts.specs.declared.database.DatabaseOp.TheVariants as database
use Rattle.record_layouts.specs.declared.end.TransactionEnd.{TransactionEnd}
use Rattle.record_layouts.specs.declared.end_parts.Outcome.{Outcome}
use Rattle.record_layouts.specs.declared.multixact.MultiXactOp.{MultiXactOp}
use Rattle.record_layouts.specs.declared.multixact.MultiXactOp.TheVariants as multixact
use Rattle.record_layouts.specs.declared.multixact.MultiXactTruncate.{MultiXactTruncate}
use Rattle.record_layouts.specs.declared.operation.Operation.{Operation}
use Rattle.record_layouts.specs.declared.operation.Operation.TheVariants as op
use Rattle.record_layouts.specs.declared.relmap.RelMapOp.{RelMapOp}
use Rattle.record_layouts.specs.declared.relmap.RelMapOp.TheVariants as relmap
use Rattle.record_layouts.specs.declared.storage.StorageOp.{StorageOp}
use Rattle.record_layouts.specs.declared.storage.StorageOp.TheVariants as storage
use Rattle.record_layouts.specs.declared.transaction.TransactionOp.{TransactionOp}
use Rattle.record_layouts.specs.declared.transaction.TransactionOp.TheVariants as transaction
use Rattle.replay_profile.specs.Fields.{takes_database, takes_fields, takes_storage, takes_transaction}
use Rattle.replay_profile.specs.Names.{is_rel}
use Rattle.slru_replay.specs.Cutting.{area_cut}
use Rattle.slru_replay.specs.MultiXact.{create_in}
use Rattle.slru_replay.specs.Status.{status_set}
use Rattle.slru_replay.specs.declared.area.Area.TheVariants.{Status, Offsets, Members}
use Rattle.storage_databases.specs.RelationMap.{update_in}
use Rattle.storage_replay.specs.Changes.{relation_dropped}
use Rattle.storage_laws.proofs.EditedLemmas.{given-done}
use Rattle.wal_records.specs.Reading.{LogRecord}
use Rattle.replay_laws.specs.Whole.{AreWhole}
use Rattle.replay_laws.proofs.ClearLemmas.{clears-stay}
use Rattle.replay_laws.proofs.FieldLemmas.{IsKnown, cut-known, drop-known, end-known}
use Rattle.replay_laws.proofs.LeaveLemmas.{Leaves, Stays, created-leaves, database-leaves, dropped-leaves, leaves-same, leaves-then, made-leaves, map-written-leaves, truncated-leaves}
use Rattle.replay_laws.proofs.ReadLemmas.{AreNumbered, still-bytes}
use Rattle.replay_laws.proofs.SlruLemmas.{added-stays, cut-stays, status-stays, stays-then, zeroed-stays}

abbrev OkContents : Contents → Result Contents FileFault
OkContents c = Ok c

module _ (root : PathValue) (per : ℕ) (some : 0 < per) where
  -- a transaction that ends

  statuses_stay : (status : ℕ) (xids : List ℕ) (c d : Contents) → AreWhole root per c → statuses_set root status xids c ≡ Ok d → Stays root per c d
  unfolding for_each
  statuses_stay status [] c d whole made = leaves-same root per c d whole cc
  statuses_stay status (xid ∷ xids) c d whole made =
      let two = given-done (status_set root xid status c) (statuses_set root status xids) d made in
      let first = status-stays root per xid status c two.0 whole two.1 in
      stays-then root per c two.0 d first (statuses_stay status xids two.0 d first.whole two.2)

  dropped_leave : (rels : List RelName) (c d : Contents) → AllByRecursion IsKnown rels → AreWhole root per c → for_each (relation_dropped root) rels c ≡ Ok d → Leaves root per (λ name. list_any (λ rel. is_rel rel name.rel) rels) c d
  unfolding for_each
  dropped_leave [] c d known whole made = leaves-same root per c d whole cc
  dropped_leave (rel ∷ rels) c d known whole made =
      let two = given-done (relation_dropped root rel c) (for_each (relation_dropped root) rels) d made in
      let first = dropped-leaves root per some c two.0 whole rel known.0.numbers known.0.proper two.1 in
      leaves-then root per _ _ c two.0 d first (dropped_leave rels two.0 d known.1 first.whole two.2)

  ended_leaves : (xid : ℕ) (outcome : Outcome) (end : TransactionEnd) (c d : Contents) → AllByRecursion IsKnown end.dropped → AreWhole root per c → transaction_ended root xid outcome end c ≡ Ok d → Leaves root per (λ name. is_dropped name end) c d
  unfolding transaction_ended
  ended_leaves xid outcome end c d known whole made =
      let two = given-done (statuses_set root (status_of outcome) (own_xid xid ++ end.subxacts) c) (for_each (relation_dropped root) end.dropped) d made in
      let first = statuses_stay (status_of outcome) (own_xid xid ++ end.subxacts) c two.0 whole two.1 in
      leaves-then root per _ _ c two.0 d first (dropped_leave end.dropped two.0 d known first.whole two.2)

  multis_stay : (cut : MultiXactTruncate) (c d : Contents) → AreWhole root per c → multis_cut root cut c ≡ Ok d → Stays root per c d
  unfolding multis_cut
  multis_stay cut c d whole made =
      let two = given-done (area_cut root Offsets 0 (page_before cut.end_multi) c) (area_cut root Members cut.first_offset cut.end_offset) d made in
      let first = cut-stays root per Offsets 0 (page_before cut.end_multi) c two.0 whole two.1 in
      stays-then root per c two.0 d first (cut-stays root per Members cut.first_offset cut.end_offset two.0 d first.whole two.2)

  module _ (rec : LogRecord) (parts : PartsView) (main : List ℕ) (are : AreBytes main) (c d : Contents) (whole : AreWhole root per c) where
    -- what is done, by the operation

    -- fields that aren't whole do nothing, and take no block away
    said_leaves : {A : Type 0} (test : BlockName → A → Bool) (fields : Option A) → (fields ≡ None → OkContents c ≡ Ok d) → ((value : A) → fields ≡ Some value → Leaves root per (λ name. test name value) c d)
        → Leaves root per (λ name. option_map_or (test name) fields false) c d
    said_leaves test None short each = let same : OkContents c ≡ Ok d = short refl in leaves-same root per c d whole cc
    said_leaves test (Some value) short each = each value refl

    said_stays : {A : Type 0} (fields : Option A) → (fields ≡ None → OkContents c ≡ Ok d) → ((value : A) → fields ≡ Some value → Stays root per c d) → Stays root per c d
    said_stays None short each = let same : OkContents c ≡ Ok d = short refl in leaves-same root per c d whole cc
    said_stays (Some value) short each = each value refl

    transaction_leaves : (o : TransactionOp) → takes_transaction o main ≡ true → effect_done root per rec parts (effect_by_transaction o main) c ≡ Ok d → Leaves root per (gone_by_end o main) c d
    transaction_leaves (transaction.End outcome prepared has_xinfo) takes made =
        said_leaves is_dropped (end_of outcome has_xinfo main) (λ short. rw short at made)
        (λ end read. ended_leaves rec.header.xid outcome end c d (end-known outcome has_xinfo main end are takes read) whole (rw read at made))
    transaction_leaves _ takes made = leaves-same root per c d whole cc

    storage_leaves : (o : StorageOp) → takes_storage o main ≡ true → effect_done root per rec parts (effect_by_storage o main) c ≡ Ok d → Leaves root per (gone_by_storage o main) c d
    storage_leaves storage.Create takes made = said_stays (storage_create_of main) (λ short. rw short at made) (λ new read. created-leaves root per some c d whole new.rel new.fork (rw read at made))
    storage_leaves storage.Truncate takes made =
        said_leaves is_cut (storage_truncate_of main) (λ short. rw short at made)
        (λ cut read. let known = cut-known main cut are takes read in truncated-leaves root per some c d whole cut known.rel.numbers known.rel.proper known.blocks (rw read at made))
    storage_leaves (storage.Unlisted number) takes made = leaves-same root per c d whole cc

    database_leaves : (o : DatabaseOp) → takes_database o main ≡ true → effect_done root per rec parts (effect_by_database o main) c ≡ Ok d → Leaves root per (gone_by_database o main) c d
    database_leaves database.CreateWalLog takes made = said_stays (database_create_of main) (λ short. rw short at made) (λ new read. made-leaves root per some c d whole new.database (rw read at made))
    database_leaves database.Drop takes made =
        said_leaves is_in_dropped (database_drop_of main) (λ short. rw short at made)
        (λ gone read. let known = drop-known main gone are takes read in database-leaves root per some c d whole gone known.number known.some (rw read at made))
    database_leaves _ takes made = leaves-same root per c d whole cc

    clog_stays : (o : ClogOp) → effect_done root per rec parts (effect_by_clog o main) c ≡ Ok d → Stays root per c d
    clog_stays clog.ZeroPage made = said_stays (clog_zero_page_of main) (λ short. rw short at made) (λ zero read. zeroed-stays root per Status zero.page c d whole (rw read at made))
    clog_stays clog.Truncate made = said_stays (clog_truncate_of main) (λ short. rw short at made) (λ cut read. cut-stays root per Status 0 cut.page c d whole (rw read at made))
    clog_stays (clog.Unlisted number) made = leaves-same root per c d whole cc

    multixact_stays : (o : MultiXactOp) → effect_done root per rec parts (effect_by_multixact o main) c ≡ Ok d → Stays root per c d
    multixact_stays multixact.ZeroOffsetsPage made = said_stays (multixact_zero_page_of main) (λ short. rw short at made) (λ zero read. zeroed-stays root per Offsets zero.page c d whole (rw read at made))
    multixact_stays multixact.ZeroMembersPage made = said_stays (multixact_zero_page_of main) (λ short. rw short at made) (λ zero read. zeroed-stays root per Members zero.page c d whole (rw read at made))
    multixact_stays multixact.CreateId made = added-stays root per (create_in rec parts) c d whole made
    multixact_stays multixact.TruncateId made = said_stays (multixact_truncate_of main) (λ short. rw short at made) (λ cut read. multis_stay cut c d whole (rw read at made))
    multixact_stays (multixact.Unlisted number) made = leaves-same root per c d whole cc

    relmap_stays : (o : RelMapOp) → effect_done root per rec parts (effect_by_relmap o) c ≡ Ok d → Stays root per c d
    relmap_stays relmap.Update made = map-written-leaves root per some c d whole (update_in rec parts) made
    relmap_stays (relmap.Unlisted number) made = leaves-same root per c d whole cc

    op_leaves : (o : Operation) → takes_fields o main ≡ true → effect_done root per rec parts (effect_of o main) c ≡ Ok d → Leaves root per (gone_by o main) c d
    unfolding effect_of
    op_leaves (op.Transaction o) takes made = transaction_leaves o takes made
    op_leaves (op.Storage o) takes made = storage_leaves o takes made
    op_leaves (op.Database o) takes made = database_leaves o takes made
    op_leaves (op.Clog o) takes made = clog_stays o made
    op_leaves (op.MultiXact o) takes made = multixact_stays o made
    op_leaves (op.RelMap o) takes made = relmap_stays o made
    op_leaves _ takes made = leaves-same root per c d whole cc

  -- the bits of the map first, and then what the operation does
  pub files-leave : (rec : LogRecord) (parts : PartsView) (c d : Contents) → AreBytes rec.body → AreNumbered parts.blocks → takes_fields (operation_of rec.header.manager rec.header.info) (main_bytes rec.body parts) ≡ true
      → AreWhole root per c → files_after root per rec parts c ≡ Ok d → Leaves root per (is_gone rec parts) c d
  unfolding files_after
  files-leave rec parts c d are numbered takes whole made =
      let main = main_bytes rec.body parts in
      let two = given-done (for_each (bits_cleared root per) (map_clears rec parts) c) (effect_done root per rec parts (effect_in rec parts)) d made in
      let first = clears-stay root per some rec parts c two.0 numbered whole two.1 in
      leaves-then root per _ _ c two.0 d first (op_leaves rec parts main (still-bytes parts.main rec.body are) two.0 d first.whole (operation_of rec.header.manager rec.header.info) takes two.2)
