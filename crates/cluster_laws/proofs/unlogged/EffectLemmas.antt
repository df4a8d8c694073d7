-- What a record does to files beside its blocks leaves the init fork of a relation that isn't gone with it.
use Rattle.std.proofs.Common.{◌≡◌, ◌≢◌, ℕ, ◌<◌, ◌^◌, ◌==◌, true, false, List, [], ◌∷◌, ◌++◌, Option, None, Some, Ok, refl, ap, sym, ◌∙◌, true≢false, arith}
use Rattle.std.specs.List.{AllByRecursion, list_any}
use Rattle.std.specs.Option.{option_map_or}
use Rattle.std.proofs.lemmas.Bool.{or_parts}
use Rattle.std.proofs.lemmas.List.{append_cancel_left}
use Rattle.block_effects.specs.Gone.{gone_by, gone_by_database, gone_by_end, is_dropped, is_gone, is_in_dropped}
use Rattle.block_refs.specs.Bytes.{main_bytes}
use Rattle.block_refs.specs.Parts.{PartsView}
use Rattle.block_refs.specs.declared.names.BlockName.{BlockName}
use Rattle.block_refs.specs.declared.names.Fork.TheVariants.{Init}
use Rattle.block_refs.specs.declared.names.RelName.{RelName}
use Rattle.cluster_tree.specs.Apart.{is_held}
use Rattle.cluster_tree.specs.Contents.{Contents, entry_at}
use Rattle.cluster_tree.specs.PathValue.{PathValue, below}
use Rattle.file_edits.specs.Asking.{file_asked}
use Rattle.file_edits.proofs.ClearLemmas.{tree-elsewhere}
use Rattle.file_effects.specs.Done.{bits_cleared, effect_done, files_after, for_each, own_xid, status_of, statuses_set, transaction_ended}
use Rattle.file_effects.specs.Effect.{effect_by_clog, effect_by_database, effect_by_multixact, effect_by_relmap, effect_by_storage, effect_by_transaction, effect_in, effect_of}
use Rattle.file_effects.specs.MapClears.{bits_number, map_clears}
use Rattle.layout_readers.specs.Rows.{AreBytes}
use Rattle.record_layouts.specs.Clog.{clog_truncate_of, clog_zero_page_of}
use Rattle.record_layouts.specs.Database.{database_create_of, database_drop_of}
use Rattle.record_layouts.specs.End.{end_of}
use Rattle.record_layouts.specs.MultiXact.{multixact_truncate_of, multixact_zero_page_of}
use Rattle.record_layouts.specs.Operation.{operation_of}
use Rattle.record_layouts.specs.Storage.{storage_create_of, storage_truncate_of}
use Rattle.record_layouts.specs.declared.clog.ClogOp.{ClogOp}
use Rattle.record_layouts.specs.declared.clog.ClogOp.TheVariants as clog
use Rattle.record_layouts.specs.declared.database.DatabaseOp.{DatabaseOp}
use Rattle.record_layouts.specs.declared.database.DatabaseOp.TheVariants as database
use Rattle.record_layouts.specs.declared.end.TransactionEnd.{TransactionEnd}
use Rattle.record_layouts.specs.declared.end_parts.Outcome.{Outcome}
use Rattle.record_layouts.specs.declared.multixact.MultiXactOp.{MultiXactOp}
use Rattle.record_layouts.specs.declared.multixact.MultiXactOp.TheVariants as multixact
use Rattle.record_layouts.specs.declared.operation.Operation.{Operation}
use Rattle.record_layouts.specs.declared.operation.Operation.TheVariants as op
use Rattle.record_layouts.specs.declared.relmap.RelMapOp.{RelMapOp}
use Rattle.record_layouts.specs.declared.relmap.RelMapOp.TheVariants as relmap
use Rattle.record_layouts.specs.declared.relmap.RelMapUpdate.{RelMapUpdate}
use Rattle.record_layouts.specs.declared.storage.StorageOp.{StorageOp}
use Rattle.record_layouts.specs.declared.storage.StorageOp.TheVariants as storage
use Rattle.record_layouts.specs.declared.transaction.TransactionOp.{TransactionOp}
use Rattle.record_layouts.specs.declared.transaction.TransactionOp.TheVariants as transaction
use Rattle.relation_files.specs.Names.{name_of}
use Rattle.relation_files.specs.Paths.{folder_parts, relation_file, relation_folder}
use Rattle.relation_files.specs.Reading.{file_named}
use Rattle.replay_laws.specs.Held.{IsMainBlock}
use Rattle.replay_laws.proofs.FieldLemmas.{IsKnown, drop-known, end-known}
use Rattle.replay_laws.proofs.NameLemmas.{rel-same}
use Rattle.replay_laws.proofs.ReadLemmas.{still-bytes}
use Rattle.replay_laws.proofs.SlruLemmas.{other_path}
use Rattle.replay_profile.specs.Fields.{takes_database, takes_fields, takes_transaction}
use Rattle.replay_profile.specs.Names.{is_rel}
use Rattle.slru_replay.specs.Area.{folder_of, page_zeroed}
use Rattle.slru_replay.specs.MultiXact.{create_in}
use Rattle.slru_replay.specs.Status.{status_set}
use Rattle.slru_replay.specs.declared.area.Area.{Area}
use Rattle.slru_replay.specs.declared.area.Area.TheVariants.{Members, Offsets, Status}
use Rattle.storage_databases.specs.Databases.{database_dropped, database_folder, database_made, version_by, version_file}
use Rattle.storage_databases.specs.RelationMap.{map_written, update_in}
use Rattle.storage_laws.specs.Names.{same_files}
use Rattle.storage_laws.proofs.DatabaseLemmas.{held_database}
use Rattle.storage_laws.proofs.EditedLemmas.{given-done}
use Rattle.storage_laws.proofs.FileLemmas.{file-named, folder-same, named-same}
use Rattle.storage_laws.proofs.NumberLemmas.{and-both, and-parts, by_test, eq-is, eq-yes}
use Rattle.storage_replay.specs.Changes.{relation_dropped}
use Rattle.storage_replay.specs.Cutting.{name_swept}
use Rattle.storage_replay.specs.declared.map_edit.MapEdit.TheVariants.{Clear}
use Rattle.storage_replay.specs.declared.sweep.Sweep.TheVariants.{Remove}
use Rattle.storage_laws.proofs.SweepLemmas.{sweep-keeps}
use Rattle.wal_records.specs.Reading.{LogRecord}
use Rattle.cluster_laws.proofs.unlogged.AreaLemmas.{added-stays, area-stays, multis-stay}
use Rattle.cluster_laws.proofs.unlogged.StayLemmas.{OkFiles, Stays, created-stays, each-stays, edited-stays, map-stays, stays-elsewhere, stays-same, stays-then, truncated-stays}

-- nothing is asked of any of a list
abbrev Any : {A : Type 0} → A → Type 0
Any one = Unit {0}

all_any : {A : Type 0} (list : List A) → AllByRecursion Any list
all_any [] = tt
all_any (one ∷ list) = (tt, all_any list)

-- the first file of the init fork of a block's relation
abbrev pub init_file : PathValue → BlockName → PathValue
init_file root name = relation_file root name.rel Init 0

module _ (root : PathValue) (per : ℕ) (name : BlockName) (is : IsMainBlock name) where
  abbrev own : RelName
  own = name.rel

  abbrev init : PathValue
  init = init_file root name

  -- a relation that is dropped is another

  record IsOther (rel : RelName) : Type 0 where
    known : IsKnown rel
    other : is_rel rel own ≡ false

  dropped_apart : (rel : RelName) (text : List ℕ) → IsOther rel → name_swept Remove rel.relation (file_named text) ≡ true → init ≢ below (relation_folder root rel) (text ∷ [])
  dropped_apart rel text other swept same =
      let two = named-same (relation_folder root own) (relation_folder root rel) (name_of own.relation Init 0) text same in
      let folders = folder-same rel own other.known.numbers is.block.rel (append_cancel_left root.parts (folder_parts rel) (folder_parts own) (sym two.0)) in
      let named : file_named text ≡ Some (record { relation = own.relation; fork = Init; segment = 0 }) = ap file_named (sym two.1) ∙ file-named own.relation Init 0 is.block.rel.relation (omega arith) in
      let number : (own.relation == rel.relation) ≡ true = sym (ap (name_swept Remove rel.relation) named) ∙ swept in
      let both : same_files rel own ≡ true = and-both _ _ folders (eq-yes rel.relation own.relation (sym (eq-is own.relation rel.relation number))) in
      true≢false (sym both ∙ rel-same rel own other.known.proper is.proper ∙ other.other)

  dropped_stays : (rel : RelName) (c d : Contents) → IsOther rel → relation_dropped root rel c ≡ Ok d → Stays init c d
  dropped_stays rel c d other made = stays-elsewhere init c d (sweep-keeps root Remove rel c d init made (λ text swept. dropped_apart rel text other swept))

  ended_stays : (xid : ℕ) (outcome : Outcome) (end : TransactionEnd) (c d : Contents) → AllByRecursion IsOther end.dropped → transaction_ended root xid outcome end c ≡ Ok d → Stays init c d
  unfolding transaction_ended
  ended_stays xid outcome end c d others made =
      let xids : List ℕ = own_xid xid ++ end.subxacts in
      let two = given-done (statuses_set root (status_of outcome) xids c) (for_each (relation_dropped root) end.dropped) d made in
      stays-then init c two.0 d
      (each-stays init Any (λ xid. status_set root xid (status_of outcome)) (λ xid e f any run. edited-stays init root _ _ e f run) xids c two.0 (all_any xids) two.1)
      (each-stays init IsOther (relation_dropped root) (λ rel e f other run. dropped_stays rel e f other run) end.dropped two.0 d others two.2)

  -- a database that is dropped is another

  database_stays : (database : ℕ) (c d : Contents) → database < 2 ^ 32 → (database == own.database) ≡ false → database_dropped root database c ≡ Ok d → Stays init c d
  database_stays database c d few other made = stays-elsewhere init c d (tree-elsewhere (database_folder root database) c d init made
      (by_test (is_held (database_folder root database) init)
      (λ held.
      let inside = held_database root own database (name_of own.relation Init 0) is.block.rel.database few held in
      let same = eq-is own.database database (and-parts _ _ inside).1 in
      absurd (true≢false (sym (eq-yes database own.database (sym same)) ∙ other)))
      (λ apart. apart)))

  -- what is done, by its kind

  made_stays : (database : ℕ) (c d : Contents) → database_made root database c ≡ Ok d → Stays init c d
  unfolding database_made
  made_stays database c d made =
      let path = version_file root database in
      let two = given-done (file_asked path (entry_at c path)) (version_by root path c) d made in
      by two.0 two.2
    where
      by : (found : Option (List ℕ)) → version_by root (version_file root database) c found ≡ Ok d → Stays init c d
      by (Some bytes) run = stays-same init c d cc
      by None run = edited-stays init root _ _ c d run

  written_stays : (update : Option RelMapUpdate) (c d : Contents) → map_written root update c ≡ Ok d → Stays init c d
  written_stays None c d made = stays-same init c d cc
  written_stays (Some update) c d made = edited-stays init root _ _ c d made

  zeroed_stays : (area : Area) (page : ℕ) (c d : Contents) → page_zeroed root area page c ≡ Ok d → Stays init c d
  zeroed_stays area page c d made = edited-stays init root _ _ c d made

  apart : (area : Area) (text : List ℕ) → init ≢ below (folder_of root area) (text ∷ [])
  apart area text = other_path root own Init 0 area text

  -- of relations that are dropped each is another, where none of them is this one
  others : (rels : List RelName) → AllByRecursion IsKnown rels → list_any (λ rel. is_rel rel own) rels ≡ false → AllByRecursion IsOther rels
  others [] known none = tt
  others (rel ∷ rels) known none =
      let both = or_parts (is_rel rel own) (list_any (λ r. is_rel r own) rels) none in
      (record { known = known.0; other = both.0 }, others rels known.1 both.1)

  -- what is done, by the operation, where it doesn't take the block away

  module _ (rec : LogRecord) (parts : PartsView) (main : List ℕ) (are : AreBytes main) (c d : Contents) where
    -- fields that aren't whole do nothing
    said_stays : {A : Type 0} (fields : Option A) → (fields ≡ None → OkFiles c ≡ Ok d) → ((value : A) → fields ≡ Some value → Stays init c d) → Stays init c d
    said_stays None short each = let same : OkFiles c ≡ Ok d = short refl in stays-same init c d cc
    said_stays (Some value) short each = each value refl

    transaction_stays : (o : TransactionOp) → takes_transaction o main ≡ true → gone_by_end o main name ≡ false → effect_done root per rec parts (effect_by_transaction o main) c ≡ Ok d → Stays init c d
    transaction_stays (transaction.End outcome prepared has_xinfo) takes stays made =
        said_stays (end_of outcome has_xinfo main) (λ short. rw short at made)
        (λ end read. ended_stays rec.header.xid outcome end c d
        (others end.dropped (end-known outcome has_xinfo main end are takes read) (sym (ap (λ o. option_map_or (is_dropped name) o false) read) ∙ stays)) (rw read at made))
    transaction_stays _ takes stays made = stays-same init c d cc

    database_op_stays : (o : DatabaseOp) → takes_database o main ≡ true → gone_by_database o main name ≡ false → effect_done root per rec parts (effect_by_database o main) c ≡ Ok d → Stays init c d
    database_op_stays database.CreateWalLog takes stays made = said_stays (database_create_of main) (λ short. rw short at made) (λ new read. made_stays new.database c d (rw read at made))
    database_op_stays database.Drop takes stays made =
        said_stays (database_drop_of main) (λ short. rw short at made)
        (λ gone read. database_stays gone.database c d (drop-known main gone are takes read).number (sym (ap (λ o. option_map_or (is_in_dropped name) o false) read) ∙ stays) (rw read at made))
    database_op_stays _ takes stays made = stays-same init c d cc

    storage_stays : (o : StorageOp) → effect_done root per rec parts (effect_by_storage o main) c ≡ Ok d → Stays init c d
    storage_stays storage.Create made = said_stays (storage_create_of main) (λ short. rw short at made) (λ new read. created-stays init root per new.rel new.fork c d (rw read at made))
    storage_stays storage.Truncate made = said_stays (storage_truncate_of main) (λ short. rw short at made) (λ cut read. truncated-stays init root per cut.rel cut.blocks cut.flags c d (rw read at made))
    storage_stays (storage.Unlisted number) made = stays-same init c d cc

    clog_stays : (o : ClogOp) → effect_done root per rec parts (effect_by_clog o main) c ≡ Ok d → Stays init c d
    clog_stays clog.ZeroPage made = said_stays (clog_zero_page_of main) (λ short. rw short at made) (λ zero read. zeroed_stays Status zero.page c d (rw read at made))
    clog_stays clog.Truncate made = said_stays (clog_truncate_of main) (λ short. rw short at made) (λ cut read. area-stays init root apart Status 0 cut.page c d (rw read at made))
    clog_stays (clog.Unlisted number) made = stays-same init c d cc

    multixact_stays : (o : MultiXactOp) → effect_done root per rec parts (effect_by_multixact o main) c ≡ Ok d → Stays init c d
    multixact_stays multixact.ZeroOffsetsPage made = said_stays (multixact_zero_page_of main) (λ short. rw short at made) (λ zero read. zeroed_stays Offsets zero.page c d (rw read at made))
    multixact_stays multixact.ZeroMembersPage made = said_stays (multixact_zero_page_of main) (λ short. rw short at made) (λ zero read. zeroed_stays Members zero.page c d (rw read at made))
    multixact_stays multixact.CreateId made = added-stays init root apart (create_in rec parts) c d made
    multixact_stays multixact.TruncateId made = said_stays (multixact_truncate_of main) (λ short. rw short at made) (λ cut read. multis-stay init root apart cut c d (rw read at made))
    multixact_stays (multixact.Unlisted number) made = stays-same init c d cc

    relmap_stays : (o : RelMapOp) → effect_done root per rec parts (effect_by_relmap o) c ≡ Ok d → Stays init c d
    relmap_stays relmap.Update made = written_stays (update_in rec parts) c d made
    relmap_stays (relmap.Unlisted number) made = stays-same init c d cc

    op_stays : (o : Operation) → takes_fields o main ≡ true → gone_by o main name ≡ false → effect_done root per rec parts (effect_of o main) c ≡ Ok d → Stays init c d
    unfolding effect_of
    op_stays (op.Transaction o) takes stays made = transaction_stays o takes stays made
    op_stays (op.Storage o) takes stays made = storage_stays o made
    op_stays (op.Database o) takes stays made = database_op_stays o takes stays made
    op_stays (op.Clog o) takes stays made = clog_stays o made
    op_stays (op.MultiXact o) takes stays made = multixact_stays o made
    op_stays (op.RelMap o) takes stays made = relmap_stays o made
    op_stays _ takes stays made = stays-same init c d cc

  -- the bits of the map first, and then what the operation does
  pub files-stay : (rec : LogRecord) (parts : PartsView) (c d : Contents) → AreBytes rec.body → takes_fields (operation_of rec.header.manager rec.header.info) (main_bytes rec.body parts) ≡ true
      → is_gone rec parts name ≡ false → files_after root per rec parts c ≡ Ok d → Stays init c d
  unfolding files_after
  files-stay rec parts c d are takes stays made =
      let two = given-done (for_each (bits_cleared root per) (map_clears rec parts) c) (effect_done root per rec parts (effect_in rec parts)) d made in
      stays-then init c two.0 d
      (each-stays init Any (bits_cleared root per) (λ clearing e f any run. map-stays init root per clearing.rel clearing.block (Clear (bits_number clearing.bits)) e f run) (map_clears rec parts) c two.0 (all_any (map_clears rec parts)) two.1)
      (op_stays rec parts (main_bytes rec.body parts) (still-bytes parts.main rec.body are) two.0 d (operation_of rec.header.manager rec.header.info) takes stays two.2)
