-- What records do to files beside their blocks, where each entry is of the kind of its place.
use Rattle.std.proofs.Common.{◌≡◌, ℕ, zero, suc, ◌+◌, ◌*◌, ◌/◌, ◌%◌, ◌^◌, ◌<◌, ◌==◌, true, false, List, [], ◌∷◌, ◌++◌, codes, length, replicate, take, Option, None, Some, Result, Ok, refl, ap, append_assoc, arith}
use Rattle.std.specs.Prelude.{if◌then◌else◌}
use Rattle.std.specs.Int.{w32, to_le_bytes}
use Rattle.block_refs.specs.Bytes.{main_bytes}
use Rattle.block_refs.specs.Parts.{PartsView}
use Rattle.cluster_tree.specs.Contents.{Contents, entry_at}
use Rattle.cluster_tree.specs.PathValue.{PathValue, below, path_of}
use Rattle.cluster_tree.specs.declared.file_fault.FileFault.{FileFault}
use Rattle.file_edits.specs.Asking.{file_asked, names_asked}
use Rattle.file_edits.specs.Clearing.{in_turn}
use Rattle.file_edits.specs.Edits.{file_edited, file_removed, laid}
use Rattle.record_layouts.specs.Clog.{clog_truncate_of, clog_zero_page_of}
use Rattle.record_layouts.specs.Database.{database_create_of, database_drop_of}
use Rattle.record_layouts.specs.End.{end_of}
use Rattle.record_layouts.specs.MultiXact.{multixact_truncate_of, multixact_zero_page_of}
use Rattle.record_layouts.specs.Operation.{operation_of}
use Rattle.record_layouts.specs.Storage.{storage_create_of, storage_truncate_of}
use Rattle.record_layouts.specs.declared.clog.ClogOp.{ClogOp}
use Rattle.record_layouts.specs.declared.clog.ClogOp.TheVariants as clog
use Rattle.record_layouts.specs.declared.clog.ClogTruncate.{ClogTruncate}
use Rattle.record_layouts.specs.declared.clog.ClogZeroPage.{ClogZeroPage}
use Rattle.record_layouts.specs.declared.database.DatabaseCreate.{DatabaseCreate}
use Rattle.record_layouts.specs.declared.database.DatabaseDrop.{DatabaseDrop}
use Rattle.record_layouts.specs.declared.database.DatabaseOp.{DatabaseOp}
use Rattle.record_layouts.specs.declared.database.DatabaseOp.TheVariants as database
use Rattle.record_layouts.specs.declared.end.TransactionEnd.{TransactionEnd}
use Rattle.record_layouts.specs.declared.end_parts.Outcome.{Outcome}
use Rattle.record_layouts.specs.declared.kinds.Member.{Member}
use Rattle.record_layouts.specs.declared.multixact.MultiXactCreate.{MultiXactCreate}
use Rattle.record_layouts.specs.declared.multixact.MultiXactOp.{MultiXactOp}
use Rattle.record_layouts.specs.declared.multixact.MultiXactOp.TheVariants as multixact
use Rattle.record_layouts.specs.declared.multixact.MultiXactTruncate.{MultiXactTruncate}
use Rattle.record_layouts.specs.declared.multixact.MultiXactZeroPage.{MultiXactZeroPage}
use Rattle.record_layouts.specs.declared.operation.Operation.{Operation}
use Rattle.record_layouts.specs.declared.operation.Operation.TheVariants as op
use Rattle.record_layouts.specs.declared.relmap.RelMapOp.{RelMapOp}
use Rattle.record_layouts.specs.declared.relmap.RelMapOp.TheVariants as relmap
use Rattle.record_layouts.specs.declared.relmap.RelMapUpdate.{RelMapUpdate}
use Rattle.record_layouts.specs.declared.storage.StorageCreate.{StorageCreate}
use Rattle.record_layouts.specs.declared.storage.StorageOp.{StorageOp}
use Rattle.record_layouts.specs.declared.storage.StorageOp.TheVariants as storage
use Rattle.record_layouts.specs.declared.storage.StorageTruncate.{StorageTruncate}
use Rattle.record_layouts.specs.declared.transaction.TransactionOp.{TransactionOp}
use Rattle.record_layouts.specs.declared.transaction.TransactionOp.TheVariants as transaction
use Rattle.relation_files.specs.Paths.{database_parts}
use Rattle.slru_replay.specs.Area.{file_name, folder_of, folder_parts, page_end, page_file, page_laid, page_start, page_zeroed}
use Rattle.slru_replay.specs.Cutting.{area_cut, file_cut, name_cut}
use Rattle.slru_replay.specs.MultiXact.{create_in, flags_at, flags_set, member_set, members_page, members_set, multi_added, offset_set, xid_at, xid_set}
use Rattle.slru_replay.specs.Status.{status_page, status_set, with_status}
use Rattle.slru_replay.specs.declared.area.Area.{Area}
use Rattle.slru_replay.specs.declared.area.Area.TheVariants.{Status, Offsets, Members}
use Rattle.storage_databases.specs.Databases.{database_folder, database_made, version_by, version_file, version_text}
use Rattle.storage_databases.specs.RelationMap.{map_file, map_parts, map_written, update_in}
use Rattle.storage_replay.specs.Changes.{relation_dropped}
use Rattle.storage_replay.specs.declared.map_edit.MapEdit.TheVariants.{Clear}
use Rattle.wal_records.specs.Reading.{LogRecord}
use Rattle.file_effects.specs.Done.{bits_cleared, effect_done, files_after, for_each, multis_cut, own_xid, page_before, status_of, statuses_set, transaction_ended}
use Rattle.file_effects.specs.Effect.{effect_by_clog, effect_by_database, effect_by_multixact, effect_by_relmap, effect_by_storage, effect_by_transaction, effect_in, effect_of, page_effect}
use Rattle.file_effects.specs.MapClears.{bits_number, map_clears}
use Rattle.cluster_laws.specs.Kinds.{FolderPlace, HasKinds, place_of}
use Rattle.cluster_laws.proofs.kinds.KindLemmas.{Fine, IsFileAt, asked-told, edited-fine, given-fine, names-told, removed-fine, told-fine, tree-fine, turn-fine}
use Rattle.cluster_laws.proofs.kinds.StorageLemmas.{created-fine, dropped-fine, file-at, map-fine, truncated-fine}

-- ---- places of status and of multixacts

status_way : (name : List ℕ) (k : ℕ) → 0 < k → k < length (codes "pg_xact" ∷ name ∷ []) → place_of (take k (codes "pg_xact" ∷ name ∷ [])) ≡ FolderPlace
status_way name zero some l = absurd (omega (arith, some))
status_way name (suc zero) some l = refl
status_way name (suc (suc k)) some l = absurd (omega (arith, l))

offsets_way : (name : List ℕ) (k : ℕ) → 0 < k → k < length (codes "pg_multixact" ∷ codes "offsets" ∷ name ∷ []) → place_of (take k (codes "pg_multixact" ∷ codes "offsets" ∷ name ∷ [])) ≡ FolderPlace
offsets_way name zero some l = absurd (omega (arith, some))
offsets_way name (suc zero) some l = refl
offsets_way name (suc (suc zero)) some l = refl
offsets_way name (suc (suc (suc k))) some l = absurd (omega (arith, l))

members_way : (name : List ℕ) (k : ℕ) → 0 < k → k < length (codes "pg_multixact" ∷ codes "members" ∷ name ∷ []) → place_of (take k (codes "pg_multixact" ∷ codes "members" ∷ name ∷ [])) ≡ FolderPlace
members_way name zero some l = absurd (omega (arith, some))
members_way name (suc zero) some l = refl
members_way name (suc (suc zero)) some l = refl
members_way name (suc (suc (suc k))) some l = absurd (omega (arith, l))

area_at : (area : Area) (name : List ℕ) → IsFileAt (folder_parts area ++ name ∷ [])
area_at Status name = record { place = refl; way = status_way name; some = omega arith; few = omega arith }
area_at Offsets name = record { place = refl; way = offsets_way name; some = omega arith; few = omega arith }
area_at Members name = record { place = refl; way = members_way name; some = omega arith; few = omega arith }

area_folder : (area : Area) → place_of (folder_parts area) ≡ FolderPlace
area_folder Status = refl
area_folder Offsets = refl
area_folder Members = refl

module _ (root : PathValue) where
  in_area : (area : Area) (name : List ℕ) → below (folder_of root area) (name ∷ []) ≡ below root (folder_parts area ++ name ∷ [])
  in_area area name = ap (path_of root.absolute) (append_assoc root.parts (folder_parts area) (name ∷ []))

  page_fine : (area : Area) (page : ℕ) (edit : List ℕ → List ℕ) (c : Contents) → HasKinds root c → Fine root (file_edited root (page_file root area page) edit c)
  page_fine area page edit c has = edited-fine root (page_file root area page) (folder_parts area ++ file_name (page / 32) ∷ []) edit c (in_area area (file_name (page / 32))) (area_at area (file_name (page / 32))) has

  laid_fine : (area : Area) (page at : ℕ) (bytes : List ℕ) (c : Contents) → HasKinds root c → Fine root (page_laid root area page at bytes c)
  laid_fine area page at bytes c has = page_fine area page (laid (page_end page) (page_start page + at) bytes) c has

  zeroed_fine : (area : Area) (page : ℕ) (c : Contents) → HasKinds root c → Fine root (page_zeroed root area page c)
  zeroed_fine area page c has = page_fine area page (laid (page_start page) (page_start page) (replicate 8192 0)) c has

  file_fine : (area : Area) (first last : ℕ) (name : List ℕ) (c : Contents) → HasKinds root c → Fine root (file_cut area first last (folder_of root area) name c)
  unfolding file_cut
  file_fine area first last name c has =
      elim (name_cut area first last name) as (λ t. Fine root (if t then file_removed (below (folder_of root area) (name ∷ [])) c else Ok c)) [
        | true ↦ removed-fine root (below (folder_of root area) (name ∷ [])) (folder_parts area ++ name ∷ []) c (in_area area name) (area_at area name).some (area_at area name).place has
        | false ↦ has
      ]

  area_fine : (area : Area) (first last : ℕ) (c : Contents) → HasKinds root c → Fine root (area_cut root area first last c)
  unfolding area_cut
  area_fine area first last c has =
      told-fine root (names_asked c (folder_of root area) (entry_at c (folder_of root area))) (λ names. in_turn (file_cut area first last (folder_of root area)) names c)
      (names-told root (folder_of root area) (folder_parts area) c refl (area_folder area) has)
      (λ names. turn-fine root (file_cut area first last (folder_of root area)) (file_fine area first last) names c has)

  member_fine : (offset : ℕ) (member : Member) (c : Contents) → HasKinds root c → Fine root (member_set root offset member c)
  unfolding member_set
  member_fine offset member c has =
      given-fine root (flags_set root offset member c) (xid_set root offset member) (laid_fine Members (members_page offset) (flags_at offset) (member.status % 256 ∷ []) c has)
      (λ d left. laid_fine Members (members_page offset) (xid_at offset) (to_le_bytes w32 member.xid) d left)

  members_fine : (offset : ℕ) (members : List Member) (c : Contents) → HasKinds root c → Fine root (members_set root offset members c)
  unfolding members_set
  members_fine offset [] c has = has
  members_fine offset (member ∷ members) c has = given-fine root (member_set root offset member c) (members_set root ((offset + 1) % 2 ^ 32) members) (member_fine offset member c has) (members_fine ((offset + 1) % 2 ^ 32) members)

  multi_fine : (create : Option MultiXactCreate) (c : Contents) → HasKinds root c → Fine root (multi_added root create c)
  unfolding multi_added
  multi_fine None c has = has
  multi_fine (Some create) c has =
      given-fine root (offset_set root create.multi create.offset c) (members_set root create.offset create.members)
      (laid_fine Offsets (create.multi / 2048) (create.multi % 2048 * 4) (to_le_bytes w32 create.offset) c has) (members_fine create.offset create.members)

  -- ---- databases and maps

  in_base : (database : ℕ) (name : List ℕ) → below (database_folder root database) (name ∷ []) ≡ below root (database_parts database ++ name ∷ [])
  in_base database name = ap (path_of root.absolute) (append_assoc root.parts (database_parts database) (name ∷ []))

  made_fine : (database : ℕ) (c : Contents) → HasKinds root c → Fine root (database_made root database c)
  unfolding database_made
  made_fine database c has =
      told-fine root (file_asked (version_file root database) (entry_at c (version_file root database))) (version_by root (version_file root database) c)
      (asked-told root (version_file root database) (database_parts database ++ codes "PG_VERSION" ∷ []) c (in_base database (codes "PG_VERSION")) (file-at false database (codes "PG_VERSION")).place has) by
    where
      by : (there : Option (List ℕ)) → Fine root (version_by root (version_file root database) c there)
      by None = edited-fine root (version_file root database) (database_parts database ++ codes "PG_VERSION" ∷ []) (laid 0 0 version_text) c (in_base database (codes "PG_VERSION")) (file-at false database (codes "PG_VERSION")) has
      by (Some bytes) = has

  written_fine : (update : Option RelMapUpdate) (c : Contents) → HasKinds root c → Fine root (map_written root update c)
  written_fine None c has = has
  written_fine (Some update) c has =
      edited-fine root (map_file root update.database) (map_parts update.database ++ codes "pg_filenode.map" ∷ []) (λ _. update.map) c
      (ap (path_of root.absolute) (append_assoc root.parts (map_parts update.database) (codes "pg_filenode.map" ∷ []))) (file-at (update.database == 0) update.database (codes "pg_filenode.map")) has

  -- ---- each effect

  each_fine : {A : Type 0} (step : A → Contents → Result Contents FileFault) → ((x : A) (c : Contents) → HasKinds root c → Fine root (step x c)) → (xs : List A) (c : Contents) → HasKinds root c → Fine root (for_each step xs c)
  unfolding for_each
  each_fine step each [] c has = has
  each_fine step each (x ∷ xs) c has = given-fine root (step x c) (for_each step xs) (each x c has) (each_fine step each xs)

  ended_fine : (xid : ℕ) (outcome : Outcome) (end : TransactionEnd) (c : Contents) → HasKinds root c → Fine root (transaction_ended root xid outcome end c)
  unfolding transaction_ended
  ended_fine xid outcome end c has =
      given-fine root (statuses_set root (status_of outcome) (own_xid xid ++ end.subxacts) c) (for_each (relation_dropped root) end.dropped)
      (each_fine (λ x. status_set root x (status_of outcome)) (λ x d left. page_fine Status (status_page x) (with_status x (status_of outcome)) d left) (own_xid xid ++ end.subxacts) c has)
      (each_fine (relation_dropped root) (dropped-fine root) end.dropped)

  multis_fine : (cut : MultiXactTruncate) (c : Contents) → HasKinds root c → Fine root (multis_cut root cut c)
  unfolding multis_cut
  multis_fine cut c has = given-fine root (area_cut root Offsets 0 (page_before cut.end_multi) c) (area_cut root Members cut.first_offset cut.end_offset) (area_fine Offsets 0 (page_before cut.end_multi) c has) (area_fine Members cut.first_offset cut.end_offset)

  module _ (rec : LogRecord) (parts : PartsView) (main : List ℕ) (per : ℕ) (c : Contents) (has : HasKinds root c) where
    transaction_fine : (o : TransactionOp) → Fine root (effect_done root per rec parts (effect_by_transaction o main) c)
    transaction_fine (transaction.End outcome prepared has_xinfo) = by (end_of outcome has_xinfo main) refl
      where
        by : (fields : Option TransactionEnd) → end_of outcome has_xinfo main ≡ fields → Fine root (effect_done root per rec parts (effect_by_transaction (transaction.End outcome prepared has_xinfo) main) c)
        by None is = rw is has
        by (Some end) is = rw is (ended_fine rec.header.xid outcome end c has)
    transaction_fine _ = has

    storage_fine : (o : StorageOp) → Fine root (effect_done root per rec parts (effect_by_storage o main) c)
    storage_fine storage.Create = by (storage_create_of main) refl
      where
        by : (fields : Option StorageCreate) → storage_create_of main ≡ fields → Fine root (effect_done root per rec parts (effect_by_storage storage.Create main) c)
        by None is = rw is has
        by (Some made) is = rw is (created-fine root made.rel made.fork c has)
    storage_fine storage.Truncate = by (storage_truncate_of main) refl
      where
        by : (fields : Option StorageTruncate) → storage_truncate_of main ≡ fields → Fine root (effect_done root per rec parts (effect_by_storage storage.Truncate main) c)
        by None is = rw is has
        by (Some cut) is = rw is (truncated-fine root per cut.rel cut.blocks cut.flags c has)
    storage_fine (storage.Unlisted number) = has

    database_fine : (o : DatabaseOp) → Fine root (effect_done root per rec parts (effect_by_database o main) c)
    database_fine database.CreateWalLog = by (database_create_of main) refl
      where
        by : (fields : Option DatabaseCreate) → database_create_of main ≡ fields → Fine root (effect_done root per rec parts (effect_by_database database.CreateWalLog main) c)
        by None is = rw is has
        by (Some made) is = rw is (made_fine made.database c has)
    database_fine database.Drop = by (database_drop_of main) refl
      where
        by : (fields : Option DatabaseDrop) → database_drop_of main ≡ fields → Fine root (effect_done root per rec parts (effect_by_database database.Drop main) c)
        by None is = rw is has
        by (Some gone) is = rw is (tree-fine root (database_parts gone.database) (omega arith) (omega arith) refl (λ name. (file-at false gone.database name).place) c has)
    database_fine _ = has

    clog_fine : (o : ClogOp) → Fine root (effect_done root per rec parts (effect_by_clog o main) c)
    clog_fine clog.ZeroPage = by (clog_zero_page_of main) refl
      where
        by : (fields : Option ClogZeroPage) → clog_zero_page_of main ≡ fields → Fine root (effect_done root per rec parts (effect_by_clog clog.ZeroPage main) c)
        by None is = rw is has
        by (Some fields) is = rw is (zeroed_fine Status fields.page c has)
    clog_fine clog.Truncate = by (clog_truncate_of main) refl
      where
        by : (fields : Option ClogTruncate) → clog_truncate_of main ≡ fields → Fine root (effect_done root per rec parts (effect_by_clog clog.Truncate main) c)
        by None is = rw is has
        by (Some cut) is = rw is (area_fine Status 0 cut.page c has)
    clog_fine (clog.Unlisted number) = has

    zero_fine : (area : Area) → Fine root (effect_done root per rec parts (page_effect area main) c)
    zero_fine area = by (multixact_zero_page_of main) refl
      where
        by : (fields : Option MultiXactZeroPage) → multixact_zero_page_of main ≡ fields → Fine root (effect_done root per rec parts (page_effect area main) c)
        by None is = rw is has
        by (Some fields) is = rw is (zeroed_fine area fields.page c has)

    multixact_fine : (o : MultiXactOp) → Fine root (effect_done root per rec parts (effect_by_multixact o main) c)
    multixact_fine multixact.ZeroOffsetsPage = zero_fine Offsets
    multixact_fine multixact.ZeroMembersPage = zero_fine Members
    multixact_fine multixact.CreateId = multi_fine (create_in rec parts) c has
    multixact_fine multixact.TruncateId = by (multixact_truncate_of main) refl
      where
        by : (fields : Option MultiXactTruncate) → multixact_truncate_of main ≡ fields → Fine root (effect_done root per rec parts (effect_by_multixact multixact.TruncateId main) c)
        by None is = rw is has
        by (Some cut) is = rw is (multis_fine cut c has)
    multixact_fine (multixact.Unlisted number) = has

    relmap_fine : (o : RelMapOp) → Fine root (effect_done root per rec parts (effect_by_relmap o) c)
    relmap_fine relmap.Update = written_fine (update_in rec parts) c has
    relmap_fine (relmap.Unlisted number) = has

    op_fine : (o : Operation) → Fine root (effect_done root per rec parts (effect_of o main) c)
    unfolding effect_of
    op_fine (op.Transaction o) = transaction_fine o
    op_fine (op.Storage o) = storage_fine o
    op_fine (op.Database o) = database_fine o
    op_fine (op.Clog o) = clog_fine o
    op_fine (op.MultiXact o) = multixact_fine o
    op_fine (op.RelMap o) = relmap_fine o
    op_fine _ = has

  -- the bits of the map that a record clears, and then its effect
  pub effects-fine : (rec : LogRecord) (parts : PartsView) (per : ℕ) (c : Contents) → HasKinds root c → Fine root (files_after root per rec parts c)
  unfolding files_after
  effects-fine rec parts per c has =
      given-fine root (for_each (bits_cleared root per) (map_clears rec parts) c) (effect_done root per rec parts (effect_in rec parts))
      (each_fine (bits_cleared root per) (λ clearing d left. map-fine root per clearing.rel clearing.block (Clear (bits_number clearing.bits)) d left) (map_clears rec parts) c has)
      (λ d left. op_fine rec parts (main_bytes rec.body parts) per d left (operation_of rec.header.manager rec.header.info))
