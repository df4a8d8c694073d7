-- What records do to files beside their blocks, over alike clusters.
use Rattle.std.proofs.Common.{◌≡◌, ℕ, ◌+◌, ◌*◌, ◌/◌, ◌%◌, ◌^◌, ◌<◌, ◌≤◌, ◌==◌, Bool, true, false, ◌||◌, List, [], ◌∷◌, ◌++◌, codes, length, replicate, Option, None, Some, Result, Ok, refl, sym, ap, subst, append_assoc, arith}
use Rattle.std.specs.Prelude.{if◌then◌else◌}
use Rattle.std.specs.Int.{w32, to_le_bytes}
use Rattle.std.proofs.lemmas.List.{length-append}
use Rattle.block_refs.specs.Bytes.{main_bytes}
use Rattle.block_refs.specs.Parts.{PartsView}
use Rattle.block_refs.specs.declared.names.RelName.{RelName}
use Rattle.cluster_tree.specs.Causes.{given}
use Rattle.cluster_tree.specs.Contents.{Contents, Entry, entry_at}
use Rattle.cluster_tree.specs.Folders.{last_part}
use Rattle.cluster_tree.specs.PathValue.{PathValue, below, path_of}
use Rattle.cluster_tree.specs.declared.file_fault.FileFault.{FileFault}
use Rattle.cluster_tree.specs.declared.file_fault.FileFault.TheVariants as fault
use Rattle.file_edits.specs.Alike.{AlikeEntries, Neither, Folders, Files, Links}
use Rattle.file_edits.specs.Asking.{file_asked, names_asked}
use Rattle.file_edits.specs.Clearing.{in_turn}
use Rattle.file_edits.specs.Edits.{file_edited, file_removed, laid}
use Rattle.file_edits.proofs.AlikeLemmas.{moved_below}
use Rattle.file_walk.specs.Actions.{is_version}
use Rattle.file_walk.specs.Relations.{relation_of}
use Rattle.record_layouts.specs.Clog.{clog_truncate_of, clog_zero_page_of}
use Rattle.record_layouts.specs.Database.{database_create_of, database_drop_of}
use Rattle.record_layouts.specs.End.{end_of}
use Rattle.record_layouts.specs.MultiXact.{multixact_truncate_of, multixact_zero_page_of}
use Rattle.record_layouts.specs.Operation.{operation_of}
use Rattle.record_layouts.specs.Storage.{storage_create_of, storage_truncate_of}
use Rattle.record_layouts.specs.declared.clog.ClogOp.{ClogOp}
use Rattle.record_layouts.specs.declared.clog.ClogOp.TheVariants as clog
use Rattle.record_layouts.specs.declared.clog.ClogTruncate.{ClogTruncate}
use Rattle.record_layouts.specs.declared.clog.ClogZeroPage.{ClogZeroPage}
use Rattle.record_layouts.specs.declared.database.DatabaseCreate.{DatabaseCreate}
use Rattle.record_layouts.specs.declared.database.DatabaseDrop.{DatabaseDrop}
use Rattle.record_layouts.specs.declared.database.DatabaseOp.{DatabaseOp}
use Rattle.record_layouts.specs.declared.database.DatabaseOp.TheVariants as database
use Rattle.record_layouts.specs.declared.end.TransactionEnd.{TransactionEnd}
use Rattle.record_layouts.specs.declared.end_parts.Outcome.{Outcome}
use Rattle.record_layouts.specs.declared.kinds.Member.{Member}
use Rattle.record_layouts.specs.declared.multixact.MultiXactCreate.{MultiXactCreate}
use Rattle.record_layouts.specs.declared.multixact.MultiXactOp.{MultiXactOp}
use Rattle.record_layouts.specs.declared.multixact.MultiXactOp.TheVariants as multixact
use Rattle.record_layouts.specs.declared.multixact.MultiXactTruncate.{MultiXactTruncate}
use Rattle.record_layouts.specs.declared.multixact.MultiXactZeroPage.{MultiXactZeroPage}
use Rattle.record_layouts.specs.declared.operation.Operation.{Operation}
use Rattle.record_layouts.specs.declared.operation.Operation.TheVariants as op
use Rattle.record_layouts.specs.declared.relmap.RelMapOp.{RelMapOp}
use Rattle.record_layouts.specs.declared.relmap.RelMapOp.TheVariants as relmap
use Rattle.record_layouts.specs.declared.relmap.RelMapUpdate.{RelMapUpdate}
use Rattle.record_layouts.specs.declared.storage.StorageCreate.{StorageCreate}
use Rattle.record_layouts.specs.declared.storage.StorageOp.{StorageOp}
use Rattle.record_layouts.specs.declared.storage.StorageOp.TheVariants as storage
use Rattle.record_layouts.specs.declared.storage.StorageTruncate.{StorageTruncate}
use Rattle.record_layouts.specs.declared.transaction.TransactionOp.{TransactionOp}
use Rattle.record_layouts.specs.declared.transaction.TransactionOp.TheVariants as transaction
use Rattle.relation_files.specs.Paths.{database_parts, global_parts}
use Rattle.slru_replay.specs.Area.{file_name, folder_of, folder_parts, page_end, page_file, page_laid, page_start, page_zeroed}
use Rattle.slru_replay.specs.Cutting.{area_cut, file_cut, name_cut}
use Rattle.slru_replay.specs.MultiXact.{create_in, flags_at, flags_set, member_set, members_page, members_set, multi_added, offset_set, xid_at, xid_set}
use Rattle.slru_replay.specs.Status.{status_page, status_set, with_status}
use Rattle.slru_replay.specs.declared.area.Area.{Area}
use Rattle.slru_replay.specs.declared.area.Area.TheVariants.{Status, Offsets, Members}
use Rattle.storage_databases.specs.Databases.{database_folder, database_made, version_by, version_file, version_text}
use Rattle.storage_databases.specs.RelationMap.{map_file, map_parts, map_written, update_in}
use Rattle.storage_replay.specs.Changes.{relation_dropped}
use Rattle.storage_replay.specs.declared.map_edit.MapEdit.TheVariants.{Clear}
use Rattle.wal_records.specs.Reading.{LogRecord}
use Rattle.file_effects.specs.Done.{bits_cleared, effect_done, files_after, for_each, multis_cut, own_xid, page_before, status_of, statuses_set, transaction_ended}
use Rattle.file_effects.specs.Effect.{effect_by_clog, effect_by_database, effect_by_multixact, effect_by_relmap, effect_by_storage, effect_by_transaction, effect_in, effect_of, page_effect}
use Rattle.file_effects.specs.MapClears.{bits_number, map_clears}
use Rattle.alike_clusters.specs.Clusters.{AlikeClusters, AreLeftAlike, is_alike, is_alike_file}
use Rattle.alike_clusters.proofs.LikeLemmas.{like-plain, like-same}
use Rattle.alike_clusters.proofs.NameLemmas.{map-not_relation, multis-not_main, page-no_version, status-not_main}
use Rattle.alike_clusters.proofs.StepLemmas.{Lies, edited-left, given-left, names-told, removed-left, told-left, tree-left, turn-left}
use Rattle.alike_clusters.proofs.StorageLemmas.{created-left, dropped-left, map-left, truncated-left}

-- ---- where files of status and of multixacts lie

area_short : (area : Area) → (0 < length (folder_parts area)) × (length (folder_parts area) ≤ 2)
area_short Status = (omega arith, omega arith)
area_short Offsets = (omega arith, omega arith)
area_short Members = (omega arith, omega arith)

area_last : (area : Area) (name : List ℕ) → last_part (path_of false (folder_parts area ++ name ∷ [])) ≡ name
area_last Status name = refl
area_last Offsets name = refl
area_last Members name = refl

area_no_version : (area : Area) (n : ℕ) → is_version (path_of false (folder_parts area ++ file_name n ∷ [])) ≡ false
area_no_version area n = page-no_version (folder_parts area ++ file_name n ∷ []) n (area_last area (file_name n))

area_not_main : (area : Area) (name : List ℕ) → relation_of (path_of false (folder_parts area ++ name ∷ [])) ≡ None
area_not_main Status name = status-not_main name
area_not_main Offsets name = multis-not_main (codes "offsets") name
area_not_main Members name = multis-not_main (codes "members") name

-- where a relation map lies
map_short : (t : Bool) (database : ℕ) → length (if t then global_parts else database_parts database) ≤ 2
map_short true database = omega arith
map_short false database = omega arith

module _ (per : ℕ) (root other : PathValue) where
  lies_area : (area : Area) (name : List ℕ) → Lies root other (folder_parts area ++ name ∷ []) (below (folder_of root area) (name ∷ [])) (below (folder_of other area) (name ∷ []))
  lies_area area name = record {
    here = ap (path_of root.absolute) (append_assoc root.parts (folder_parts area) (name ∷ []));
    there = ap (path_of other.absolute) (append_assoc other.parts (folder_parts area) (name ∷ []));
    some = omega (arith, length-append (folder_parts area) (name ∷ []));
    few = omega (arith, length-append (folder_parts area) (name ∷ []), (area_short area).1);
  }

  lies_area_folder : (area : Area) → Lies root other (folder_parts area) (folder_of root area) (folder_of other area)
  lies_area_folder area = record { here = refl; there = refl; some = (area_short area).0; few = omega (arith, (area_short area).1) }

  -- ---- status and multixacts

  page_left : (area : Area) (page : ℕ) (edit : List ℕ → List ℕ) (c d : Contents) → AlikeClusters per c root d other
      → AreLeftAlike per root other (file_edited root (page_file root area page) edit c) (file_edited other (page_file other area page) edit d)
  page_left area page edit c d both =
      edited-left per root other (folder_parts area ++ file_name (page / 32) ∷ []) (page_file root area page) (page_file other area page) edit edit c d (lies_area area (file_name (page / 32)))
      (like-same per (folder_parts area ++ file_name (page / 32) ∷ []) (area_no_version area (page / 32)) (area_not_main area (file_name (page / 32))) edit) both

  laid_left : (area : Area) (page at : ℕ) (bytes : List ℕ) (c d : Contents) → AlikeClusters per c root d other
      → AreLeftAlike per root other (page_laid root area page at bytes c) (page_laid other area page at bytes d)
  laid_left area page at bytes c d both = page_left area page (laid (page_end page) (page_start page + at) bytes) c d both

  zeroed_left : (area : Area) (page : ℕ) (c d : Contents) → AlikeClusters per c root d other → AreLeftAlike per root other (page_zeroed root area page c) (page_zeroed other area page d)
  zeroed_left area page c d both = page_left area page (laid (page_start page) (page_start page) (replicate 8192 0)) c d both

  file_left : (area : Area) (first last : ℕ) (name : List ℕ) (c d : Contents) → AlikeClusters per c root d other
      → AreLeftAlike per root other (file_cut area first last (folder_of root area) name c) (file_cut area first last (folder_of other area) name d)
  unfolding file_cut
  file_left area first last name c d both =
      elim (name_cut area first last name) as (λ t. AreLeftAlike per root other (if t then file_removed (below (folder_of root area) (name ∷ [])) c else Ok c) (if t then file_removed (below (folder_of other area) (name ∷ [])) d else Ok d)) [
        | true ↦ removed-left per root other (folder_parts area ++ name ∷ []) (below (folder_of root area) (name ∷ [])) (below (folder_of other area) (name ∷ [])) c d (lies_area area name) both
        | false ↦ both
      ]

  area_left : (area : Area) (first last : ℕ) (c d : Contents) → AlikeClusters per c root d other → AreLeftAlike per root other (area_cut root area first last c) (area_cut other area first last d)
  unfolding area_cut
  area_left area first last c d both =
      told-left per root other (names_asked c (folder_of root area) (entry_at c (folder_of root area))) (names_asked d (folder_of other area) (entry_at d (folder_of other area)))
      (λ names. in_turn (file_cut area first last (folder_of root area)) names c) (λ names. in_turn (file_cut area first last (folder_of other area)) names d)
      (names-told per root other (folder_parts area) (folder_of root area) (folder_of other area) c d (lies_area_folder area) both)
      (λ names. turn-left per root other (file_cut area first last (folder_of root area)) (file_cut area first last (folder_of other area)) (file_left area first last) names c d both)

  member_left : (offset : ℕ) (member : Member) (c d : Contents) → AlikeClusters per c root d other → AreLeftAlike per root other (member_set root offset member c) (member_set other offset member d)
  unfolding member_set
  member_left offset member c d both =
      given-left per root other (flags_set root offset member c) (flags_set other offset member d) (xid_set root offset member) (xid_set other offset member)
      (laid_left Members (members_page offset) (flags_at offset) (member.status % 256 ∷ []) c d both)
      (λ e f left. laid_left Members (members_page offset) (xid_at offset) (to_le_bytes w32 member.xid) e f left)

  members_left : (offset : ℕ) (members : List Member) (c d : Contents) → AlikeClusters per c root d other → AreLeftAlike per root other (members_set root offset members c) (members_set other offset members d)
  unfolding members_set
  members_left offset [] c d both = both
  members_left offset (member ∷ members) c d both =
      given-left per root other (member_set root offset member c) (member_set other offset member d) (members_set root ((offset + 1) % 2 ^ 32) members) (members_set other ((offset + 1) % 2 ^ 32) members)
      (member_left offset member c d both) (members_left ((offset + 1) % 2 ^ 32) members)

  multi_left : (create : Option MultiXactCreate) (c d : Contents) → AlikeClusters per c root d other → AreLeftAlike per root other (multi_added root create c) (multi_added other create d)
  unfolding multi_added
  multi_left None c d both = both
  multi_left (Some create) c d both =
      given-left per root other (offset_set root create.multi create.offset c) (offset_set other create.multi create.offset d) (members_set root create.offset create.members) (members_set other create.offset create.members)
      (laid_left Offsets (create.multi / 2048) (create.multi % 2048 * 4) (to_le_bytes w32 create.offset) c d both) (members_left create.offset create.members)

  -- ---- databases and maps

  lies_version : (database : ℕ) → Lies root other (database_parts database ++ codes "PG_VERSION" ∷ []) (version_file root database) (version_file other database)
  lies_version database = record {
    here = ap (path_of root.absolute) (append_assoc root.parts (database_parts database) (codes "PG_VERSION" ∷ []));
    there = ap (path_of other.absolute) (append_assoc other.parts (database_parts database) (codes "PG_VERSION" ∷ []));
    some = omega arith;
    few = omega arith;
  }

  version_left : (parts : List (List ℕ)) (c d : Contents) (o p : Option Entry) → is_version (path_of false parts) ≡ true → Lies root other parts (below root parts) (below other parts) → AlikeClusters per c root d other → AlikeEntries (is_alike per parts) o p
      → AreLeftAlike per root other (given (file_asked (below root parts) o) (version_by root (below root parts) c)) (given (file_asked (below other parts) p) (version_by other (below other parts) d))
  version_left parts c d o p version lies both Neither =
      edited-left per root other parts (below root parts) (below other parts) (laid 0 0 version_text) (laid 0 0 version_text) c d lies
      (λ a b is. ap (λ v. v || is_alike_file per (relation_of (path_of false parts)) (laid 0 0 version_text a) (laid 0 0 version_text b)) version) both
  version_left parts c d o p version lies both (Folders bad) = ap (λ x. fault.IsFolder x) (moved_below root other parts)
  version_left parts c d o p version lies both (Files a b is) = both
  version_left parts c d o p version lies both Links = ap (λ x. fault.Link x) (moved_below root other parts)

  made_left : (database : ℕ) (c d : Contents) → AlikeClusters per c root d other → AreLeftAlike per root other (database_made root database c) (database_made other database d)
  unfolding database_made
  made_left database c d both =
      let lies = lies_version database in
      let parts : List (List ℕ) = database_parts database ++ codes "PG_VERSION" ∷ [] in
      subst (λ x. AreLeftAlike per root other (given (file_asked x (entry_at c x)) (version_by root x c)) (given (file_asked (version_file other database) (entry_at d (version_file other database))) (version_by other (version_file other database) d))) (sym lies.here)
      (subst (λ x. AreLeftAlike per root other (given (file_asked (below root parts) (entry_at c (below root parts))) (version_by root (below root parts) c)) (given (file_asked x (entry_at d x)) (version_by other x d))) (sym lies.there)
      (version_left parts c d (entry_at c (below root parts)) (entry_at d (below other parts)) refl (record { here = refl; there = refl; some = lies.some; few = lies.few }) both (both.alike parts)))

  lies_database : (database : ℕ) → Lies root other (database_parts database) (database_folder root database) (database_folder other database)
  lies_database database = record { here = refl; there = refl; some = omega arith; few = omega arith }

  lies_map : (database : ℕ) → Lies root other (map_parts database ++ codes "pg_filenode.map" ∷ []) (map_file root database) (map_file other database)
  lies_map database = record {
    here = ap (path_of root.absolute) (append_assoc root.parts (map_parts database) (codes "pg_filenode.map" ∷ []));
    there = ap (path_of other.absolute) (append_assoc other.parts (map_parts database) (codes "pg_filenode.map" ∷ []));
    some = omega (arith, length-append (map_parts database) (codes "pg_filenode.map" ∷ []));
    few = omega (arith, length-append (map_parts database) (codes "pg_filenode.map" ∷ []), map_short (database == 0) database);
  }

  written_left : (update : Option RelMapUpdate) (c d : Contents) → AlikeClusters per c root d other → AreLeftAlike per root other (map_written root update c) (map_written other update d)
  written_left None c d both = both
  written_left (Some update) c d both =
      edited-left per root other (map_parts update.database ++ codes "pg_filenode.map" ∷ []) (map_file root update.database) (map_file other update.database) (λ _. update.map) (λ _. update.map) c d
      (lies_map update.database) (λ a b is. like-plain per (map_parts update.database ++ codes "pg_filenode.map" ∷ []) (map-not_relation update.database) update.map) both

  -- ---- each effect

  each_left : {A : Type 0} (step after : A → Contents → Result Contents FileFault) → ((x : A) (c d : Contents) → AlikeClusters per c root d other → AreLeftAlike per root other (step x c) (after x d))
      → (xs : List A) (c d : Contents) → AlikeClusters per c root d other → AreLeftAlike per root other (for_each step xs c) (for_each after xs d)
  unfolding for_each
  each_left step after each [] c d both = both
  each_left step after each (x ∷ xs) c d both = given-left per root other (step x c) (after x d) (for_each step xs) (for_each after xs) (each x c d both) (each_left step after each xs)

  ended_left : (xid : ℕ) (outcome : Outcome) (end : TransactionEnd) (c d : Contents) → AlikeClusters per c root d other → AreLeftAlike per root other (transaction_ended root xid outcome end c) (transaction_ended other xid outcome end d)
  unfolding transaction_ended
  ended_left xid outcome end c d both =
      given-left per root other (statuses_set root (status_of outcome) (own_xid xid ++ end.subxacts) c) (statuses_set other (status_of outcome) (own_xid xid ++ end.subxacts) d)
      (for_each (relation_dropped root) end.dropped) (for_each (relation_dropped other) end.dropped)
      (each_left (λ x. status_set root x (status_of outcome)) (λ x. status_set other x (status_of outcome)) (λ x e f left. page_left Status (status_page x) (with_status x (status_of outcome)) e f left) (own_xid xid ++ end.subxacts) c d both)
      (each_left (relation_dropped root) (relation_dropped other) dropped-by end.dropped)
    where
      dropped-by : (rel : RelName) (c d : Contents) → AlikeClusters per c root d other → AreLeftAlike per root other (relation_dropped root rel c) (relation_dropped other rel d)
      dropped-by rel c d both = dropped-left per root other rel c d both

  multis_left : (cut : MultiXactTruncate) (c d : Contents) → AlikeClusters per c root d other → AreLeftAlike per root other (multis_cut root cut c) (multis_cut other cut d)
  unfolding multis_cut
  multis_left cut c d both =
      given-left per root other (area_cut root Offsets 0 (page_before cut.end_multi) c) (area_cut other Offsets 0 (page_before cut.end_multi) d)
      (area_cut root Members cut.first_offset cut.end_offset) (area_cut other Members cut.first_offset cut.end_offset)
      (area_left Offsets 0 (page_before cut.end_multi) c d both) (area_left Members cut.first_offset cut.end_offset)

  module _ (rec : LogRecord) (parts : PartsView) (main : List ℕ) (c d : Contents) (both : AlikeClusters per c root d other) where
    transaction_left : (o : TransactionOp) → AreLeftAlike per root other (effect_done root per rec parts (effect_by_transaction o main) c) (effect_done other per rec parts (effect_by_transaction o main) d)
    transaction_left (transaction.End outcome prepared has_xinfo) = by (end_of outcome has_xinfo main) refl
      where
        by : (fields : Option TransactionEnd) → end_of outcome has_xinfo main ≡ fields → AreLeftAlike per root other (effect_done root per rec parts (effect_by_transaction (transaction.End outcome prepared has_xinfo) main) c) (effect_done other per rec parts (effect_by_transaction (transaction.End outcome prepared has_xinfo) main) d)
        by None is = rw is both
        by (Some end) is = rw is (ended_left rec.header.xid outcome end c d both)
    transaction_left _ = both

    storage_left : (o : StorageOp) → AreLeftAlike per root other (effect_done root per rec parts (effect_by_storage o main) c) (effect_done other per rec parts (effect_by_storage o main) d)
    storage_left storage.Create = by (storage_create_of main) refl
      where
        by : (fields : Option StorageCreate) → storage_create_of main ≡ fields → AreLeftAlike per root other (effect_done root per rec parts (effect_by_storage storage.Create main) c) (effect_done other per rec parts (effect_by_storage storage.Create main) d)
        by None is = rw is both
        by (Some made) is = rw is (created-left per root other made.rel made.fork c d both)
    storage_left storage.Truncate = by (storage_truncate_of main) refl
      where
        by : (fields : Option StorageTruncate) → storage_truncate_of main ≡ fields → AreLeftAlike per root other (effect_done root per rec parts (effect_by_storage storage.Truncate main) c) (effect_done other per rec parts (effect_by_storage storage.Truncate main) d)
        by None is = rw is both
        by (Some cut) is = rw is (truncated-left per root other cut.rel cut.blocks cut.flags c d both)
    storage_left (storage.Unlisted number) = both

    database_left : (o : DatabaseOp) → AreLeftAlike per root other (effect_done root per rec parts (effect_by_database o main) c) (effect_done other per rec parts (effect_by_database o main) d)
    database_left database.CreateWalLog = by (database_create_of main) refl
      where
        by : (fields : Option DatabaseCreate) → database_create_of main ≡ fields → AreLeftAlike per root other (effect_done root per rec parts (effect_by_database database.CreateWalLog main) c) (effect_done other per rec parts (effect_by_database database.CreateWalLog main) d)
        by None is = rw is both
        by (Some made) is = rw is (made_left made.database c d both)
    database_left database.Drop = by (database_drop_of main) refl
      where
        by : (fields : Option DatabaseDrop) → database_drop_of main ≡ fields → AreLeftAlike per root other (effect_done root per rec parts (effect_by_database database.Drop main) c) (effect_done other per rec parts (effect_by_database database.Drop main) d)
        by None is = rw is both
        by (Some gone) is = rw is (tree-left per root other (database_parts gone.database) (database_folder root gone.database) (database_folder other gone.database) c d (lies_database gone.database) both)
    database_left _ = both

    clog_left : (o : ClogOp) → AreLeftAlike per root other (effect_done root per rec parts (effect_by_clog o main) c) (effect_done other per rec parts (effect_by_clog o main) d)
    clog_left clog.ZeroPage = by (clog_zero_page_of main) refl
      where
        by : (fields : Option ClogZeroPage) → clog_zero_page_of main ≡ fields → AreLeftAlike per root other (effect_done root per rec parts (effect_by_clog clog.ZeroPage main) c) (effect_done other per rec parts (effect_by_clog clog.ZeroPage main) d)
        by None is = rw is both
        by (Some fields) is = rw is (zeroed_left Status fields.page c d both)
    clog_left clog.Truncate = by (clog_truncate_of main) refl
      where
        by : (fields : Option ClogTruncate) → clog_truncate_of main ≡ fields → AreLeftAlike per root other (effect_done root per rec parts (effect_by_clog clog.Truncate main) c) (effect_done other per rec parts (effect_by_clog clog.Truncate main) d)
        by None is = rw is both
        by (Some cut) is = rw is (area_left Status 0 cut.page c d both)
    clog_left (clog.Unlisted number) = both

    zero_left : (area : Area) → AreLeftAlike per root other (effect_done root per rec parts (page_effect area main) c) (effect_done other per rec parts (page_effect area main) d)
    zero_left area = by (multixact_zero_page_of main) refl
      where
        by : (fields : Option MultiXactZeroPage) → multixact_zero_page_of main ≡ fields → AreLeftAlike per root other (effect_done root per rec parts (page_effect area main) c) (effect_done other per rec parts (page_effect area main) d)
        by None is = rw is both
        by (Some fields) is = rw is (zeroed_left area fields.page c d both)

    multixact_left : (o : MultiXactOp) → AreLeftAlike per root other (effect_done root per rec parts (effect_by_multixact o main) c) (effect_done other per rec parts (effect_by_multixact o main) d)
    multixact_left multixact.ZeroOffsetsPage = zero_left Offsets
    multixact_left multixact.ZeroMembersPage = zero_left Members
    multixact_left multixact.CreateId = multi_left (create_in rec parts) c d both
    multixact_left multixact.TruncateId = by (multixact_truncate_of main) refl
      where
        by : (fields : Option MultiXactTruncate) → multixact_truncate_of main ≡ fields → AreLeftAlike per root other (effect_done root per rec parts (effect_by_multixact multixact.TruncateId main) c) (effect_done other per rec parts (effect_by_multixact multixact.TruncateId main) d)
        by None is = rw is both
        by (Some cut) is = rw is (multis_left cut c d both)
    multixact_left (multixact.Unlisted number) = both

    relmap_left : (o : RelMapOp) → AreLeftAlike per root other (effect_done root per rec parts (effect_by_relmap o) c) (effect_done other per rec parts (effect_by_relmap o) d)
    relmap_left relmap.Update = written_left (update_in rec parts) c d both
    relmap_left (relmap.Unlisted number) = both

    op_left : (o : Operation) → AreLeftAlike per root other (effect_done root per rec parts (effect_of o main) c) (effect_done other per rec parts (effect_of o main) d)
    unfolding effect_of
    op_left (op.Transaction o) = transaction_left o
    op_left (op.Storage o) = storage_left o
    op_left (op.Database o) = database_left o
    op_left (op.Clog o) = clog_left o
    op_left (op.MultiXact o) = multixact_left o
    op_left (op.RelMap o) = relmap_left o
    op_left _ = both

  -- the bits of the map that a record clears, and then its effect
  pub effects-left : (rec : LogRecord) (parts : PartsView) (c d : Contents) → AlikeClusters per c root d other
      → AreLeftAlike per root other (files_after root per rec parts c) (files_after other per rec parts d)
  unfolding files_after
  effects-left rec parts c d both =
      given-left per root other (for_each (bits_cleared root per) (map_clears rec parts) c) (for_each (bits_cleared other per) (map_clears rec parts) d)
      (effect_done root per rec parts (effect_in rec parts)) (effect_done other per rec parts (effect_in rec parts))
      (each_left (bits_cleared root per) (bits_cleared other per) (λ clearing e f left. map-left per root other clearing.rel clearing.block (Clear (bits_number clearing.bits)) e f left) (map_clears rec parts) c d both)
      (λ e f left. op_left rec parts (main_bytes rec.body parts) e f left (operation_of rec.header.manager rec.header.info))
