-- What a record does to files beside its blocks.
use Rattle.std.proofs.Common.{◌≡◌, ℕ, ◌+◌, ◌/◌, ◌%◌, ◌^◌, ◌==◌, Bool, true, false, not, ◌&&◌, List, [], ◌∷◌, ◌++◌, codes, length, Option, None, Some, Result, Ok, refl, sym, ap, ◌∙◌, append_assoc, true≢false, arith}
use Rattle.std.specs.Prelude.{if◌then◌else◌}
use Rattle.std.specs.List.{list_all}
use Rattle.std.proofs.lemmas.Bool.Decides.{nat_tests}
use Rattle.alike_clusters.proofs.NameLemmas.{free-no_version, map-not_relation, multis-not_main, page-no_version, status-not_main}
use Rattle.block_refs.specs.Bytes.{main_bytes}
use Rattle.block_refs.specs.Parts.{PartsView}
use Rattle.cluster_tree.specs.Contents.{Contents, IsTree, entry_at}
use Rattle.cluster_tree.specs.Folders.{last_part}
use Rattle.cluster_tree.specs.PathValue.{PathValue, below, path_of}
use Rattle.cluster_tree.specs.declared.file_fault.FileFault.{FileFault}
use Rattle.file_edits.specs.Asking.{names_asked}
use Rattle.file_edits.specs.Clearing.{in_turn}
use Rattle.file_edits.specs.Edits.{file_edited, file_removed}
use Rattle.file_effects.specs.Done.{bits_cleared, effect_done, files_after, for_each, multis_cut, own_xid, page_before, status_of, statuses_set, transaction_ended}
use Rattle.file_effects.specs.Effect.{effect_by_clog, effect_by_database, effect_by_multixact, effect_by_relmap, effect_by_storage, effect_by_transaction, effect_in, effect_of}
use Rattle.file_effects.specs.MapClears.{bits_number, map_clears}
use Rattle.file_walk.specs.Relations.{relation_of}
use Rattle.record_layouts.specs.Clog.{clog_truncate_of, clog_zero_page_of}
use Rattle.record_layouts.specs.Database.{database_create_of, database_drop_of}
use Rattle.record_layouts.specs.End.{end_of}
use Rattle.record_layouts.specs.MultiXact.{multixact_truncate_of, multixact_zero_page_of}
use Rattle.record_layouts.specs.Operation.{operation_of}
use Rattle.record_layouts.specs.Storage.{storage_create_of, storage_truncate_of}
use Rattle.record_layouts.specs.declared.clog.ClogOp.{ClogOp}
use Rattle.record_layouts.specs.declared.clog.ClogOp.TheVariants as clog
use Rattle.record_layouts.specs.declared.database.DatabaseOp.{DatabaseOp}
use Rattle.record_layouts.specs.declared.database.DatabaseOp.TheVariants as database
use Rattle.record_layouts.specs.declared.end.TransactionEnd.{TransactionEnd}
use Rattle.record_layouts.specs.declared.end_parts.Outcome.{Outcome}
use Rattle.record_layouts.specs.declared.kinds.Member.{Member}
use Rattle.record_layouts.specs.declared.multixact.MultiXactCreate.{MultiXactCreate}
use Rattle.record_layouts.specs.declared.multixact.MultiXactOp.{MultiXactOp}
use Rattle.record_layouts.specs.declared.multixact.MultiXactOp.TheVariants as multixact
use Rattle.record_layouts.specs.declared.multixact.MultiXactTruncate.{MultiXactTruncate}
use Rattle.record_layouts.specs.declared.operation.Operation.{Operation}
use Rattle.record_layouts.specs.declared.operation.Operation.TheVariants as op
use Rattle.record_layouts.specs.declared.relmap.RelMapOp.{RelMapOp}
use Rattle.record_layouts.specs.declared.relmap.RelMapOp.TheVariants as relmap
use Rattle.record_layouts.specs.declared.relmap.RelMapUpdate.{RelMapUpdate}
use Rattle.record_layouts.specs.declared.storage.StorageOp.{StorageOp}
use Rattle.record_layouts.specs.declared.storage.StorageOp.TheVariants as storage
use Rattle.record_layouts.specs.declared.transaction.TransactionOp.{TransactionOp}
use Rattle.record_layouts.specs.declared.transaction.TransactionOp.TheVariants as transaction
use Rattle.relation_files.specs.Paths.{database_parts, global_parts}
use Rattle.relation_files.proofs.CutLemmas.{and_parts, without}
use Rattle.slru_replay.specs.Area.{file_name, folder_of, folder_parts, page_file, page_zeroed}
use Rattle.slru_replay.specs.Cutting.{area_cut, file_cut, has_extra_zero, is_file_name, is_name_length, name_cut}
use Rattle.slru_replay.specs.MultiXact.{create_in, flags_set, member_set, members_set, multi_added, offset_set, xid_set}
use Rattle.slru_replay.specs.Status.{status_set}
use Rattle.slru_replay.specs.declared.area.Area.{Area}
use Rattle.slru_replay.specs.declared.area.Area.TheVariants.{Members, Offsets, Status}
use Rattle.storage_databases.specs.RelationMap.{map_file, map_parts, map_written, update_in}
use Rattle.storage_laws.proofs.EditedLemmas.{given-done}
use Rattle.storage_replay.specs.Changes.{relation_dropped}
use Rattle.storage_replay.specs.declared.map_edit.MapEdit.TheVariants.{Clear}
use Rattle.wal_base.specs.Hex.{is_upper_hex}
use Rattle.wal_records.specs.Reading.{LogRecord}
use Rattle.replayed_bytes.proofs.EndLemmas.{Ends, dropped-ends, ends-after, ends-steps, made-ends}
use Rattle.replayed_bytes.proofs.StepLemmas.{OkFiles, Steps, each-steps, one-files, plain-edited, plain-removed, steps-same, steps-then, turn-steps}
use Rattle.replayed_bytes.proofs.StorageLemmas.{created-steps, dropped-steps, map-steps, truncated-steps}

-- ---- names of files of status and of multixacts

hex_other : (b : ℕ) → is_upper_hex b ≡ true → not (b == 80) ≡ true
hex_other b h = grind (arith, nat_tests, h)

hex_free : (name : List ℕ) → list_all is_upper_hex name ≡ true → without 80 name ≡ true
unfolding without
hex_free [] h = refl
hex_free (b ∷ name) h =
    let two = and_parts (is_upper_hex b) (list_all is_upper_hex name) h in
    ap (λ t. t && without 80 name) (hex_other b two.0) ∙ hex_free name two.1

named_free : (name : List ℕ) → is_file_name name ≡ true → without 80 name ≡ true
named_free name h =
    hex_free name (and_parts (list_all is_upper_hex name) (is_name_length (length name))
    (and_parts (list_all is_upper_hex name && is_name_length (length name)) (not (has_extra_zero name)) h).0).0

cut_free : (area : Area) (first last : ℕ) (name : List ℕ) → name_cut area first last name ≡ true → without 80 name ≡ true
cut_free area first last name h = by (is_file_name name) refl h
  where
    by : (t : Bool) → is_file_name name ≡ t → name_cut area first last name ≡ true → without 80 name ≡ true
    by true is cut = named_free name is
    by false is cut = absurd (true≢false (sym cut ∙ rw is refl))

area_last : (area : Area) (name : List ℕ) → last_part (path_of false (folder_parts area ++ name ∷ [])) ≡ name
area_last Status name = refl
area_last Offsets name = refl
area_last Members name = refl

area_plain : (area : Area) (name : List ℕ) → relation_of (path_of false (folder_parts area ++ name ∷ [])) ≡ None
area_plain Status name = status-not_main name
area_plain Offsets name = multis-not_main (codes "offsets") name
area_plain Members name = multis-not_main (codes "members") name

map_last : (t : Bool) (database : ℕ) → last_part (path_of false ((if t then global_parts else database_parts database) ++ codes "pg_filenode.map" ∷ [])) ≡ codes "pg_filenode.map"
map_last true database = refl
map_last false database = refl

map_free : without 80 (codes "pg_filenode.map") ≡ true
unfolding without
map_free = refl

module _ (root : PathValue) where
  area_lies : (area : Area) (name : List ℕ) → below (folder_of root area) (name ∷ []) ≡ below root (folder_parts area ++ name ∷ [])
  area_lies area name = ap (path_of root.absolute) (append_assoc root.parts (folder_parts area) (name ∷ []))

  -- ---- status and multixacts

  page_steps : (area : Area) (page : ℕ) (edit : List ℕ → List ℕ) (c d : Contents) → file_edited root (page_file root area page) edit c ≡ Ok d → Steps root c d
  page_steps area page edit c d made =
      plain-edited root (folder_parts area ++ file_name (page / 32) ∷ []) (page_file root area page) edit c d (area_lies area (file_name (page / 32)))
      (page-no_version (folder_parts area ++ file_name (page / 32) ∷ []) (page / 32) (area_last area (file_name (page / 32)))) (area_plain area (file_name (page / 32))) made

  one_steps : (area : Area) (first last : ℕ) (name : List ℕ) (c d : Contents) → file_cut area first last (folder_of root area) name c ≡ Ok d → Steps root c d
  unfolding file_cut
  one_steps area first last name c d made = by (name_cut area first last name) refl made
    where
      by : (t : Bool) → name_cut area first last name ≡ t → (if t then file_removed (below (folder_of root area) (name ∷ [])) c else OkFiles c) ≡ Ok d → Steps root c d
      by true is run =
          plain-removed root (folder_parts area ++ name ∷ []) (below (folder_of root area) (name ∷ [])) c d (area_lies area name)
          (free-no_version (folder_parts area ++ name ∷ []) name (area_last area name) (cut_free area first last name is)) (area_plain area name) run
      by false is run = steps-same root c d (one-files c d run)

  area_steps : (area : Area) (first last : ℕ) (c d : Contents) → area_cut root area first last c ≡ Ok d → Steps root c d
  unfolding area_cut
  area_steps area first last c d made =
      let step : List ℕ → Contents → Result Contents FileFault = file_cut area first last (folder_of root area) in
      let two = given-done (names_asked c (folder_of root area) (entry_at c (folder_of root area))) (λ names. in_turn step names c) d made in
      turn-steps root step (one_steps area first last) two.0 c d two.2

  multis_steps : (cut : MultiXactTruncate) (c d : Contents) → multis_cut root cut c ≡ Ok d → Steps root c d
  unfolding multis_cut
  multis_steps cut c d made =
      let two = given-done (area_cut root Offsets 0 (page_before cut.end_multi) c) (area_cut root Members cut.first_offset cut.end_offset) d made in
      steps-then root c two.0 d (area_steps Offsets 0 (page_before cut.end_multi) c two.0 two.1) (area_steps Members cut.first_offset cut.end_offset two.0 d two.2)

  member_steps : (offset : ℕ) (member : Member) (c d : Contents) → member_set root offset member c ≡ Ok d → Steps root c d
  unfolding member_set
  member_steps offset member c d made =
      let two = given-done (flags_set root offset member c) (xid_set root offset member) d made in
      steps-then root c two.0 d (page_steps Members _ _ c two.0 two.1) (page_steps Members _ _ two.0 d two.2)

  members_steps : (offset : ℕ) (members : List Member) (c d : Contents) → members_set root offset members c ≡ Ok d → Steps root c d
  unfolding members_set
  members_steps offset [] c d made = steps-same root c d (one-files c d made)
  members_steps offset (member ∷ members) c d made =
      let two = given-done (member_set root offset member c) (members_set root ((offset + 1) % 2 ^ 32) members) d made in
      steps-then root c two.0 d (member_steps offset member c two.0 two.1) (members_steps ((offset + 1) % 2 ^ 32) members two.0 d two.2)

  added_steps : (create : Option MultiXactCreate) (c d : Contents) → multi_added root create c ≡ Ok d → Steps root c d
  unfolding multi_added
  added_steps None c d made = steps-same root c d (one-files c d made)
  added_steps (Some create) c d made =
      let two = given-done (offset_set root create.multi create.offset c) (members_set root create.offset create.members) d made in
      steps-then root c two.0 d (page_steps Offsets _ _ c two.0 two.1) (members_steps create.offset create.members two.0 d two.2)

  -- ---- relation maps

  map_lies : (database : ℕ) → map_file root database ≡ below root (map_parts database ++ codes "pg_filenode.map" ∷ [])
  map_lies database = ap (path_of root.absolute) (append_assoc root.parts (map_parts database) (codes "pg_filenode.map" ∷ []))

  written_steps : (update : Option RelMapUpdate) (c d : Contents) → map_written root update c ≡ Ok d → Steps root c d
  written_steps None c d made = steps-same root c d (one-files c d made)
  written_steps (Some update) c d made =
      let parts : List (List ℕ) = map_parts update.database ++ codes "pg_filenode.map" ∷ [] in
      plain-edited root parts (map_file root update.database) (λ _. update.map) c d (map_lies update.database)
      (free-no_version parts (codes "pg_filenode.map") (map_last (update.database == 0) update.database) map_free) (map-not_relation update.database) made

module _ (root : PathValue) (per : ℕ) where
  ended_steps : (xid : ℕ) (outcome : Outcome) (end : TransactionEnd) (c d : Contents) → transaction_ended root xid outcome end c ≡ Ok d → Steps root c d
  unfolding transaction_ended
  ended_steps xid outcome end c d made =
      let xids : List ℕ = own_xid xid ++ end.subxacts in
      let two = given-done (statuses_set root (status_of outcome) xids c) (for_each (relation_dropped root) end.dropped) d made in
      steps-then root c two.0 d
      (each-steps root (λ xid. status_set root xid (status_of outcome)) (λ xid e f run. page_steps root Status _ _ e f run) xids c two.0 two.1)
      (each-steps root (relation_dropped root) (dropped-steps root per) end.dropped two.0 d two.2)

  -- ---- what is done, by the operation

  module _ (rec : LogRecord) (parts : PartsView) (main : List ℕ) (c d : Contents) where
    -- fields that aren't whole do nothing
    said : {A : Type 0} (fields : Option A) → (fields ≡ None → OkFiles c ≡ Ok d) → ((value : A) → fields ≡ Some value → Ends root c d) → Ends root c d
    said None short each = ends-steps root c d (steps-same root c d (one-files c d (short refl)))
    said (Some value) short each = each value refl

    none : OkFiles c ≡ Ok d → Ends root c d
    none made = ends-steps root c d (steps-same root c d (one-files c d made))

    transaction_ends : (o : TransactionOp) → effect_done root per rec parts (effect_by_transaction o main) c ≡ Ok d → Ends root c d
    transaction_ends (transaction.End outcome prepared has_xinfo) made =
        said (end_of outcome has_xinfo main) (λ short. rw short at made) (λ end read. ends-steps root c d (ended_steps rec.header.xid outcome end c d (rw read at made)))
    transaction_ends _ made = none cc

    database_ends : (o : DatabaseOp) → IsTree d → effect_done root per rec parts (effect_by_database o main) c ≡ Ok d → Ends root c d
    database_ends database.CreateWalLog tree made = said (database_create_of main) (λ short. rw short at made) (λ new read. made-ends root new.database c d (rw read at made))
    database_ends database.Drop tree made = said (database_drop_of main) (λ short. rw short at made) (λ gone read. dropped-ends root gone.database c d tree (rw read at made))
    database_ends _ tree made = none cc

    storage_ends : (o : StorageOp) → effect_done root per rec parts (effect_by_storage o main) c ≡ Ok d → Ends root c d
    storage_ends storage.Create made = said (storage_create_of main) (λ short. rw short at made) (λ new read. ends-steps root c d (created-steps root per new.rel new.fork c d (rw read at made)))
    storage_ends storage.Truncate made = said (storage_truncate_of main) (λ short. rw short at made) (λ cut read. ends-steps root c d (truncated-steps root per cut.rel cut.blocks cut.flags c d (rw read at made)))
    storage_ends (storage.Unlisted number) made = none cc

    zero_ends : (area : Area) (page : ℕ) → page_zeroed root area page c ≡ Ok d → Ends root c d
    zero_ends area page made = ends-steps root c d (page_steps root area page _ c d made)

    clog_ends : (o : ClogOp) → effect_done root per rec parts (effect_by_clog o main) c ≡ Ok d → Ends root c d
    clog_ends clog.ZeroPage made = said (clog_zero_page_of main) (λ short. rw short at made) (λ zero read. zero_ends Status zero.page (rw read at made))
    clog_ends clog.Truncate made = said (clog_truncate_of main) (λ short. rw short at made) (λ cut read. ends-steps root c d (area_steps root Status 0 cut.page c d (rw read at made)))
    clog_ends (clog.Unlisted number) made = none cc

    multixact_ends : (o : MultiXactOp) → effect_done root per rec parts (effect_by_multixact o main) c ≡ Ok d → Ends root c d
    multixact_ends multixact.ZeroOffsetsPage made = said (multixact_zero_page_of main) (λ short. rw short at made) (λ zero read. zero_ends Offsets zero.page (rw read at made))
    multixact_ends multixact.ZeroMembersPage made = said (multixact_zero_page_of main) (λ short. rw short at made) (λ zero read. zero_ends Members zero.page (rw read at made))
    multixact_ends multixact.CreateId made = ends-steps root c d (added_steps root (create_in rec parts) c d made)
    multixact_ends multixact.TruncateId made = said (multixact_truncate_of main) (λ short. rw short at made) (λ cut read. ends-steps root c d (multis_steps root cut c d (rw read at made)))
    multixact_ends (multixact.Unlisted number) made = none cc

    relmap_ends : (o : RelMapOp) → effect_done root per rec parts (effect_by_relmap o) c ≡ Ok d → Ends root c d
    relmap_ends relmap.Update made = ends-steps root c d (written_steps root (update_in rec parts) c d made)
    relmap_ends (relmap.Unlisted number) made = none cc

    op_ends : (o : Operation) → IsTree d → effect_done root per rec parts (effect_of o main) c ≡ Ok d → Ends root c d
    unfolding effect_of
    op_ends (op.Transaction o) tree made = transaction_ends o made
    op_ends (op.Storage o) tree made = storage_ends o made
    op_ends (op.Database o) tree made = database_ends o tree made
    op_ends (op.Clog o) tree made = clog_ends o made
    op_ends (op.MultiXact o) tree made = multixact_ends o made
    op_ends (op.RelMap o) tree made = relmap_ends o made
    op_ends _ tree made = none cc

  -- the bits of the map first, and then what the operation does
  pub files-end : (rec : LogRecord) (parts : PartsView) (c d : Contents) → IsTree d → files_after root per rec parts c ≡ Ok d → Ends root c d
  unfolding files_after
  files-end rec parts c d tree made =
      let two = given-done (for_each (bits_cleared root per) (map_clears rec parts) c) (effect_done root per rec parts (effect_in rec parts)) d made in
      ends-after root c two.0 d
      (each-steps root (bits_cleared root per) (λ clearing e f run. map-steps root per clearing.rel clearing.block (Clear (bits_number clearing.bits)) e f run) (map_clears rec parts) c two.0 two.1)
      (op_ends rec parts (main_bytes rec.body parts) two.0 d (operation_of rec.header.manager rec.header.info) tree two.2)
