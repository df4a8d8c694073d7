-- Calls on files of status and of multixacts leave every file that lies elsewhere.
use Rattle.std.proofs.Common.{◌≡◌, ◌≢◌, ℕ, ◌+◌, ◌%◌, ◌^◌, Bool, true, false, List, [], ◌∷◌, Option, None, Some, Result, Ok}
use Rattle.std.specs.Prelude.{if◌then◌else◌}
use Rattle.cluster_tree.specs.Contents.{Contents, entry_at}
use Rattle.cluster_tree.specs.PathValue.{PathValue, below}
use Rattle.cluster_tree.specs.declared.file_fault.FileFault.{FileFault}
use Rattle.file_edits.specs.Asking.{names_asked}
use Rattle.file_edits.specs.Clearing.{in_turn}
use Rattle.file_edits.specs.Edits.{file_removed}
use Rattle.file_edits.proofs.LawLemmas.{removed-elsewhere}
use Rattle.file_effects.specs.Done.{multis_cut, page_before}
use Rattle.record_layouts.specs.declared.kinds.Member.{Member}
use Rattle.record_layouts.specs.declared.multixact.MultiXactCreate.{MultiXactCreate}
use Rattle.record_layouts.specs.declared.multixact.MultiXactTruncate.{MultiXactTruncate}
use Rattle.slru_replay.specs.Area.{folder_of}
use Rattle.slru_replay.specs.Cutting.{area_cut, file_cut, name_cut}
use Rattle.slru_replay.specs.MultiXact.{flags_set, member_set, members_set, multi_added, offset_set, xid_set}
use Rattle.slru_replay.specs.declared.area.Area.{Area}
use Rattle.slru_replay.specs.declared.area.Area.TheVariants.{Members, Offsets}
use Rattle.storage_laws.proofs.EditedLemmas.{given-done}
use Rattle.cluster_laws.proofs.unlogged.StayLemmas.{OkFiles, Stays, edited-stays, stays-elsewhere, stays-same, stays-then, turn-stays}

module _ (q root : PathValue) (apart : (area : Area) (name : List ℕ) → q ≢ below (folder_of root area) (name ∷ [])) where
  one_stays : (area : Area) (first last : ℕ) (name : List ℕ) (c d : Contents) → file_cut area first last (folder_of root area) name c ≡ Ok d → Stays q c d
  unfolding file_cut
  one_stays area first last name c d made = by (name_cut area first last name) made
    where
      by : (t : Bool) → (if t then file_removed (below (folder_of root area) (name ∷ [])) c else OkFiles c) ≡ Ok d → Stays q c d
      by true run = stays-elsewhere q c d (removed-elsewhere (below (folder_of root area) (name ∷ [])) c d q run (apart area name))
      by false run = stays-same q c d cc

  pub area-stays : (area : Area) (first last : ℕ) (c d : Contents) → area_cut root area first last c ≡ Ok d → Stays q c d
  unfolding area_cut
  area-stays area first last c d made =
      let step : List ℕ → Contents → Result Contents FileFault = file_cut area first last (folder_of root area) in
      let two = given-done (names_asked c (folder_of root area) (entry_at c (folder_of root area))) (λ names. in_turn step names c) d made in
      turn-stays q step (one_stays area first last) two.0 c d two.2

  pub multis-stay : (cut : MultiXactTruncate) (c d : Contents) → multis_cut root cut c ≡ Ok d → Stays q c d
  unfolding multis_cut
  multis-stay cut c d made =
      let two = given-done (area_cut root Offsets 0 (page_before cut.end_multi) c) (area_cut root Members cut.first_offset cut.end_offset) d made in
      stays-then q c two.0 d (area-stays Offsets 0 (page_before cut.end_multi) c two.0 two.1) (area-stays Members cut.first_offset cut.end_offset two.0 d two.2)

  -- a multixact and its members

  member_stays : (offset : ℕ) (member : Member) (c d : Contents) → member_set root offset member c ≡ Ok d → Stays q c d
  unfolding member_set
  member_stays offset member c d made =
      let two = given-done (flags_set root offset member c) (xid_set root offset member) d made in
      stays-then q c two.0 d (edited-stays q root _ _ c two.0 two.1) (edited-stays q root _ _ two.0 d two.2)

  members_stay : (offset : ℕ) (members : List Member) (c d : Contents) → members_set root offset members c ≡ Ok d → Stays q c d
  unfolding members_set
  members_stay offset [] c d made = stays-same q c d cc
  members_stay offset (member ∷ members) c d made =
      let two = given-done (member_set root offset member c) (members_set root ((offset + 1) % 2 ^ 32) members) d made in
      stays-then q c two.0 d (member_stays offset member c two.0 two.1) (members_stay ((offset + 1) % 2 ^ 32) members two.0 d two.2)

  pub added-stays : (create : Option MultiXactCreate) (c d : Contents) → multi_added root create c ≡ Ok d → Stays q c d
  unfolding multi_added
  added-stays None c d made = stays-same q c d cc
  added-stays (Some create) c d made =
      let two = given-done (offset_set root create.multi create.offset c) (members_set root create.offset create.members) d made in
      stays-then q c two.0 d (edited-stays q root _ _ c two.0 two.1) (members_stay create.offset create.members two.0 d two.2)
