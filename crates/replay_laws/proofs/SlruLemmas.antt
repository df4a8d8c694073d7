-- Files of status and of multixacts are no relation's: whatever is done to them, every block stays.
use Rattle.std.proofs.Common.{◌≡◌, ◌≢◌, ℕ, ◌+◌, ◌/◌, ◌%◌, ◌^◌, ◌==◌, Bool, true, false, cond, List, [], ◌∷◌, ◌++◌, Option, None, Some, Result, Ok, ap, sym, ◌∙◌, append_assoc}
use Rattle.std.specs.Prelude.{if◌then◌else◌}
use Rattle.std.proofs.lemmas.List.{append_cancel_left}
use Rattle.block_refs.specs.declared.names.Fork.{Fork}
use Rattle.block_refs.specs.declared.names.RelName.{RelName}
use Rattle.cluster_tree.specs.Contents.{Contents, entry_at}
use Rattle.cluster_tree.specs.PathValue.{PathValue, below}
use Rattle.cluster_tree.specs.Tree.{bytes_in}
use Rattle.cluster_tree.specs.declared.file_fault.FileFault.{FileFault}
use Rattle.file_edits.specs.Asking.{names_asked}
use Rattle.file_edits.specs.Clearing.{in_turn}
use Rattle.file_edits.specs.Edits.{file_edited, file_removed}
use Rattle.file_edits.proofs.LawLemmas.{removed-elsewhere}
use Rattle.record_layouts.specs.declared.kinds.Member.{Member}
use Rattle.record_layouts.specs.declared.multixact.MultiXactCreate.{MultiXactCreate}
use Rattle.relation_files.specs.Names.{name_of}
use Rattle.relation_files.specs.Paths.{database_parts, folder_parts as rel_parts, global_parts, relation_file}
use Rattle.slru_replay.specs.Area.{file_name, folder_of, folder_parts, page_file, page_laid, page_zeroed}
use Rattle.slru_replay.specs.Cutting.{area_cut, file_cut, name_cut}
use Rattle.slru_replay.specs.MultiXact.{flags_set, member_set, members_set, multi_added, offset_set, xid_set}
use Rattle.slru_replay.specs.Status.{status_set}
use Rattle.slru_replay.specs.declared.area.Area.{Area}
use Rattle.slru_replay.specs.declared.area.Area.TheVariants.{Status, Offsets, Members}
use Rattle.slru_replay.proofs.NameLemmas.{file-deeper, file-held}
use Rattle.storage_laws.specs.States.{whole_block}
use Rattle.storage_laws.proofs.EditedLemmas.{bytes-elsewhere, given-done}
use Rattle.storage_laws.proofs.TreeLemmas.{edited_tree, removed_tree}
use Rattle.replay_laws.specs.Whole.{AreWhole}
use Rattle.replay_laws.proofs.LeaveLemmas.{Stays, leaves-blocks, leaves-same, leaves-then}

-- a relation lies in base or global, and no area does

apart : (shared : Bool) (rel : RelName) (area : Area) (a b : List ℕ) → cond shared global_parts (database_parts rel.database) ++ a ∷ [] ≡ folder_parts area ++ b ∷ [] → ⊥
apart true rel Status a b e = absurd cc
apart true rel Offsets a b e = absurd cc
apart true rel Members a b e = absurd cc
apart false rel Status a b e = absurd cc
apart false rel Offsets a b e = absurd cc
apart false rel Members a b e = absurd cc

pub other_path : (root : PathValue) (rel : RelName) (fork : Fork) (segment : ℕ) (area : Area) (name : List ℕ) → relation_file root rel fork segment ≢ below (folder_of root area) (name ∷ [])
other_path root rel fork segment area name e =
    let text = name_of rel.relation fork segment in
    let parts : (root.parts ++ rel_parts rel) ++ text ∷ [] ≡ (root.parts ++ folder_parts area) ++ name ∷ [] = ap (λ (p : PathValue). p.parts) e in
    apart (rel.space == 1664) rel area text name
    (append_cancel_left root.parts (rel_parts rel ++ text ∷ []) (folder_parts area ++ name ∷ []) (sym (append_assoc root.parts (rel_parts rel) (text ∷ [])) ∙ parts ∙ append_assoc root.parts (folder_parts area) (name ∷ [])))

module _ (root : PathValue) (per : ℕ) where
  page_stays : (area : Area) (page : ℕ) (edit : List ℕ → List ℕ) (c d : Contents) → AreWhole root per c → file_edited root (page_file root area page) edit c ≡ Ok d → Stays root per c d
  page_stays area page edit c d whole made =
      leaves-blocks root per c d whole (edited_tree root (page_file root area page) edit c d (file-held root area page) (file-deeper root area page) whole.tree made)
      (λ other few. ap (whole_block (other.block % per))
      (bytes-elsewhere root (page_file root area page) edit c d (relation_file root other.rel other.fork (other.block / per)) made (other_path root other.rel other.fork (other.block / per) area (file_name (page / 32)))))

  file_stays : (area : Area) (name : List ℕ) (c d : Contents) → AreWhole root per c → file_removed (below (folder_of root area) (name ∷ [])) c ≡ Ok d → Stays root per c d
  file_stays area name c d whole made =
      leaves-blocks root per c d whole (removed_tree (below (folder_of root area) (name ∷ [])) c d whole.tree made)
      (λ other few. ap (λ o. whole_block (other.block % per) (bytes_in o))
      (removed-elsewhere (below (folder_of root area) (name ∷ [])) c d (relation_file root other.rel other.fork (other.block / per)) made (other_path root other.rel other.fork (other.block / per) area name)))

  -- one step, and then another
  pub stays-then : (c d e : Contents) → Stays root per c d → Stays root per d e → Stays root per c e
  stays-then c d e first next = leaves-then root per _ _ c d e first next

  pub zeroed-stays : (area : Area) (page : ℕ) (c d : Contents) → AreWhole root per c → page_zeroed root area page c ≡ Ok d → Stays root per c d
  zeroed-stays area page c d whole made = page_stays area page _ c d whole made

  pub laid-stays : (area : Area) (page at : ℕ) (bytes : List ℕ) (c d : Contents) → AreWhole root per c → page_laid root area page at bytes c ≡ Ok d → Stays root per c d
  laid-stays area page at bytes c d whole made = page_stays area page _ c d whole made

  pub status-stays : (xid status : ℕ) (c d : Contents) → AreWhole root per c → status_set root xid status c ≡ Ok d → Stays root per c d
  status-stays xid status c d whole made = page_stays Status _ _ c d whole made

  -- files of an area, one after another
  one_stays : (area : Area) (first last : ℕ) (name : List ℕ) (c d : Contents) → AreWhole root per c → file_cut area first last (folder_of root area) name c ≡ Ok d → Stays root per c d
  unfolding file_cut
  one_stays area first last name c d whole made = by (name_cut area first last name) made
    where
      by : (t : Bool) → (if t then file_removed (below (folder_of root area) (name ∷ [])) c else Ok c) ≡ Ok d → Stays root per c d
      by true run = file_stays area name c d whole run
      by false run = leaves-same root per c d whole cc

  turn_stays : (step : List ℕ → Contents → Result Contents FileFault) → ((name : List ℕ) (c d : Contents) → AreWhole root per c → step name c ≡ Ok d → Stays root per c d) → (names : List (List ℕ)) (c d : Contents)
      → AreWhole root per c → in_turn step names c ≡ Ok d → Stays root per c d
  unfolding in_turn
  turn_stays step each [] c d whole made = leaves-same root per c d whole cc
  turn_stays step each (name ∷ names) c d whole made =
      let two = given-done (step name c) (in_turn step names) d made in
      let first = each name c two.0 whole two.1 in
      stays-then c two.0 d first (turn_stays step each names two.0 d first.whole two.2)

  pub cut-stays : (area : Area) (first last : ℕ) (c d : Contents) → AreWhole root per c → area_cut root area first last c ≡ Ok d → Stays root per c d
  unfolding area_cut
  cut-stays area first last c d whole made =
      let two = given-done (names_asked c (folder_of root area) (entry_at c (folder_of root area))) (λ names. in_turn (file_cut area first last (folder_of root area)) names c) d made in
      turn_stays (file_cut area first last (folder_of root area)) (one_stays area first last) two.0 c d whole two.2

  -- a multixact and its members

  member_stays : (offset : ℕ) (member : Member) (c d : Contents) → AreWhole root per c → member_set root offset member c ≡ Ok d → Stays root per c d
  unfolding member_set
  member_stays offset member c d whole made =
      let two = given-done (flags_set root offset member c) (xid_set root offset member) d made in
      let first = laid-stays Members _ _ _ c two.0 whole two.1 in
      stays-then c two.0 d first (laid-stays Members _ _ _ two.0 d first.whole two.2)

  members_stay : (offset : ℕ) (members : List Member) (c d : Contents) → AreWhole root per c → members_set root offset members c ≡ Ok d → Stays root per c d
  unfolding members_set
  members_stay offset [] c d whole made = leaves-same root per c d whole cc
  members_stay offset (member ∷ members) c d whole made =
      let two = given-done (member_set root offset member c) (members_set root ((offset + 1) % 2 ^ 32) members) d made in
      let first = member_stays offset member c two.0 whole two.1 in
      stays-then c two.0 d first (members_stay ((offset + 1) % 2 ^ 32) members two.0 d first.whole two.2)

  pub added-stays : (create : Option MultiXactCreate) (c d : Contents) → AreWhole root per c → multi_added root create c ≡ Ok d → Stays root per c d
  unfolding multi_added
  added-stays None c d whole made = leaves-same root per c d whole cc
  added-stays (Some create) c d whole made =
      let two = given-done (offset_set root create.multi create.offset c) (members_set root create.offset create.members) d made in
      let first = laid-stays Offsets _ _ _ c two.0 whole two.1 in
      stays-then c two.0 d first (members_stay create.offset create.members two.0 d first.whole two.2)
