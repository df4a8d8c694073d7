-- What is listed is there, so that the mark and the copies can be laid.
use Rattle.std.proofs.Common.{◌≡◌, ℕ, ◌<◌, ◌==◌, ◌&&◌, Bool, true, false, cond, List, [], ◌∷◌, length, map, Option, None, Some, is_some, Ok, refl, ap, sym, ◌∙◌, subst, inl, inr, true≢false, arith}
use Rattle.std.proofs.lemmas.Bool.Decides.{nat_tests}
use Rattle.std.proofs.lemmas.List.Elements.{All-cons, All-nil}
use Rattle.std.specs.List.{All, cons_option, filter_map}
use Rattle.areas_alone.specs.Alone.{areas_of}
use Rattle.cluster_tree.specs.Causes.{unless}
use Rattle.cluster_tree.specs.Contents.{Contents, Entry, FileEntry, FolderEntry, IsTree, LinkEntry, entry_at, is_file}
use Rattle.cluster_tree.specs.PathOrder.{path_eq}
use Rattle.cluster_tree.specs.PathValue.{PathValue, below}
use Rattle.file_walk.proofs.ClosedLemmas.{In}
use Rattle.file_walk.specs.Relations.{relation_of}
use Rattle.file_walk.specs.Walk.{found_below, kind_there, walk_of, walked}
use Rattle.file_walk.specs.declared.entry.Entry.{Entry as Walked}
use Rattle.file_walk.specs.declared.entry.EntryKind.TheVariants as kind
use Rattle.file_walk.specs.declared.fault.WalkFault.{WalkFault}
use Rattle.file_walk.proofs.ProgressLemmas.{stood}
use Rattle.replay_areas.specs.Listing.{areas_listed, label_listed, label_path, listed_as, listed_below, listed_by}
use Rattle.replay_areas.proofs.FoundLemmas.{area_seen, seen_area}
use Rattle.replay_areas.proofs.ListLemmas.{list_is}
use Rattle.replay_copies.specs.Laid.{IsFound, IsReady, mark_of}
use Rattle.replay_core.proofs.StandLemmas.{root_folder}
use Rattle.replay_core.proofs.StartedLemmas.{is_given}
use Rattle.replay_list.specs.Laws.{IsListOf}
use Rattle.replay_list.specs.declared.listed.Listed.{Listed}
use Rattle.replay_list.specs.declared.listed.Listed.TheVariants.{Folder, File}
use Rattle.restart_start.specs.Beginning.{MayBegin, without_own}
use Rattle.replay_start.specs.Checked.{Start}
use Rattle.rmgr_hooks.specs.Custom.{Extension}
use Rattle.stored_replay.specs.Shadows.{is_sized}
use Rattle.without_file.specs.Without.{seen}
use Rattle.without_file.proofs.SeenLemmas.{entry-seen}
use Rattle.replay_copies.proofs.ListLemmas.{mark-size}
use Rattle.replay_restart.proofs.TakenLemmas.{IsUnbegun}

-- ---- what is seen without the mark is there

seen-there : (b : Bool) (o : Option Entry) (entry : Entry) → seen b o ≡ Some entry → o ≡ Some entry
seen-there b o entry is = by (b && is_file o) is
  where
    by : (t : Bool) → cond t None o ≡ Some entry → o ≡ Some entry
    by true e = absurd cc
    by false e = e

pub own-there : (c : Contents) (root path : PathValue) (entry : Entry) → entry_at (without_own c root) path ≡ Some entry → entry_at c path ≡ Some entry
own-there c root path entry is =
    seen-there (path_eq path (mark_of root)) (entry_at c path) entry (sym (entry-seen c (mark_of root) path (omega (arith, mark-size root))) ∙ is)

file-entry : (o : Option Entry) → is_file o ≡ true → (bytes : List ℕ) × (o ≡ Some (FileEntry bytes))
file-entry None e = absurd (true≢false (sym e))
file-entry (Some (FolderEntry bad)) e = absurd (true≢false (sym e))
file-entry (Some (FileEntry bytes)) e = (bytes, refl)
file-entry (Some LinkEntry) e = absurd (true≢false (sym e))

pub own-file : (c : Contents) (root path : PathValue) → is_file (entry_at (without_own c root) path) ≡ true → is_file (entry_at c path) ≡ true
own-file c root path is = let one = file-entry (entry_at (without_own c root) path) is in ap is_file (own-there c root path (FileEntry one.0) one.1)

-- ---- files of a walk are there

same-size : (n : ℕ) → (n == n) ≡ true
same-size n = grind (arith, nat_tests)

module _ (c : Contents) (root : PathValue) where
  abbrev Found : Type 0
  Found = PathValue × Entry

  file-found : (main : Bool) (path : PathValue) (bytes : List ℕ) → entry_at c path ≡ Some (FileEntry bytes) → IsFound c (listed_by main path (kind.File (length bytes)))
  file-found true path bytes is = tt
  file-found false path bytes is = ap (is_sized (length bytes)) is ∙ same-size (length bytes)

  all-found : (found : List Found) → ((x : Found) → In x found → is_file (Some x.1) ≡ true → entry_at c (below root x.0.parts) ≡ Some x.1) → All (IsFound c) (map (listed_as root) (filter_map walked found))
  all-found [] there = All-nil (IsFound c)
  all-found ((path, FolderEntry bad) ∷ more) there =
      All-cons (IsFound c) (Folder (below root path.parts)) (map (listed_as root) (filter_map walked more)) tt (all-found more (λ x in_more. there x (inr in_more)))
  all-found ((path, FileEntry bytes) ∷ more) there =
      All-cons (IsFound c) (listed_by (is_some (relation_of path)) (below root path.parts) (kind.File (length bytes))) (map (listed_as root) (filter_map walked more))
      (file-found (is_some (relation_of path)) (below root path.parts) bytes (there (path, FileEntry bytes) (inl refl) refl)) (all-found more (λ x in_more. there x (inr in_more)))
  all-found ((path, LinkEntry) ∷ more) there = all-found more (λ x in_more. there x (inr in_more))

  label-found : (o : Option Entry) (listed : List Listed) → entry_at c (label_path root) ≡ o → All (IsFound c) listed → All (IsFound c) (cons_option (label_listed (label_path root) o) listed)
  label-found None listed is found = found
  label-found (Some (FolderEntry bad)) listed is found = found
  label-found (Some (FileEntry bytes)) listed is found = All-cons (IsFound c) (File (label_path root) (length bytes)) listed (ap (is_sized (length bytes)) is ∙ same-size (length bytes)) found
  label-found (Some LinkEntry) listed is found = found

-- ---- files of the areas

entries-are : (o p : Option WalkFault) (l entries : List Walked) → unless o (unless p (Ok l)) ≡ Ok entries → entries ≡ l
entries-are None None l entries e = cc
entries-are None (Some f) l entries e = absurd cc
entries-are (Some f) p l entries e = absurd cc

told-all : (c : Contents) (root : PathValue) (entries : List Walked) → walk_of c root ≡ Ok entries → entries ≡ filter_map walked (found_below c root)
unfolding walk_of
told-all c root entries told = entries-are _ _ (filter_map walked (found_below c root)) entries told

parts-area : (d : Contents) (root : PathValue) (parts : List (List ℕ)) (entry : Entry) → 0 < length parts → is_file (Some entry) ≡ true → entry_at (areas_of d root) (below root parts) ≡ Some entry
    → entry_at d (below root parts) ≡ Some entry
parts-area d root [] entry some file is = absurd (omega (arith, some))
parts-area d root (name ∷ more) (FolderEntry bad) some file is = absurd (true≢false (sym file))
parts-area d root (name ∷ more) (FileEntry bytes) some file is =
    sym (area_seen d root name more (seen_area d root name more (ap (λ o. is_some (kind_there o)) is))) ∙ is
parts-area d root (name ∷ more) LinkEntry some file is = absurd (true≢false (sym file))

module _ (c : Contents) (root : PathValue) where
  abbrev d : Contents
  d = without_own c root

  walked-there : (x : PathValue × Entry) → In x (found_below (areas_of d root) root) → is_file (Some x.1) ≡ true → entry_at c (below root x.0.parts) ≡ Some x.1
  walked-there x in_all file =
      let s = stood (areas_of d root) root x in_all in
      own-there c root (below root x.0.parts) x.1 (parts-area d root x.0.parts x.1 s.some file s.there)

  label-there : All (IsFound c) (map (listed_as root) (filter_map walked (found_below (areas_of d root) root))) → (o : Option Entry) → entry_at d (label_path root) ≡ o
      → All (IsFound c) (cons_option (label_listed (label_path root) o) (map (listed_as root) (filter_map walked (found_below (areas_of d root) root))))
  label-there found None is = found
  label-there found (Some (FolderEntry bad)) is = found
  label-there found (Some (FileEntry bytes)) is = label-found c root (Some (FileEntry bytes)) _ (own-there c root (label_path root) (FileEntry bytes) is) found
  label-there found (Some LinkEntry) is = found

  pub listed-there : (listed : List Listed) → areas_listed d root ≡ Ok listed → All (IsFound c) listed
  listed-there listed is =
      let of = list_is d root listed is in
      let all : of.entries ≡ filter_map walked (found_below (areas_of d root) root) = told-all (areas_of d root) root of.entries of.told in
      subst (All (IsFound c)) (sym (of.is ∙ ap (listed_below d root) all))
      (label-there (all-found c root (found_below (areas_of d root) root) walked-there) (entry_at d (label_path root)) refl)

  -- ---- and so the mark and the copies can be laid

  pub can-lay : (custom : Option Extension) (s : Start) (listed : List Listed) → IsTree c → IsUnbegun c root → MayBegin custom d root s listed → IsListOf root listed → IsReady root listed c
  can-lay custom s listed tree unbegun may list =
      let given = is_given custom d root s may.passes in
      record {
        list = list;
        found = listed-there listed may.lists;
        rooted = root_folder c root tree (own-file c root _ given.control);
        mark = unbegun.mark;
        shut = unbegun.shut;
      }
