-- The list of what stands in the areas is closed: each folder of a path is listed before it.
use Rattle.std.proofs.Common.{◌≡◌, ◌⊎◌, ℕ, Bool, true, false, ◌&&◌, ◌||◌, List, [], ◌∷◌, ◌++◌, codes, length, map, Option, None, Some, Ok, Err, is_some, refl, ap, sym, ◌∙◌, inl, inr, true≢false}
use Rattle.std.proofs.lemmas.List.{append-nil}
use Rattle.std.specs.List.{cons_option, filter_map, list_any}
use Rattle.cluster_tree.specs.Causes.{given, unless}
use Rattle.cluster_tree.specs.Contents.{Contents, Entry, FileEntry, FolderEntry, LinkEntry, IsTree, entry_at, is_folder, parent}
use Rattle.cluster_tree.specs.Folders.{last_part, lies_in}
use Rattle.cluster_tree.specs.PathOrder.{path_eq}
use Rattle.cluster_tree.specs.PathValue.{PathValue, below}
use Rattle.cluster_tree.proofs.OrderLemmas.{path_eq-own, same_path}
use Rattle.file_walk.specs.Actions.{here}
use Rattle.file_walk.specs.Relations.{relation_of}
use Rattle.file_walk.specs.Walk.{found_below, walk_of, walked}
use Rattle.file_walk.specs.declared.entry.Entry as walks
use Rattle.file_walk.specs.declared.entry.EntryKind.TheVariants as kind
use Rattle.file_walk.specs.declared.fault.WalkFault.{WalkFault}
use Rattle.file_walk.proofs.ClosedLemmas.{In, parent_below}
use Rattle.file_walk.proofs.FoundLemmas.{name_in}
use Rattle.file_walk.proofs.QueueLemmas.{IsClosed}
use Rattle.file_walk.proofs.WholeLemmas.{all_closed, holds, top}
use Rattle.areas_alone.specs.Alone.{areas_of}
use Rattle.areas_alone.specs.Rooted.{areas-tree}
use Rattle.replay_areas.specs.Listing.{areas_listed, label_listed, label_path, listed_as, listed_below, listed_by}
use Rattle.replay_areas.proofs.FoundLemmas.{at_path}
use Rattle.replay_list.specs.Lines.{path_at}
use Rattle.replay_list.specs.declared.listed.Listed.{Listed}
use Rattle.replay_list.specs.declared.listed.Listed.TheVariants.{Folder, File}
use Rattle.replay_restore.specs.Listing.{has_folder, is_closed, is_folder_at, is_under}

both : (a b : Bool) → (a && b) ≡ true → (a ≡ true) × (b ≡ true)
both true b e = (refl, e)
both false b e = absurd cc

and_both : (a b : Bool) → a ≡ true → b ≡ true → (a && b) ≡ true
and_both true b e f = f
and_both false b e f = absurd cc

or_left : (a b : Bool) → a ≡ true → (a || b) ≡ true
or_left true b e = refl
or_left false b e = absurd cc

or_right : (a b : Bool) → b ≡ true → (a || b) ≡ true
or_right true b e = refl
or_right false b e = e

either : (a b : Bool) → (a || b) ≡ true → (a ≡ true) ⊎ (b ≡ true)
either true b e = inl refl
either false b e = inr e

abbrev Found : Type 0
Found = PathValue × Entry

any_out : (test : Found → Bool) (xs : List Found) → list_any test xs ≡ true → (y : Found) × In y xs × (test y ≡ true)
any_out test [] e = absurd cc
any_out test (x ∷ xs) e =
    elim (test x) as (λ b. test x ≡ b → (b || list_any test xs) ≡ true → (y : Found) × In y (x ∷ xs) × (test y ≡ true)) [
      | true ↦ λ is rest. (x, inl refl, is)
      | false ↦ λ is rest. let one = any_out test xs rest in (one.0, inr one.1, one.2)
    ] refl e

later : (y x z : Found) (zs : List Found) → In y zs ⊎ (y ≡ x) → In y (z ∷ zs) ⊎ (y ≡ x)
later y x z zs (inl is) = inl (inr is)
later y x z zs (inr is) = inr is

in_split : (y x : Found) (xs : List Found) → In y (xs ++ x ∷ []) → In y xs ⊎ (y ≡ x)
in_split y x [] (inl is) = inr is
in_split y x [] (inr none) = absurd none
in_split y x (z ∷ zs) (inl is) = inl (inl is)
in_split y x (z ∷ zs) (inr more) = later y x z zs (in_split y x zs more)

module _ (root : PathValue) where
  below_none : below root [] ≡ root
  below_none = same_path (below root []) root refl (append-nil root.parts)

  -- the folders of what was found are listed
  abbrev Covers : List Found → List Listed → Type 0
  Covers done before = (p : Found) → In p done → is_folder (Some p.1) ≡ true → has_folder before (below root p.0.parts) ≡ true

  first_under : (before : List Listed) (name : List ℕ) → is_under root before (below root (name ∷ [])) ≡ true
  first_under before name =
      or_left (path_eq root (parent (below root (name ∷ [])))) (has_folder before (parent (below root (name ∷ []))))
      (ap (path_eq root) (parent_below root [] name ∙ below_none) ∙ path_eq-own root)

  under : (done : List Found) (before : List Listed) (x : Found) → Covers done before → (top x || list_any (λ p. holds p x) done) ≡ true → is_under root before (below root x.0.parts) ≡ true
  under done before x covers waits = by (either (top x) (list_any (λ p. holds p x) done) waits)
    where
      by : (top x ≡ true) ⊎ (list_any (λ p. holds p x) done ≡ true) → is_under root before (below root x.0.parts) ≡ true
      by (inl is) = ap (λ (q : PathValue). is_under root before (below root q.parts)) (name_in here x.0 is) ∙ first_under before (last_part x.0)
      by (inr some) =
          let one = any_out (λ p. holds p x) done some in
          let two = both (is_folder (Some one.0.1)) (lies_in one.0.0 x.0) one.2 in
          ap (λ (q : PathValue). is_under root before (below root q.parts)) (name_in one.0.0 x.0 two.1)
          ∙ or_right (path_eq root (parent (below root (one.0.0.parts ++ last_part x.0 ∷ [])))) (has_folder before (parent (below root (one.0.0.parts ++ last_part x.0 ∷ []))))
          (ap (has_folder before) (parent_below root one.0.0.parts (last_part x.0)) ∙ covers one.0 one.1 two.0)

  abbrev listed_of : List Found → List Listed
  listed_of found = map (listed_as root) (filter_map walked found)

  still_covers : (done : List Found) (before : List Listed) (x : Found) → Covers done before → (is_folder (Some x.1) ≡ true → has_folder before (below root x.0.parts) ≡ true) → Covers (done ++ x ∷ []) before
  still_covers done before x covers own p in_all folder = by (in_split p x done in_all)
    where
      by : In p done ⊎ (p ≡ x) → has_folder before (below root p.0.parts) ≡ true
      by (inl is) = covers p is folder
      by (inr is) = ap (λ (q : Found). has_folder before (below root q.0.parts)) is ∙ own (sym (ap (λ (q : Found). is_folder (Some q.1)) is) ∙ folder)

  more_covers : (done : List Found) (before : List Listed) (one : Listed) → Covers done before → Covers done (one ∷ before)
  more_covers done before one covers p is folder = or_right (is_folder_at (below root p.0.parts) one) (has_folder before (below root p.0.parts)) (covers p is folder)

  closed_found : (others done : List Found) (before : List Listed) → Covers done before → IsClosed top holds done others → is_closed root before (listed_of others) ≡ true
  closed_found [] done before covers closed = refl
  closed_found ((path, FolderEntry bad) ∷ more) done before covers closed =
      and_both (is_under root before (below root path.parts)) (is_closed root (Folder (below root path.parts) ∷ before) (listed_of more))
      (under done before (path, FolderEntry bad) covers closed.0)
      (closed_found more (done ++ (path, FolderEntry bad) ∷ []) (Folder (below root path.parts) ∷ before)
      (still_covers done (Folder (below root path.parts) ∷ before) (path, FolderEntry bad) (more_covers done before (Folder (below root path.parts)) covers)
      (λ folder. or_left (path_eq (below root path.parts) (below root path.parts)) (has_folder before (below root path.parts)) (path_eq-own (below root path.parts))))
      closed.1)
  closed_found ((path, FileEntry bytes) ∷ more) done before covers closed =
      let one : Listed = listed_by (is_some (relation_of path)) (below root path.parts) (kind.File (length bytes)) in
      and_both (is_under root before (path_at one)) (is_closed root (one ∷ before) (listed_of more))
      (ap (is_under root before) (at_path (is_some (relation_of path)) (below root path.parts) (kind.File (length bytes))) ∙ under done before (path, FileEntry bytes) covers closed.0)
      (closed_found more (done ++ (path, FileEntry bytes) ∷ []) (one ∷ before)
      (still_covers done (one ∷ before) (path, FileEntry bytes) (more_covers done before one covers) (λ folder. absurd (true≢false (sym folder))))
      closed.1)
  closed_found ((path, LinkEntry) ∷ more) done before covers closed =
      closed_found more (done ++ (path, LinkEntry) ∷ []) before (still_covers done before (path, LinkEntry) covers (λ folder. absurd (true≢false (sym folder)))) closed.1

  no_cover : (before : List Listed) → Covers [] before
  no_cover before p none folder = absurd none

  with_label : (o : Option Entry) (found : List Found) → IsClosed top holds [] found → is_closed root [] (cons_option (label_listed (label_path root) o) (listed_of found)) ≡ true
  with_label None found closed = closed_found found [] [] (no_cover []) closed
  with_label (Some (FolderEntry bad)) found closed = closed_found found [] [] (no_cover []) closed
  with_label (Some (FileEntry bytes)) found closed =
      and_both (is_under root [] (label_path root)) (is_closed root (File (label_path root) (length bytes) ∷ []) (listed_of found))
      (first_under [] (codes "backup_label")) (closed_found found [] (File (label_path root) (length bytes) ∷ []) (no_cover (File (label_path root) (length bytes) ∷ [])) closed)
  with_label (Some LinkEntry) found closed = closed_found found [] [] (no_cover []) closed

entries_are : (o p : Option WalkFault) (l entries : List walks.Entry) → unless o (unless p (Ok l)) ≡ Ok entries → l ≡ entries
entries_are None None l entries e = cc
entries_are None (Some f) l entries e = absurd cc
entries_are (Some f) p l entries e = absurd cc

module _ (c : Contents) (root : PathValue) (tree : IsTree c) where
  of_walk : (listed : List Listed) (entries : List walks.Entry) → walk_of (areas_of c root) root ≡ Ok entries → listed_below c root entries ≡ listed → is_closed root [] listed ≡ true
  unfolding walk_of
  of_walk listed entries told is =
      ap (is_closed root []) (sym is ∙ ap (listed_below c root) (sym (entries_are _ _ (filter_map walked (found_below (areas_of c root) root)) entries told)))
      ∙ with_label root (entry_at c (label_path root)) (found_below (areas_of c root) root) (all_closed (areas_of c root) (areas-tree c root tree) root)

  pub areas-closed : (listed : List Listed) → areas_listed c root ≡ Ok listed → is_closed root [] listed ≡ true
  unfolding areas_listed
  areas-closed listed is =
      elim (walk_of (areas_of c root) root) as (λ r. walk_of (areas_of c root) root ≡ r → given r (λ entries. Ok (listed_below c root entries)) ≡ Ok listed → is_closed root [] listed ≡ true) [
        | Ok entries ↦ λ told rest. of_walk listed entries told (let same : listed_below c root entries ≡ listed = cc in same)
        | Err e ↦ λ told rest. absurd cc
      ] refl is
