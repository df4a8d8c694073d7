-- What is brought back at each path is what stood there.
use Rattle.std.proofs.Common.{◌≡◌, ◌⊎◌, ℕ, Bool, true, false, ◌&&◌, ◌||◌, List, [], ◌∷◌, ◌++◌, bytes_eq, codes, length, Option, None, Some, is_some, option_map, refl, ap, sym, subst, ◌∙◌, inl, inr, append_assoc, true≢false}
use Rattle.std.specs.Prelude.{if◌then◌else◌}
use Rattle.std.specs.FinMap.{get}
use Rattle.std.specs.List.{list_all}
use Rattle.std.proofs.lemmas.Slice.Eq.{bytes_eq-Decides}
use Rattle.std.proofs.Math.Seq.{drop-append_seam}
use Rattle.cluster_tree.specs.Contents.{Contents, Entry, FileEntry, FolderEntry, LinkEntry, IsTree, entry_at, is_file, is_folder, or_root}
use Rattle.cluster_tree.specs.PathOrder.{path_eq}
use Rattle.cluster_tree.specs.PathValue.{PathValue, below, path_of}
use Rattle.cluster_tree.specs.Tree.{bytes_at, bytes_in}
use Rattle.cluster_tree.proofs.HoldLemmas.{holds-held}
use Rattle.cluster_tree.proofs.RootLemmas.{holds-below}
use Rattle.cluster_tree.proofs.OrderLemmas.{path_eq-same}
use Rattle.file_walk.specs.declared.entry.EntryKind.TheVariants as kind
use Rattle.file_walk.specs.Laws.{IsSound}
use Rattle.file_walk.proofs.ClosedLemmas.{parent_below}
use Rattle.file_walk.specs.Relations.{relation_of}
use Rattle.file_walk.specs.Walk.{kind_there}
use Rattle.mark_lines.specs.Paths.{parts_below}
use Rattle.replay_areas.specs.Laws.{listed_at}
use Rattle.replay_areas.specs.Listing.{label_listed, label_path, listed_by}
use Rattle.replay_copies.specs.Laid.{AreCopied}
use Rattle.replay_list.specs.Areas.{is_area, is_listed}
use Rattle.replay_list.specs.Lines.{files_behind, path_at}
use Rattle.replay_list.specs.declared.listed.Listed.{Listed}
use Rattle.replay_list.specs.declared.listed.Listed.TheVariants.{Folder, Page, File}
use Rattle.replay_restore.specs.Filled.{brought, brought_at, resized}
use Rattle.replay_restore.specs.Listing.{is_named, is_restored_at}
use Rattle.replay_restore.specs.Restored.{IsRestored}
use Rattle.restored_laws.specs.Back.{IsBack, IsBegunFrom, IsLeftOf, IsResized}

-- ---- which paths are brought back, by their parts behind the root

pub restored-below : (root : PathValue) (parts : List (List ℕ)) → is_restored_at root (below root parts) ≡ is_named parts
restored-below root parts =
    ap (λ b. b && is_named (parts_below root (below root parts))) (holds-held root (below root parts) (holds-below root parts))
    ∙ ap is_named (drop-append_seam root.parts parts)

-- ---- what is brought back, by what is listed

abbrev Brought : (first left : Contents) → PathValue → Option Listed → Option Entry → Type 0
Brought first left path None o = o ≡ None
Brought first left path (Some (Folder q)) o = o ≡ Some (FolderEntry false)
Brought first left path (Some (Page q size)) o = o ≡ Some (FileEntry (resized size (bytes_at left q)))
Brought first left path (Some (File q size)) o = o ≡ Some (FileEntry (bytes_at first q))

module _ (root : PathValue) (first left : Contents) (path : PathValue) where
  one-brought : (files : ℕ) (one : Listed) (more : List Listed) → AreCopied root first left files (one ∷ more) → Brought first left path (Some one) (Some (brought left root files one))
  one-brought files (Folder q) more copied = refl
  one-brought files (Page q size) more copied = refl
  one-brought files (File q size) more copied = ap (λ o. Some (FileEntry (bytes_in o))) copied.0

  all-brought : (files : ℕ) (listed : List Listed) → AreCopied root first left files listed → Brought first left path (listed_at listed path) (brought_at left root files listed path)
  all-brought files [] copied = refl
  all-brought files (one ∷ more) copied =
      elim (path_eq path (path_at one)) as (λ b. Brought first left path (if b then Some one else listed_at more path)
      (if b then Some (brought left root files one) else brought_at left root (files_behind files one) more path)) [
        | true ↦ one-brought files one more copied
        | false ↦ all-brought (files_behind files one) more copied.1
      ]

-- ---- at or below an area

module _ (root : PathValue) (parts : List (List ℕ)) (first left again : Contents) where
  abbrev path : PathValue
  path = below root parts

  abbrev Back : Type 0
  Back = (entry_at again path ≡ entry_at first path) ⊎ IsResized root parts first left again

  as_was : (o : Option Entry) → entry_at first path ≡ o → entry_at again path ≡ o → Back
  as_was o was is = inl (is ∙ sym was)

  file_back : (bytes : List ℕ) (main : Bool) → is_some (relation_of (path_of false parts)) ≡ main → entry_at first path ≡ Some (FileEntry bytes)
      → Brought first left path (Some (listed_by main path (kind.File (length bytes)))) (entry_at again path) → Back
  file_back bytes true main was is = inr (record { main = main; bytes = bytes; had = was; has = is })
  file_back bytes false main was is = as_was (Some (FileEntry bytes)) was (is ∙ ap (λ o. Some (FileEntry (bytes_in o))) was)

  area_back : (o : Option Entry) → entry_at first path ≡ o → IsSound (path_of false parts) o
      → Brought first left path (option_map (listed_by (is_some (relation_of (path_of false parts))) path) (kind_there o)) (entry_at again path) → Back
  area_back None was sound is = as_was None was is
  area_back (Some (FolderEntry true)) was sound is = absurd cc
  area_back (Some (FolderEntry false)) was sound is = as_was (Some (FolderEntry false)) was is
  area_back (Some (FileEntry bytes)) was sound is = file_back bytes (is_some (relation_of (path_of false parts))) refl was is
  area_back (Some LinkEntry) was sound is = absurd cc

-- ---- at the label, and below it

or_root-more : (xs : List (List ℕ)) (y : List ℕ) (ys : List (List ℕ)) (o : Option Entry) → or_root (xs ++ y ∷ ys) o ≡ o
or_root-more [] y ys None = refl
or_root-more [] y ys (Some e) = refl
or_root-more (x ∷ xs) y ys None = refl
or_root-more (x ∷ xs) y ys (Some e) = refl

file_alone : (o : Option Entry) → is_file o ≡ true → is_folder o ≡ false
file_alone None e = absurd cc
file_alone (Some (FolderEntry bad)) e = absurd cc
file_alone (Some (FileEntry bytes)) e = refl
file_alone (Some LinkEntry) e = absurd cc

module _ (c : Contents) (root : PathValue) (tree : IsTree c) where
  one_none : (done : List (List ℕ)) (name : List ℕ) → is_folder (entry_at c (below root done)) ≡ false → entry_at c (below root (done ++ name ∷ [])) ≡ None
  one_none done name other =
      ap (λ l. or_root l (get c (below root (done ++ name ∷ [])))) (sym (append_assoc root.parts done (name ∷ [])))
      ∙ or_root-more (root.parts ++ done) name [] (get c (below root (done ++ name ∷ [])))
      ∙ (elim (get c (below root (done ++ name ∷ []))) as (λ o. get c (below root (done ++ name ∷ [])) ≡ o → o ≡ None) [
        | None ↦ λ e. refl
        | Some v ↦ λ e. absurd (true≢false (sym (tree (below root (done ++ name ∷ [])) (ap is_some e)) ∙ ap (λ p. is_folder (entry_at c p)) (parent_below root done name) ∙ other))
      ] refl)

  none_below : (rest done : List (List ℕ)) (name : List ℕ) → is_folder (entry_at c (below root done)) ≡ false → entry_at c (below root (done ++ name ∷ rest)) ≡ None
  none_below [] done name other = one_none done name other
  none_below (next ∷ rest) done name other =
      ap (λ l. entry_at c (below root l)) (sym (append_assoc done (name ∷ []) (next ∷ rest)))
      ∙ none_below rest (done ++ name ∷ []) next (ap is_folder (one_none done name other))

unlisted : (root : PathValue) (parts : List (List ℕ)) → is_listed parts ≡ false → (listed : List Listed) → list_all (λ l. is_listed (parts_below root (path_at l))) listed ≡ true → listed_at listed (below root parts) ≡ None
unlisted root parts other [] all = refl
unlisted root parts other (one ∷ more) all =
    elim (path_eq (below root parts) (path_at one)) as (λ b. path_eq (below root parts) (path_at one) ≡ b → (if b then Some one else listed_at more (below root parts)) ≡ None) [
      | true ↦ λ e. absurd (true≢false (sym (first_of (is_listed (parts_below root (path_at one))) (list_all (λ l. is_listed (parts_below root (path_at l))) more) all)
          ∙ ap (λ p. is_listed (parts_below root p)) (sym (path_eq-same (below root parts) (path_at one) e)) ∙ ap is_listed (drop-append_seam root.parts parts) ∙ other))
      | false ↦ λ e. unlisted root parts other more (second_of (is_listed (parts_below root (path_at one))) (list_all (λ l. is_listed (parts_below root (path_at l))) more) all)
    ] refl
  where
    first_of : (a b : Bool) → (a && b) ≡ true → a ≡ true
    first_of true b e = refl
    first_of false b e = absurd cc

    second_of : (a b : Bool) → (a && b) ≡ true → b ≡ true
    second_of true b e = e
    second_of false b e = absurd cc

-- ---- at every path

module _ (root : PathValue) (listed : List Listed) (first left again : Contents) (begun : IsBegunFrom root listed first) (is_left : IsLeftOf root listed first left) (restored : IsRestored root listed left again) where
  told : (parts : List (List ℕ)) → is_named parts ≡ true → Brought first left (below root parts) (listed_at listed (below root parts)) (entry_at again (below root parts))
  told parts named =
      subst (Brought first left (below root parts) (listed_at listed (below root parts))) (sym (restored.restored (below root parts) (restored-below root parts ∙ named)))
      (all-brought root first left (below root parts) 0 listed is_left.copied)

  label_back : (o : Option Entry) → entry_at first (label_path root) ≡ o → is_file o ≡ true → Brought first left (label_path root) (label_listed (label_path root) o) (entry_at again (label_path root))
      → entry_at again (label_path root) ≡ o
  label_back None was there is = absurd cc
  label_back (Some (FolderEntry bad)) was there is = absurd cc
  label_back (Some (FileEntry bytes)) was there is = is ∙ ap (λ o. Some (FileEntry (bytes_in o))) was
  label_back (Some LinkEntry) was there is = absurd cc

  at_label : (more : List (List ℕ)) → Back root (codes "backup_label" ∷ more) first left again
  at_label [] =
      inl (label_back (entry_at first (label_path root)) refl begun.label
      (subst (λ l. Brought first left (label_path root) l (entry_at again (label_path root))) begun.tells.label (told (codes "backup_label" ∷ []) refl)))
  at_label (next ∷ more) =
      inl (subst (λ l. Brought first left (below root (codes "backup_label" ∷ next ∷ more)) l (entry_at again (below root (codes "backup_label" ∷ next ∷ more))))
      (unlisted root (codes "backup_label" ∷ next ∷ more) refl listed begun.list.areas) (told (codes "backup_label" ∷ next ∷ more) refl)
      ∙ sym (none_below first root begun.tree more (codes "backup_label" ∷ []) next (file_alone (entry_at first (label_path root)) begun.label)))

  at_named : (name : List ℕ) (more : List (List ℕ)) → is_named (name ∷ more) ≡ true → Back root (name ∷ more) first left again
  at_named name more named =
      elim (is_area name) as (λ b. is_area name ≡ b → (b || bytes_eq name (codes "backup_label")) ≡ true → Back root (name ∷ more) first left again) [
        | true ↦ λ area e. area_back root (name ∷ more) first left again (entry_at first (below root (name ∷ more))) refl (begun.tells.sound name more area)
            (subst (λ l. Brought first left (below root (name ∷ more)) l (entry_at again (below root (name ∷ more)))) (begun.tells.areas name more area) (told (name ∷ more) named))
        | false ↦ λ area e. subst (λ n. Back root (n ∷ more) first left again) (sym ((bytes_eq-Decides name (codes "backup_label")).0 e)) (at_label more)
      ] refl named

  pub all-back : IsBack root first left again
  all-back [] = inl (restored.elsewhere (below root []) (restored-below root []) ∙ is_left.beside (below root []) (restored-below root []))
  all-back (name ∷ more) =
      elim (is_named (name ∷ more)) as (λ b. is_named (name ∷ more) ≡ b → Back root (name ∷ more) first left again) [
        | true ↦ λ named. at_named name more named
        | false ↦ λ off. inl (restored.elsewhere (below root (name ∷ more)) (restored-below root (name ∷ more) ∙ off) ∙ is_left.beside (below root (name ∷ more)) (restored-below root (name ∷ more) ∙ off))
      ] refl
