-- The copies that were laid can be removed.
use Rattle.std.proofs.Common.{◌≡◌, ℕ, zero, suc, ◌-◌, ◌<◌, ◌≤◌, ◌==◌, Bool, true, false, ◌||◌, List, [], ◌∷◌, codes, length, Option, None, Some, Result, Ok, is_some, ⊎_elim, refl, ap, sym, subst, ◌∙◌, true≢false, arith}
use Rattle.std.specs.Prelude.{if◌then◌else◌}
use Rattle.std.specs.List.{All}
use Rattle.std.specs.FinMap.{remove}
use Rattle.std.proofs.lemmas.Bool.Decides.{nat_tests}
use Rattle.std.proofs.lemmas.List.{length-append}
use Rattle.std.proofs.lemmas.List.Elements.{All-head, All-tail}
use Rattle.cluster_tree.specs.Apart.{is_held}
use Rattle.cluster_tree.specs.Causes.{given}
use Rattle.cluster_tree.specs.Contents.{Contents, Entry, FolderEntry, FileEntry, LinkEntry, entry_at}
use Rattle.cluster_tree.specs.Folders.{names_in}
use Rattle.cluster_tree.specs.PathOrder.{path_eq}
use Rattle.cluster_tree.specs.PathValue.{PathValue, below}
use Rattle.cluster_tree.specs.declared.file_fault.FileFault.{FileFault}
use Rattle.cluster_tree.proofs.ContentsLemmas.{entry-removed, entry-removed_other}
use Rattle.cluster_tree.proofs.TreeLemmas.{same_or_other}
use Rattle.file_edits.specs.Asking.{file_asked, folder_asked, names_asked}
use Rattle.file_edits.specs.Clearing.{cleared_by, emptied, entry_cleared, folder_cleared, full_asked, in_turn, tree_removed}
use Rattle.file_edits.specs.Edits.{file_removed, without}
use Rattle.file_edits.proofs.ClearLemmas.{held-above, held-own}
use Rattle.file_edits.proofs.LawLemmas.{rootless}
use Rattle.replay_copies.specs.Laid.{AreCopied, HasCopies, IsCopy, IsFound, is_laid_at, mark_of}
use Rattle.replay_list.specs.Lines.{files_after}
use Rattle.replay_list.specs.declared.listed.Listed.{Listed}
use Rattle.replay_list.specs.declared.listed.Listed.TheVariants.{File, Folder, Page}
use Rattle.stored_replay.specs.Shadows.{is_sized, shadow_at, shadow_folder}

-- a file stands there, or nothing
abbrev NoFolder : Option Entry → Type 0
NoFolder None = Unit {0}
NoFolder (Some (FolderEntry bad)) = ⊥
NoFolder (Some (FileEntry bytes)) = Unit {0}
NoFolder (Some LinkEntry) = ⊥

-- ---- a folder of files is removed

module _ (folder : PathValue) where
  abbrev at : List ℕ → PathValue
  at name = below folder (name ∷ [])

  abbrev Flat : Contents → Type 0
  Flat c = (name : List ℕ) → NoFolder (entry_at c (at name))

  record IsFlat (r : Result Contents FileFault) : Type 0 where
    left : Contents
    is : r ≡ Ok left
    flat : Flat left

  at_some : (name : List ℕ) → 0 < length (at name).parts
  at_some name = omega (arith, length-append folder.parts (name ∷ []))

  gone_flat : (c : Contents) (name : List ℕ) → Flat c → Flat (remove c (at name))
  gone_flat c name flat other = same_or_other (at other) (at name)
      (λ e. subst NoFolder (sym (ap (entry_at (remove c (at name))) e ∙ entry-removed c (at name) ∙ rootless (at name).parts (at_some name))) tt)
      (λ n. subst NoFolder (sym (entry-removed_other c (at name) (at other) n)) (flat other))

  one_flat : (deeper : ℕ) (name : List ℕ) (c : Contents) → Flat c → IsFlat (entry_cleared (suc deeper) folder name c)
  unfolding entry_cleared file_removed
  one_flat deeper name c flat = by (entry_at c (at name)) (flat name)
    where
      by : (o : Option Entry) → NoFolder o
          → IsFlat (given (full_asked (at name) o) (λ full. if full then cleared_by (entry_cleared deeper (at name)) (at name) c else given (file_asked (at name) o) (without (at name) c)))
      by None fine = record { left = c; is = refl; flat = flat }
      by (Some (FolderEntry bad)) fine = absurd fine
      by (Some (FileEntry bytes)) fine = record { left = remove c (at name); is = refl; flat = gone_flat c name flat }
      by (Some LinkEntry) fine = absurd fine

  turn_flat : (deeper : ℕ) (names : List (List ℕ)) (c : Contents) → Flat c → IsFlat (in_turn (entry_cleared (suc deeper) folder) names c)
  unfolding in_turn
  turn_flat deeper [] c flat = record { left = c; is = refl; flat = flat }
  turn_flat deeper (name ∷ names) c flat =
      let one = one_flat deeper name c flat in
      let more = turn_flat deeper names one.left one.flat in
      record { left = more.left; is = ap (λ r. given r (in_turn (entry_cleared (suc deeper) folder) names)) one.is ∙ more.is; flat = more.flat }

  abbrev steps : ℕ → Contents → Result Contents FileFault
  steps n c = emptied (entry_cleared n folder) folder (names_in c folder) c

  emptied_is : (n : ℕ) (c : Contents) → 0 < n → Flat c → (d : Contents) × (steps n c ≡ Ok d)
  emptied_is zero c some flat = absurd (omega (arith, some))
  emptied_is (suc deeper) c some flat =
      let turn = turn_flat deeper (names_in c folder) c flat in
      (remove turn.left folder, ap (λ r. given r (λ d. Ok (remove d folder))) turn.is)

  pub flat-removed : (c : Contents) → entry_at c folder ≡ Some (FolderEntry false) → length folder.parts < 64 → Flat c → (d : Contents) × (tree_removed folder c ≡ Ok d)
  unfolding tree_removed
  flat-removed c there short flat =
      let deeper : ℕ = 64 - length folder.parts in
      let done = emptied_is deeper c (omega (arith, short)) flat in (
        done.0,
        ap (λ o. given (folder_asked folder o) (λ here. if here then folder_cleared deeper folder c else Ok c)) there
            ∙ ap (λ o. given (names_asked c folder o) (λ names. emptied (entry_cleared deeper folder) folder names c)) there
            ∙ done.1,
      )

-- ---- the folder of copies is one

sized_file : (size : ℕ) (o : Option Entry) → is_sized size o ≡ true → NoFolder o
sized_file size None is = tt
sized_file size (Some (FolderEntry bad)) is = absurd (true≢false (sym is))
sized_file size (Some (FileEntry bytes)) is = tt
sized_file size (Some LinkEntry) is = absurd (true≢false (sym is))

module _ (root : PathValue) (c d : Contents) where
  copy_file : (files : ℕ) (list : List Listed) → All (IsFound c) list → AreCopied root c d files list → (number : ℕ) → files ≤ number → number < files_after files list → NoFolder (entry_at d (shadow_at root number))
  copy_file files [] found copied number least most = absurd (omega (arith, least, most))
  copy_file files (Folder path ∷ more) found copied number least most = copy_file files more (All-tail (IsFound c) _ more found) copied.1 number least most
  copy_file files (Page path size ∷ more) found copied number least most = copy_file files more (All-tail (IsFound c) _ more found) copied.1 number least most
  copy_file files (File path size ∷ more) found copied number least most = by (files == number) refl (λ later. copy_file (suc files) more (All-tail (IsFound c) _ more found) copied.1 number later most)
    where
      by : (t : Bool) → (files == number) ≡ t → (suc files ≤ number → NoFolder (entry_at d (shadow_at root number))) → NoFolder (entry_at d (shadow_at root number))
      by true is more_files =
          let same : files ≡ number = grind (arith, nat_tests, is) in
          subst (λ n. NoFolder (entry_at d (shadow_at root n))) same (subst NoFolder (sym copied.0) (sized_file size (entry_at c path) (All-head (IsFound c) (File path size) more found)))
      by false is more_files = more_files (grind (arith, nat_tests, is, least))

  module _ (listed : List Listed) (found : All (IsFound c) listed) (copies : HasCopies root listed c d) where
    copies_flat : (name : List ℕ) → NoFolder (entry_at d (below (shadow_folder root) (name ∷ [])))
    copies_flat name = by (entry_at d (below (shadow_folder root) (name ∷ []))) refl
      where
        path : PathValue
        path = below (shadow_folder root) (name ∷ [])

        by : (o : Option Entry) → entry_at d path ≡ o → NoFolder o
        by None is = tt
        by (Some v) is = ⊎_elim
            (λ same. absurd (omega (arith, ap (λ (p : PathValue). length p.parts) same, length-append (shadow_folder root).parts (name ∷ []))))
            (λ (copy : IsCopy root (files_after 0 listed) path).
            subst NoFolder (sym (ap (entry_at d) copy.2) ∙ is) (copy_file 0 listed found copies.copied copy.0 (omega arith) copy.1))
            (copies.only path (held-above (shadow_folder root) name path (held-own path)) (ap is_some is))

    -- so where they stand they are removed
    pub copies-removed : (x : Contents) → length root.parts ≤ 61 → ((path : PathValue) → is_laid_at root path ≡ true → entry_at x path ≡ entry_at d path) → (y : Contents) × (tree_removed (shadow_folder root) x ≡ Ok y)
    copies-removed x room kept =
        flat-removed (shadow_folder root) x
        (kept (shadow_folder root) (laid (shadow_folder root) (held-own (shadow_folder root))) ∙ copies.folder)
        (omega (arith, room, length-append root.parts (codes "pg_walreplay.shadow" ∷ [])))
        (λ name. subst NoFolder (sym (kept (below (shadow_folder root) (name ∷ [])) (laid (below (shadow_folder root) (name ∷ [])) (held-above (shadow_folder root) name (below (shadow_folder root) (name ∷ [])) (held-own (below (shadow_folder root) (name ∷ []))))))) (copies_flat name))
      where
        right : (a b : Bool) → b ≡ true → (a || b) ≡ true
        right true b e = refl
        right false b e = e

        laid : (path : PathValue) → is_held (shadow_folder root) path ≡ true → is_laid_at root path ≡ true
        laid path held = right (path_eq path (mark_of root)) (is_held (shadow_folder root) path) held
