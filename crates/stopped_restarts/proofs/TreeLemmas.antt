-- With the mark and the copies laid, a tree is one still.
use Rattle.std.proofs.Common.{◌≡◌, ◌⊎◌, ℕ, ◌-◌, ◌≤◌, Bool, true, false, ◌||◌, List, [], ◌∷◌, codes, decimal, length, take, Option, None, Some, is_some, inl, inr, refl, ap, sym, ◌∙◌, true≢false, arith}
use Rattle.std.proofs.lemmas.List.{length-take, take-take}
use Rattle.std.specs.FinMap.{get}
use Rattle.cluster_tree.specs.Apart.{is_held}
use Rattle.cluster_tree.specs.Contents.{Contents, Entry, FileEntry, FolderEntry, IsTree, LinkEntry, entry_at, is_file, is_folder, or_root, parent}
use Rattle.cluster_tree.specs.PathOrder.{path_eq}
use Rattle.cluster_tree.specs.PathValue.{PathValue, path_of}
use Rattle.cluster_tree.proofs.HoldLemmas.{held-holds, holds-held}
use Rattle.cluster_tree.proofs.OrderLemmas.{path_eq-same}
use Rattle.replay_copies.specs.Ended.{StandsLaid}
use Rattle.replay_copies.specs.Laid.{IsCopy, is_laid_at, mark_of}
use Rattle.replay_copies.proofs.BeginLemmas.{parent_is}
use Rattle.replay_copies.proofs.PathLemmas.{copy-below}
use Rattle.replay_list.specs.Lines.{files_after}
use Rattle.replay_list.specs.declared.listed.Listed.{Listed}
use Rattle.restart_laws.proofs.ListedLemmas.{root-not_laid}
use Rattle.storage_laws.proofs.SweepLemmas.{parent-is}
use Rattle.stored_replay.specs.Shadows.{shadow_folder}

-- ---- what is there lies in a folder

some_entry : (parts : List (List ℕ)) (o : Option Entry) → is_some o ≡ true → is_some (or_root parts o) ≡ true
some_entry parts None there = absurd (true≢false (sym there))
some_entry parts (Some v) there = refl

above-in : (c : Contents) → IsTree c → (absolute : Bool) (parts : List (List ℕ)) (o : Option Entry) → get c (path_of absolute parts) ≡ o → is_some (or_root parts o) ≡ true
    → is_folder (entry_at c (parent (path_of absolute parts))) ≡ true
above-in c tree absolute parts (Some v) is there = tree (path_of absolute parts) (ap is_some is)
above-in c tree absolute [] None is there = ap (λ o. is_folder (or_root [] o)) is
above-in c tree absolute (part ∷ parts) None is there = absurd (true≢false (sym there))

-- what is held with the folder that it lies in is held
held-child : (top path : PathValue) → is_held top (parent path) ≡ true → is_held top path ≡ true
held-child top path held =
    let holds = held-holds top (parent path) held in
    let k = length top.parts in
    let n = length path.parts - 1 in
    let less : k ≤ n = omega (arith, ap length holds.prefix, length-take k (take n path.parts), length-take n path.parts) in
    holds-held top path (record { mark = holds.mark; prefix = sym (take-take k n path.parts less) ∙ holds.prefix })

no_folder : (o : Option Entry) → (is_file o ≡ true) ⊎ (o ≡ None) → is_folder o ≡ true → ⊥
no_folder None is folder = true≢false (sym folder)
no_folder (Some (FolderEntry bad)) (inl is) folder = true≢false (sym is)
no_folder (Some (FolderEntry bad)) (inr is) folder = absurd cc
no_folder (Some (FileEntry bytes)) is folder = true≢false (sym folder)
no_folder (Some LinkEntry) is folder = true≢false (sym folder)

module _ (root : PathValue) (listed : List Listed) (c d : Contents) (tree : IsTree c) (rooted : is_folder (entry_at c root) ≡ true)
    (mark : (is_file (entry_at c (mark_of root)) ≡ true) ⊎ (entry_at c (mark_of root) ≡ None)) (laid : StandsLaid root listed c d) where
  root_laid : is_folder (entry_at d root) ≡ true
  root_laid = ap is_folder (laid.elsewhere root (root-not_laid root)) ∙ rooted

  by_copy : (path : PathValue) → (path ≡ shadow_folder root) ⊎ IsCopy root (files_after 0 listed) path → is_folder (entry_at d (parent path)) ≡ true
  by_copy path (inl is) = ap (λ p. is_folder (entry_at d (parent p))) is ∙ ap (λ p. is_folder (entry_at d p)) (parent-is root (codes "pg_walreplay.shadow")) ∙ root_laid
  by_copy path (inr (number, few, is)) =
      ap (λ p. is_folder (entry_at d (parent p))) (is ∙ copy-below root number) ∙ ap (λ p. is_folder (entry_at d p)) (parent-is (shadow_folder root) (decimal number)) ∙ ap is_folder laid.copies.folder

  -- what is laid is no folder of another path
  parent_off : (path : PathValue) → is_held (shadow_folder root) path ≡ false → is_folder (entry_at c (parent path)) ≡ true → is_laid_at root (parent path) ≡ false
  parent_off path off folder = by (path_eq (parent path) (mark_of root)) (is_held (shadow_folder root) (parent path)) refl refl
    where
      by : (t h : Bool) → path_eq (parent path) (mark_of root) ≡ t → is_held (shadow_folder root) (parent path) ≡ h → (t || h) ≡ false
      by true h is held = absurd (no_folder (entry_at c (mark_of root)) mark (ap (λ p. is_folder (entry_at c p)) (sym (path_eq-same (parent path) (mark_of root) is)) ∙ folder))
      by false true is held = absurd (true≢false (sym (held-child (shadow_folder root) path held) ∙ off))
      by false false is held = refl

  by_place : (path : PathValue) → is_some (entry_at d path) ≡ true → (t h : Bool) → path_eq path (mark_of root) ≡ t → is_held (shadow_folder root) path ≡ h → is_folder (entry_at d (parent path)) ≡ true
  by_place path there true h is held =
      ap (λ p. is_folder (entry_at d (parent p))) (path_eq-same path (mark_of root) is) ∙ ap (λ p. is_folder (entry_at d p)) (parent_is root) ∙ root_laid
  by_place path there false true is held = by_copy path (laid.copies.only path held there)
  by_place path there false false is off =
      let other : is_laid_at root path ≡ false = ap (λ t. t || is_held (shadow_folder root) path) is ∙ off in
      let up = above-in c tree path.absolute path.parts (get c path) refl (ap is_some (sym (laid.elsewhere path other)) ∙ there) in
      ap is_folder (laid.elsewhere (parent path) (parent_off path off up)) ∙ up

  pub laid-tree : IsTree d
  laid-tree path there = by_place path (some_entry path.parts (get d path) there) (path_eq path (mark_of root)) (is_held (shadow_folder root) path) refl refl
