-- The mark and the copies that are laid of the same list and the same contents are the same.
use Rattle.std.proofs.Common.{◌≡◌, ◌⊎◌, ℕ, suc, ◌<◌, ◌≤◌, Bool, true, false, ◌||◌, List, [], ◌∷◌, Option, None, Some, is_some, inl, inr, refl, ap, sym, subst, ◌∙◌, arith}
use Rattle.cluster_tree.specs.Apart.{is_held}
use Rattle.cluster_tree.specs.Contents.{Contents, Entry, entry_at}
use Rattle.cluster_tree.specs.PathOrder.{path_eq}
use Rattle.cluster_tree.specs.PathValue.{PathValue}
use Rattle.cluster_tree.proofs.OrderLemmas.{path_eq-same}
use Rattle.replay_copies.specs.Laid.{AreCopied, IsCopy, IsLaid, is_laid_at, mark_of}
use Rattle.replay_list.specs.Lines.{files_after}
use Rattle.replay_list.specs.declared.listed.Listed.{Listed}
use Rattle.replay_list.specs.declared.listed.Listed.TheVariants.{Folder, Page, File}
use Rattle.storage_laws.proofs.NumberLemmas.{by_order}
use Rattle.stored_replay.specs.Shadows.{shadow_at, shadow_folder}

module _ (root : PathValue) (listed : List Listed) (c d e : Contents) (one : IsLaid root listed c d) (two : IsLaid root listed c e) where
  copy_same : (number files : ℕ) (list : List Listed) → AreCopied root c d files list → AreCopied root c e files list → files ≤ number → number < files_after files list
      → entry_at d (shadow_at root number) ≡ entry_at e (shadow_at root number)
  copy_same number files [] first next from to = absurd (omega (arith, from, to))
  copy_same number files (Folder path ∷ more) first next from to = copy_same number files more first.1 next.1 from to
  copy_same number files (Page path size ∷ more) first next from to = copy_same number files more first.1 next.1 from to
  copy_same number files (File path size ∷ more) first next from to =
      by_order files number
      (λ less. copy_same number (suc files) more first.1 next.1 (omega (arith, less)) to)
      (λ upto. let same : files ≡ number = omega (arith, from, upto) in
      subst (λ n. entry_at d (shadow_at root n) ≡ entry_at e (shadow_at root n)) same (first.0 ∙ sym next.0))

  known : (path : PathValue) → (path ≡ shadow_folder root) ⊎ IsCopy root (files_after 0 listed) path → entry_at d path ≡ entry_at e path
  known path (inl folder) = ap (entry_at d) folder ∙ one.copies.folder ∙ sym (ap (entry_at e) folder ∙ two.copies.folder)
  known path (inr (number, few, is)) =
      ap (entry_at d) is ∙ copy_same number 0 listed one.copies.copied two.copies.copied (omega arith) few ∙ sym (ap (entry_at e) is)

  held_same : (path : PathValue) → is_held (shadow_folder root) path ≡ true → (o p : Option Entry) → entry_at d path ≡ o → entry_at e path ≡ p → entry_at d path ≡ entry_at e path
  held_same path held (Some entry) p is so = known path (one.copies.only path held (ap is_some is))
  held_same path held None (Some entry) is so = known path (two.copies.only path held (ap is_some so))
  held_same path held None None is so = is ∙ sym so

  pub laid-same : (path : PathValue) → entry_at d path ≡ entry_at e path
  laid-same path = by (path_eq path (mark_of root)) (is_held (shadow_folder root) path) refl refl
    where
      by : (t h : Bool) → path_eq path (mark_of root) ≡ t → is_held (shadow_folder root) path ≡ h → entry_at d path ≡ entry_at e path
      by true h is held =
          let mark = path_eq-same path (mark_of root) is in
          ap (entry_at d) mark ∙ one.mark ∙ sym (ap (entry_at e) mark ∙ two.mark)
      by false true is held = held_same path held (entry_at d path) (entry_at e path) refl refl
      by false false is off =
          let other : is_laid_at root path ≡ false = ap (λ t. t || is_held (shadow_folder root) path) is ∙ off in
          one.elsewhere path other ∙ sym (two.elsewhere path other)
