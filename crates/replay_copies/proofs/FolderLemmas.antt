-- The folder of copies, made anew.
use Rattle.std.proofs.Common.{◌≡◌, ℕ, ◌+◌, ◌<◌, true, false, length, Option, None, Some, Result, Ok, Err, OnOk, IfErr, refl, ap, sym, ◌∙◌, subst, inl, inr, true≢false, arith}
use Rattle.std.specs.FinMap.{insert}
use Rattle.cluster_tree.specs.Apart.{is_held}
use Rattle.cluster_tree.specs.Contents.{Contents, Entry, FileEntry, FolderEntry, IsTree, LinkEntry, entry_at, is_folder}
use Rattle.cluster_tree.specs.PathValue.{PathValue, front}
use Rattle.cluster_tree.specs.declared.file_fault.FileFault.{FileFault}
use Rattle.cluster_tree.proofs.ContentsLemmas.{entry-put, entry-put_other}
use Rattle.file_edits.specs.Answers.{Does}
use Rattle.file_edits.specs.Asking.{folder_asked, root_refusal}
use Rattle.file_edits.specs.Clearing.{tree_removed}
use Rattle.file_edits.specs.Edits.{way_made}
use Rattle.file_edits.proofs.ClearLemmas.{tree-elsewhere, tree-empty}
use Rattle.file_edits.proofs.WayLemmas.{made-new, way-begun, way-end, way-more}
use Rattle.stored_replay.specs.Shadows.{shadow_at, shadow_folder}
use Rattle.replay_copies.specs.Copying.{IsEmptied}
use Rattle.replay_copies.specs.Left.{IsKept}
use Rattle.replay_copies.proofs.PathLemmas.{copy-size, folder-front, folder-is_held, folder-size, root-off}

pub folder-unrefused : (root : PathValue) (o : Option Entry) → is_folder o ≡ true → root_refusal root o ≡ None
folder-unrefused root None e = absurd (true≢false (sym e))
folder-unrefused root (Some (FolderEntry bad)) e = refl
folder-unrefused root (Some (FileEntry bytes)) e = absurd (true≢false (sym e))
folder-unrefused root (Some LinkEntry) e = absurd (true≢false (sym e))

module _ (root : PathValue) (c d : Contents) (tree : IsTree d) (folder : is_folder (entry_at c root) ≡ true) (removed : tree_removed (shadow_folder root) c ≡ Ok d) where
  some : 0 < length (shadow_folder root).parts
  some = omega (arith, folder-size root)

  gone : (q : PathValue) → is_held (shadow_folder root) q ≡ true → entry_at d q ≡ None
  gone q held = tree-empty (shadow_folder root) c d q tree some removed held

  absent : entry_at d (shadow_folder root) ≡ None
  absent = gone (shadow_folder root) (folder-is_held root)

  root-there : is_folder (entry_at d root) ≡ true
  root-there = ap is_folder (tree-elsewhere (shadow_folder root) c d root removed (root-off root)) ∙ folder

  abbrev n : ℕ
  n = length root.parts + 1

  abbrev first : PathValue
  first = shadow_at root 0

  abbrev anew : Contents
  anew = insert d (shadow_folder root) (FolderEntry false)

  pub way-is : way_made root first d ≡ Ok anew
  way-is =
      way-begun root first d (folder-unrefused root (entry_at d root) root-there)
      ∙ way-more n (length first.parts) first d anew (omega (arith, copy-size root 0))
      (made-new (front n first) d (ap (λ p. folder_asked (front n first) (entry_at d p)) (folder-front root 0) ∙ ap (folder_asked (front n first)) absent)
      ∙ ap (λ p. Ok (insert d p (FolderEntry false))) (folder-front root 0))
      ∙ way-end (n + 1) (length first.parts) first anew (omega (arith, copy-size root 0))

  anew-emptied : IsEmptied root anew
  anew-emptied = record {
    folder = entry-put d (shadow_folder root) (FolderEntry false);
    none = λ q held other. entry-put_other d (shadow_folder root) q (FolderEntry false) other ∙ gone q held;
  }

  pub is-emptied : (e : Contents) (r : Result (Unit {0}) FileFault) → Does (way_made root first d) e r → OnOk r (IsEmptied root e)
  is-emptied e (Ok u) done = let same : anew ≡ e = let both = sym way-is ∙ done in cc in subst (IsEmptied root) same anew-emptied
  is-emptied e (Err f) done = tt

  pub is-free : (e : Contents) (r : Result (Unit {0}) FileFault) → Does (way_made root first d) e r → IfErr r (IsKept root c)
  is-free e (Ok u) done = tt
  is-free e (Err f) (inl free) = inl free
  is-free e (Err f) (inr refused) = let both = sym way-is ∙ refused in absurd cc
