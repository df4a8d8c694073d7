-- Contents of a tree in memory are a tree, of which each entry lies in a folder.
use Rattle.std.proofs.Common.{◌≡◌, ℕ, ◌-◌, take, Bool, true, cond, List, [], ◌∷◌, length, Some, None, Result, Ok, Err, OnOk, OnErr, refl, ap, sym, ◌∙◌, subst, is_some, true≢false}
use Rattle.std.specs.FinMap.{get, insert, get-insert, empty, get-empty}
use Rattle.cluster_tree.specs.PathValue.{PathValue, path_cmp}
use Rattle.cluster_tree.specs.PathOrder.{path_eq}
use Rattle.cluster_tree.proofs.OrderLemmas.{path_cmp_total, path_eq-own, same_path}
use Rattle.cluster_tree.specs.Contents.{Contents, FolderEntry, or_root, entry_at, parent, is_folder, IsTree}
use Rattle.cluster_tree.specs.Tree.{refusal_in}
use Rattle.memory_tree.specs.Memory.{contents_of}
use Rattle.memory_tree.specs.declared.nodes.Placed.{Placed}
use Rattle.cluster_tree.proofs.TreeLemmas.{put_other, same_or_other, above_of}

-- a folder that is put where a folder was
pub folder-tree : (c : Contents) (p : PathValue) (bad : Bool) → IsTree c → is_folder (entry_at c p) ≡ true → (get c p ≡ None → parent p ≡ p) → IsTree (insert c p (FolderEntry bad))
unfolding path_eq
folder-tree c p bad tree was root q there =
    let here : get (insert c p (FolderEntry bad)) p ≡ Some (FolderEntry bad) = get-insert path_cmp_total c p (FolderEntry bad) p ∙ ap (λ b. cond b (Some (FolderEntry bad)) (get c p)) (path_eq-own p) in
    let stays : (r : PathValue) → is_folder (entry_at c r) ≡ true → is_folder (entry_at (insert c p (FolderEntry bad)) r) ≡ true = λ r f.
    same_or_other r p (λ e. ap (λ x. is_folder (entry_at (insert c p (FolderEntry bad)) x)) e ∙ ap (λ o. is_folder (or_root p.parts o)) here) (λ n. ap (λ o. is_folder (or_root r.parts o)) (put_other c p r _ n) ∙ f) in
    stays (parent q) (same_or_other q p
    (λ e. ap (λ x. is_folder (entry_at c (parent x))) e ∙ (elim (get c p) as (λ o. get c p ≡ o → is_folder (entry_at c (parent p)) ≡ true) [
      | None ↦ λ none. ap (λ x. is_folder (entry_at c x)) (root none) ∙ was
      | Some v ↦ λ some. tree p (ap is_some some)
    ] refl))
    (λ n. tree q (ap is_some (sym (put_other c p q _ n)) ∙ there)))

pub empty-tree : (c : Contents) → c ≡ empty → IsTree c
empty-tree c e path there = absurd (true≢false (sym there ∙ ap is_some (ap (λ k. get k path) e ∙ get-empty path_cmp path)))

bare_parts : (parts : List (List ℕ)) → is_folder (or_root parts None) ≡ true → take (length parts - 1) parts ≡ parts
bare_parts [] f = refl
bare_parts (part ∷ parts) f = absurd (true≢false (sym f))

-- a folder that comes to hold a bad name
pub bad_name-tree : (c : Contents) (p : PathValue) → IsTree c → refusal_in (entry_at c p) ≡ None → IsTree (insert c p (FolderEntry true))
bad_name-tree c p tree e =
    let was : is_folder (entry_at c p) ≡ true = above_of (entry_at c p) e in
    folder-tree c p true tree was (λ none. same_path (parent p) p refl (bare_parts p.parts (ap (λ o. is_folder (or_root p.parts o)) (sym none) ∙ was)))

-- nodes that were changed, or stayed as they were
pub set-tree : {A E : Type 0} (r : Result A E) (xs ys : List Placed) (e : Contents) → OnOk r (contents_of ys ≡ e) → OnErr r (ys ≡ xs) → IsTree (contents_of xs) → IsTree e → IsTree (contents_of ys)
set-tree (Ok v) xs ys e set kept tree new = subst IsTree (sym set) new
set-tree (Err f) xs ys e set kept tree new = subst IsTree (sym (ap contents_of kept)) tree
