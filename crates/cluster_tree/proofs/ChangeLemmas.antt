-- What changes leave, path by path.
use Rattle.std.proofs.Common.{◌≡◌, ◌≢◌, Bool, true, false, cond, ◌||◌, List, [], ◌∷◌, ◌++◌, filter, fold, Some, refl, ap, sym, ◌∙◌, true≢false}
use Rattle.std.specs.List.{list_any}
use Rattle.std.specs.FinMap.{insert, remove}
use Rattle.layout.specs.Splice.{splice}
use Rattle.cluster_tree.specs.PathValue.{PathValue}
use Rattle.cluster_tree.specs.PathOrder.{path_eq}
use Rattle.cluster_tree.proofs.OrderLemmas.{path_eq-same, path_eq-own}
use Rattle.cluster_tree.specs.Contents.{Contents, FileEntry, FolderEntry, entry_at}
use Rattle.cluster_tree.specs.Tree.{written, shortened, bytes_in}
use Rattle.cluster_tree.specs.Change.{Change, Writes, Cuts, MakesFile, MakesFolder, Removes, Syncs, changed_by, all_changed, is_on, entry_after}
use Rattle.cluster_tree.proofs.ContentsLemmas.{entry-put, entry-put_other, entry-removed, entry-removed_other}

-- what a change leaves at its own path
entry_here : (c : Contents) (x : Change) (p : PathValue) → is_on p x ≡ true → entry_at (changed_by c x) p ≡ entry_after (entry_at c p) x
entry_here c (Writes path at bytes) p on =
    let e = path_eq-same p path on in
    ap (entry_at (written c path at bytes)) e ∙ entry-put c path _ ∙ ap (λ q. Some (FileEntry (splice (bytes_in (entry_at c q)) at bytes))) (sym e)
entry_here c (Cuts path size) p on =
    let e = path_eq-same p path on in
    ap (entry_at (shortened c path size)) e ∙ entry-put c path _ ∙ ap (λ q. entry_after (entry_at c q) (Cuts path size)) (sym e)
entry_here c (MakesFile path) p on = ap (entry_at (insert c path (FileEntry []))) (path_eq-same p path on) ∙ entry-put c path _
entry_here c (MakesFolder path) p on = ap (entry_at (insert c path (FolderEntry false))) (path_eq-same p path on) ∙ entry-put c path _
entry_here c (Removes path) p on = ap (entry_at (remove c path)) (path_eq-same p path on) ∙ entry-removed c path
entry_here c Syncs p on = absurd (true≢false (sym on))

apart : (p path : PathValue) → path_eq p path ≡ false → p ≢ path
apart p path off = λ same. true≢false (sym (path_eq-own p) ∙ ap (path_eq p) same ∙ off)

-- and at every other
entry_other : (c : Contents) (x : Change) (p : PathValue) → is_on p x ≡ false → entry_at (changed_by c x) p ≡ entry_at c p
entry_other c (Writes path at bytes) p off = entry-put_other c path p _ (apart p path off)
entry_other c (Cuts path size) p off = entry-put_other c path p _ (apart p path off)
entry_other c (MakesFile path) p off = entry-put_other c path p _ (apart p path off)
entry_other c (MakesFolder path) p off = entry-put_other c path p _ (apart p path off)
entry_other c (Removes path) p off = entry-removed_other c path p (apart p path off)
entry_other c Syncs p off = refl

pub changed-pointwise : (c : Contents) (xs : List Change) (p : PathValue) → entry_at (all_changed c xs) p ≡ fold entry_after (entry_at c p) (filter (is_on p) xs)
changed-pointwise c [] p = refl
changed-pointwise c (x ∷ xs) p =
    let rest = filter (is_on p) xs in
    changed-pointwise (changed_by c x) xs p
    ∙ (elim (is_on p x) as (λ b. is_on p x ≡ b → fold entry_after (entry_at (changed_by c x) p) rest ≡ fold entry_after (entry_at c p) (cond b (x ∷ rest) rest)) [
      | true ↦ λ on. ap (λ o. fold entry_after o rest) (entry_here c x p on)
      | false ↦ λ off. ap (λ o. fold entry_after o rest) (entry_other c x p off)
    ] refl)

neither : (a b : Bool) → (a || b) ≡ false → (a ≡ false) × (b ≡ false)
neither true b e = absurd (true≢false e)
neither false b e = (refl, e)

pub changed-elsewhere : (c : Contents) (xs : List Change) (p : PathValue) → list_any (is_on p) xs ≡ false → entry_at (all_changed c xs) p ≡ entry_at c p
changed-elsewhere c [] p e = refl
changed-elsewhere c (x ∷ xs) p e = let two = neither _ _ e in changed-elsewhere (changed_by c x) xs p two.1 ∙ entry_other c x p two.0

pub changed-in_turn : (c : Contents) (xs ys : List Change) → all_changed c (xs ++ ys) ≡ all_changed (all_changed c xs) ys
changed-in_turn c [] ys = refl
changed-in_turn c (x ∷ xs) ys = changed-in_turn (changed_by c x) xs ys
