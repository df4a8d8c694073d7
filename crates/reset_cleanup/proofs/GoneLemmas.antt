-- Files that are removed one after another: each is one still when those before it are gone.
use Rattle.std.proofs.Common.{◌≡◌, ◌≢◌, Bool, true, false, ◌||◌, List, [], ◌∷◌, map, Option, None, Some, refl, sym, ap, ◌∙◌, subst, true≢false}
use Rattle.std.specs.FinMap.{remove}
use Rattle.std.specs.List.{AllByRecursion, list_any}
use Rattle.cluster_tree.specs.PathValue.{PathValue}
use Rattle.cluster_tree.specs.PathOrder.{path_eq}
use Rattle.cluster_tree.specs.Contents.{Contents, entry_at, is_file, or_root}
use Rattle.cluster_tree.specs.Change.{Removes, all_changed, first_refusal, is_on, or_next, refusal_of}
use Rattle.cluster_tree.proofs.ChangeLemmas.{changed-elsewhere}
use Rattle.cluster_tree.proofs.ContentsLemmas.{entry-removed, entry-removed_other}
use Rattle.cluster_tree.proofs.OrderLemmas.{path_eq-other, path_eq-same}
use Rattle.cluster_tree.specs.declared.tree.TreeFault.{TreeFault}
use Rattle.reset_cleanup.proofs.FileLemmas.{file_unrefused}

-- each of these is a file
abbrev pub AreFiles : Contents → List PathValue → Type 0
AreFiles c paths = AllByRecursion (λ p. is_file (entry_at c p) ≡ true) paths

-- none stands twice
abbrev pub AreApart : List PathValue → Type 0
AreApart [] = Unit {0}
AreApart (x ∷ xs) = AllByRecursion (λ y. y ≢ x) xs × AreApart xs

pub files-kept : (c d : Contents) (paths : List PathValue) → AllByRecursion (λ p. entry_at d p ≡ entry_at c p) paths → AreFiles c paths → AreFiles d paths
files-kept c d [] same files = tt
files-kept c d (p ∷ paths) same files = (ap is_file same.0 ∙ files.0, files-kept c d paths same.1 files.1)

others : (c : Contents) (x : PathValue) (xs : List PathValue) → AllByRecursion (λ y. y ≢ x) xs → AllByRecursion (λ p. entry_at (remove c x) p ≡ entry_at c p) xs
others c x [] off = tt
others c x (y ∷ xs) off = (entry-removed_other c x y off.0, others c x xs off.1)

unrefused : (o : Option TreeFault) → or_next o None ≡ None → o ≡ None
unrefused None e = refl
unrefused (Some f) e = e

pub removals-unrefused : (c : Contents) (paths : List PathValue) → AreApart paths → AreFiles c paths → first_refusal c (map Removes paths) ≡ None
removals-unrefused c [] apart files = refl
removals-unrefused c (x ∷ xs) apart files =
    ap (λ o. or_next o (first_refusal (remove c x) (map Removes xs))) (unrefused (refusal_of c (Removes x)) (file_unrefused c x files.0))
    ∙ removals-unrefused (remove c x) xs apart.1 (files-kept c (remove c x) xs (others c x xs apart.0) files.1)

on_removals : (p : PathValue) (paths : List PathValue) → list_any (is_on p) (map Removes paths) ≡ list_any (path_eq p) paths
on_removals p [] = refl
on_removals p (x ∷ xs) = ap (λ b. path_eq p x || b) (on_removals p xs)

-- another path holds what it held
pub removals-elsewhere : (c : Contents) (paths : List PathValue) (p : PathValue) → list_any (path_eq p) paths ≡ false → entry_at (all_changed c (map Removes paths)) p ≡ entry_at c p
removals-elsewhere c paths p off = changed-elsewhere c (map Removes paths) p (on_removals p paths ∙ off)

pub none-of : (p : PathValue) (xs : List PathValue) → AllByRecursion (λ x. x ≢ p) xs → list_any (path_eq p) xs ≡ false
none-of p [] off = refl
none-of p (x ∷ xs) off = ap (λ b. b || list_any (path_eq p) xs) (path_eq-other p x (λ e. off.0 (sym e))) ∙ none-of p xs off.1

-- and each of these is gone
pub removals-gone : (c : Contents) (paths : List PathValue) (p : PathValue) → AreApart paths → list_any (path_eq p) paths ≡ true → entry_at (all_changed c (map Removes paths)) p ≡ or_root p.parts None
removals-gone c [] p apart among = absurd (true≢false (sym among))
removals-gone c (x ∷ xs) p apart among =
    elim (path_eq p x) as (λ (b : Bool). path_eq p x ≡ b → entry_at (all_changed (remove c x) (map Removes xs)) p ≡ or_root p.parts None) [
      | true ↦ λ here.
          let same : p ≡ x = path_eq-same p x here in
          removals-elsewhere (remove c x) xs p (subst (λ q. list_any (path_eq q) xs ≡ false) (sym same) (none-of x xs apart.0))
          ∙ ap (λ q. entry_at (remove c x) q) same ∙ entry-removed c x ∙ ap (λ (q : PathValue). or_root q.parts None) (sym same)
      | false ↦ λ off. removals-gone (remove c x) xs p apart.1 (sym (ap (λ b. b || list_any (path_eq p) xs) off) ∙ among)
    ] refl
