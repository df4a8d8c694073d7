-- What leaves contents a tree, of which each entry lies in a folder.
use Rattle.std.proofs.Common.{◌≡◌, ◌≢◌, ℕ, suc, ◌-◌, ◌==◌, nat_lt, take, Bool, true, false, cond, ◌&&◌, ◌||◌, List, [], ◌∷◌, length, Option, Some, None, refl, ap, sym, ◌∙◌, subst, inl, inr, is_some, true≢false, arith, rules}
use Rattle.std.specs.FinMap.{get, insert, remove, get-insert, get-remove}
use Rattle.cluster_tree.specs.PathValue.{PathValue}
use Rattle.cluster_tree.specs.PathOrder.{path_eq}
use Rattle.cluster_tree.proofs.OrderLemmas.{path_cmp_total, path_eq-own, path_eq-same, path_eq-other}
use Rattle.cluster_tree.specs.Contents.{Contents, Entry, FileEntry, FolderEntry, LinkEntry, or_root, entry_at, parent, is_folder, IsTree}
use Rattle.cluster_tree.specs.Tree.{make_refusal, refusal_in, refusal_past, file_of}
use Rattle.cluster_tree.specs.Folders.{has_child, removal_refusal, remove_refusal}
use Rattle.cluster_tree.specs.Step.{Step}
use Rattle.cluster_tree.proofs.FolderLemmas.{has_child-there}
use Rattle.cluster_tree.specs.declared.tree.ChangeCall.{ChangeCall}
use Rattle.cluster_tree.specs.declared.tree.ChangeCall.TheVariants as call
use Rattle.cluster_tree.specs.declared.tree.TreeFault.{TreeFault}
use Rattle.cluster_tree.specs.declared.tree.TreeFault.TheVariants as fault

pub some_none : {A : Type 0} {x : A} {P : Type 0} → Some x ≡ None → P
some_none e = absurd (subst (λ o. elim o as (λ _. Type 0) [ None ↦ ⊥ | Some _ ↦ Unit {0} ]) e tt)

pub put_other : (c : Contents) (p q : PathValue) (v : Entry) → q ≢ p → get (insert c p v) q ≡ get c q
unfolding path_eq
put_other c p q v n = get-insert path_cmp_total c p v q ∙ ap (λ b. cond b (Some v) (get c q)) (path_eq-other q p n)

-- a path is another or not
pub same_or_other : {P : Type 0} (q p : PathValue) → (q ≡ p → P) → (q ≢ p → P) → P
unfolding path_eq
same_or_other {P} q p same other =
    elim (path_eq q p) as (λ b. path_eq q p ≡ b → P) [ true ↦ λ e. same (path_eq-same q p e) | false ↦ λ e. other (λ is. true≢false (sym (path_eq-own p) ∙ ap (λ x. path_eq x p) (sym is) ∙ e)) ] refl

-- an entry that is put where no folder was, in a folder
put-tree : (c : Contents) (p : PathValue) (v : Entry) → IsTree c → is_folder (entry_at c p) ≡ false → is_folder (entry_at c (parent p)) ≡ true → IsTree (insert c p v)
put-tree c p v tree none above q there =
    let stays : (r : PathValue) → is_folder (entry_at c r) ≡ true → is_folder (entry_at (insert c p v) r) ≡ true = λ r f.
    ap (λ o. is_folder (or_root r.parts o)) (put_other c p r v (λ e. true≢false (sym f ∙ ap (λ x. is_folder (entry_at c x)) e ∙ none))) ∙ f in
    same_or_other q p (λ e. stays (parent q) (ap (λ x. is_folder (entry_at c (parent x))) e ∙ above)) (λ n. stays (parent q) (tree q (ap is_some (sym (put_other c p q v n)) ∙ there)))

pub above_of : (o : Option Entry) → refusal_in o ≡ None → is_folder o ≡ true
above_of None e = some_none e
above_of (Some (FolderEntry _)) e = refl
above_of (Some (FileEntry _)) e = some_none e
above_of (Some LinkEntry) e = some_none e

unmade : (o : Option Entry) (a : Option TreeFault) → cond (is_some o) (Some fault.Exists) a ≡ None → (is_folder o ≡ false) × (a ≡ None)
unmade None a e = (refl, e)
unmade (Some v) a e = some_none e

-- an entry that is made where it isn't refused
pub made-tree : (c : Contents) (p : PathValue) (v : Entry) → IsTree c → make_refusal c p ≡ None → IsTree (insert c p v)
made-tree c p v tree e = let two = unmade (entry_at c p) _ e in put-tree c p v tree two.0 (above_of (entry_at c (parent p)) two.1)

file_there : (parts : List (List ℕ)) (o : Option Entry) (at : ℕ) → refusal_past (file_of (or_root parts o)) at ≡ None → (is_folder (or_root parts o) ≡ false) × (is_some o ≡ true)
file_there [] None at e = some_none e
file_there (part ∷ parts) None at e = some_none e
file_there parts (Some (FolderEntry _)) at e = some_none e
file_there parts (Some (FileEntry _)) at e = (refl, refl)
file_there parts (Some LinkEntry) at e = some_none e

-- a file that is put in the place of a file
file-tree : (c : Contents) (p : PathValue) (at : ℕ) (v : Entry) → IsTree c → refusal_past (file_of (entry_at c p)) at ≡ None → IsTree (insert c p v)
file-tree c p at v tree e = let two = file_there p.parts (get c p) at e in put-tree c p v tree two.0 (tree p two.1)

-- what isn't refused to be removed is no folder, or a folder that nothing lies in
free : (used : Bool) (o : Option Entry) → removal_refusal used o ≡ None → is_folder o ≡ true → used ≡ false
free used None e f = some_none e
free true (Some (FolderEntry true)) e f = some_none e
free true (Some (FolderEntry false)) e f = some_none e
free false (Some (FolderEntry bad)) e f = refl
free used (Some (FileEntry _)) e f = absurd (true≢false (sym f))
free used (Some LinkEntry) e f = some_none e

either_false : (a b : Bool) → (a || b) ≡ false → (a ≡ false) × (b ≡ false)
either_false true b e = absurd (true≢false e)
either_false false b e = (refl, e)

no_parts : (parts : List (List ℕ)) → nat_lt 0 (length parts) ≡ false → (length (take (length parts - 1) parts) == 0) ≡ true
no_parts [] e = refl
no_parts (part ∷ parts) e = absurd (true≢false (sym (nat_lt-suc (length parts)) ∙ e))
  where
    nat_lt-suc : (n : ℕ) → nat_lt 0 (suc n) ≡ true
    nat_lt-suc n = grind (arith, rules)

-- whatever lies right in what isn't in use is missing
in_use : (c : Contents) (p q : PathValue) → is_some (get c q) ≡ true → parent q ≡ p → (length p.parts == 0 || has_child c p) ≡ false → ⊥
unfolding path_eq
in_use c p q there up e =
    let two = either_false (length p.parts == 0) (has_child c p) e in
    elim (nat_lt 0 (length q.parts)) as (λ b. nat_lt 0 (length q.parts) ≡ b → ⊥) [
      | true ↦ λ some. true≢false (sym (has_child-there c p q there (ap (λ b. b && path_eq p (parent q)) some ∙ ap (path_eq p) up ∙ path_eq-own p)) ∙ two.1)
      | false ↦ λ none. true≢false (sym (no_parts q.parts none) ∙ ap (λ x. length x.parts == 0) up ∙ two.0)
    ] refl

removed_at : (c : Contents) (p q : PathValue) → q ≢ p → get (remove c p) q ≡ get c q
unfolding path_eq
removed_at c p q n = get-remove path_cmp_total c p q ∙ ap (λ b. cond b None (get c q)) (path_eq-other q p n)

removed_here : (c : Contents) (p q : PathValue) → q ≡ p → get (remove c p) q ≡ None
unfolding path_eq
removed_here c p q e = get-remove path_cmp_total c p q ∙ ap (λ x. cond (path_eq x p) None (get c q)) e ∙ ap (λ b. cond b None (get c q)) (path_eq-own p)

-- an entry that is removed where it isn't refused
pub removed-tree : (c : Contents) (p : PathValue) → IsTree c → remove_refusal c p ≡ None → IsTree (remove c p)
removed-tree c p tree e q there = same_or_other q p
    (λ same. absurd (true≢false (sym there ∙ ap is_some (removed_here c p q same))))
    (λ other.
    let was : is_some (get c q) ≡ true = ap is_some (sym (removed_at c p q other)) ∙ there in
    let above : is_folder (entry_at c (parent q)) ≡ true = tree q was in
    same_or_other (parent q) p
    (λ up. absurd (in_use c p q was up (free _ (entry_at c p) e (ap (λ x. is_folder (entry_at c x)) (sym up) ∙ above))))
    (λ n. ap (λ o. is_folder (or_root (parent q).parts o)) (removed_at c p (parent q) n) ∙ above))

-- each step leaves a tree
pub step-tree : (ch : ChangeCall) (c d : Contents) → IsTree c → Step ch c d → IsTree d
step-tree (call.Write path at n) c d tree (inl same) = subst IsTree (sym same) tree
step-tree (call.Write path at n) c d tree (inr torn) = subst IsTree (sym torn.is) (file-tree c path at _ tree torn.unrefused)
step-tree (call.Cut path size) c d tree (inl same) = subst IsTree (sym same) tree
step-tree (call.Cut path size) c d tree (inr cut) = subst IsTree (sym cut.is) (file-tree c path size _ tree cut.unrefused)
step-tree (call.MakeFile path) c d tree (inl same) = subst IsTree (sym same) tree
step-tree (call.MakeFile path) c d tree (inr made) = subst IsTree (sym made.1) (made-tree c path _ tree made.0)
step-tree (call.MakeFolder path) c d tree (inl same) = subst IsTree (sym same) tree
step-tree (call.MakeFolder path) c d tree (inr made) = subst IsTree (sym made.1) (made-tree c path _ tree made.0)
step-tree (call.Remove path) c d tree (inl same) = subst IsTree (sym same) tree
step-tree (call.Remove path) c d tree (inr gone) = subst IsTree (sym gone.1) (removed-tree c path tree gone.0)
step-tree call.Sync c d tree same = subst IsTree (sym same) tree
