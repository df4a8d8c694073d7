-- Paths below two roots, and which pair stands at one.
use Rattle.std.proofs.Common.{◌≡◌, ℕ, zero, suc, ◌==◌, Bool, true, false, ◌&&◌, nat_lt, List, [], ◌∷◌, ◌++◌, length, Option, None, Some, is_some, refl, sym, ap, ◌∙◌, subst, append_assoc, true≢false, arith, rules}
use Rattle.cluster_tree.specs.PathValue.{PathValue, below, path_of}
use Rattle.cluster_tree.specs.PathOrder.{path_eq}
use Rattle.cluster_tree.specs.Contents.{Contents, Entry, IsTree, entry_at, is_folder, or_root, parent}
use Rattle.cluster_tree.specs.Folders.{lies_in}
use Rattle.cluster_tree.proofs.FolderLemmas.{lies_in-below}
use Rattle.cluster_tree.proofs.OrderLemmas.{path_eq-other, path_eq-own, path_eq-same, same_path}
use Rattle.std.specs.FinMap.{get}
use Rattle.file_walk.specs.declared.entry.EntryKind.{EntryKind}
use Rattle.file_walk.specs.declared.entry.EntryKind.TheVariants as kind
use Rattle.file_walk.specs.declared.pair.Pair.{Pair}
use Rattle.rewind_plan.specs.Planned.{Between, in_source, in_target}
use Rattle.rewind_plan.specs.Sides.{IsKind, IsPaired}

-- ---- parts

same_front : (front xs ys : List (List ℕ)) → front ++ xs ≡ front ++ ys → xs ≡ ys
same_front [] xs ys e = e
same_front (x ∷ front) xs ys e = same_front front xs ys (cc e)

pub below-same : (root : PathValue) (xs ys : List (List ℕ)) → below root xs ≡ below root ys → xs ≡ ys
below-same root xs ys e = same_front root.parts xs ys (ap (λ (p : PathValue). p.parts) e)

not_zero : (n : ℕ) → suc n == 0 ≡ false
not_zero n = grind (arith, rules)

-- the last part of some
pub record Ended (parts : List (List ℕ)) : Type 0 where
  pub front : List (List ℕ)
  pub last : List ℕ
  pub is : parts ≡ front ++ last ∷ []

pub ended : (parts : List (List ℕ)) → length parts == 0 ≡ false → Ended parts
ended [] deep = absurd (true≢false deep)
ended (x ∷ []) deep = record { front = []; last = x; is = refl }
ended (x ∷ y ∷ more) deep =
    let rest = ended (y ∷ more) (not_zero (length more)) in
    record { front = x ∷ rest.front; last = rest.last; is = ap (λ l. x ∷ l) rest.is }

second : (a b : Bool) → (a && b) ≡ true → b ≡ true
second true b e = e
second false b e = absurd (true≢false (sym e))

first : (a b : Bool) → (a && b) ≡ true → a ≡ true
first true b e = refl
first false b e = absurd (true≢false (sym e))

pub parent-below : (folder : PathValue) (name : List ℕ) → parent (below folder (name ∷ [])) ≡ folder
parent-below folder name = sym (path_eq-same folder (parent (below folder (name ∷ []))) (second _ _ (lies_in-below folder name)))

-- the folder of a path below a root
pub parent-of : (root : PathValue) (front : List (List ℕ)) (last : List ℕ) → parent (below root (front ++ last ∷ [])) ≡ below root front
parent-of root front last =
    ap parent (same_path (below root (front ++ last ∷ [])) (below (below root front) (last ∷ [])) refl (sym (append_assoc root.parts front (last ∷ []))))
    ∙ parent-below (below root front) last

pub some_left : (xs : List (List ℕ)) (y : List ℕ) → length (xs ++ y ∷ []) == 0 ≡ false
some_left [] y = refl
some_left (x ∷ xs) y = not_zero (length (xs ++ y ∷ []))

deep_below : (n : ℕ) → nat_lt 0 n ≡ true → n == 0 ≡ false
deep_below zero h = absurd (true≢false (sym h))
deep_below (suc n) h = not_zero n

-- what lies right in a path has one part more
pub child-is : (root : PathValue) (parts : List (List ℕ)) (q : PathValue) → lies_in (below root parts) q ≡ true → (name : List ℕ) × (q ≡ below root (parts ++ name ∷ []))
child-is root parts q child =
    let up : below root parts ≡ parent q = path_eq-same (below root parts) (parent q) (second (nat_lt 0 (length q.parts)) (path_eq (below root parts) (parent q)) child) in
    let end = ended q.parts (deep_below (length q.parts) (first (nat_lt 0 (length q.parts)) (path_eq (below root parts) (parent q)) child)) in
    let whole : q ≡ below (path_of q.absolute []) (end.front ++ end.last ∷ []) = same_path q (below (path_of q.absolute []) (end.front ++ end.last ∷ [])) refl end.is in
    let above : below root parts ≡ path_of q.absolute end.front = up ∙ ap parent whole ∙ parent-of (path_of q.absolute []) end.front end.last in (
      end.last,
      same_path q (below root (parts ++ end.last ∷ [])) (sym (ap (λ (p : PathValue). p.absolute) above))
          (end.is ∙ ap (λ l. l ++ end.last ∷ []) (sym (ap (λ (p : PathValue). p.parts) above)) ∙ append_assoc root.parts parts (end.last ∷ [])),
    )

-- ---- what stands above something is a folder

folder_there : (root : PathValue) (parts : List (List ℕ)) (o : Option Entry) → is_some (or_root (root.parts ++ parts) o) ≡ true → length parts == 0 ≡ false → is_some o ≡ true
folder_there root parts (Some e) h deep = refl
folder_there root parts None h deep = absurd (no_parts (root.parts) parts deep h)
  where
    no_parts : (xs ys : List (List ℕ)) → length ys == 0 ≡ false → is_some (or_root (xs ++ ys) None) ≡ true → ⊥
    no_parts [] [] d e = true≢false d
    no_parts [] (y ∷ ys) d e = true≢false (sym e)
    no_parts (x ∷ xs) ys d e = true≢false (sym e)

pub above-folder : (c : Contents) (root : PathValue) (front : List (List ℕ)) (last : List ℕ) → IsTree c → is_some (entry_at c (below root (front ++ last ∷ []))) ≡ true → is_folder (entry_at c (below root front)) ≡ true
above-folder c root front last tree there =
    ap (λ p. is_folder (entry_at c p)) (sym (parent-of root front last))
    ∙ tree (below root (front ++ last ∷ [])) (folder_there root (front ++ last ∷ []) (get c (below root (front ++ last ∷ []))) there (some_left front last))

-- ---- pairs at a path

kind_one : (k l : Option EntryKind) (o : Option Entry) → IsKind k o → IsKind l o → k ≡ l
kind_one None None o a b = refl
kind_one None (Some (kind.File size)) o a b = absurd (cc (sym a ∙ b.1))
kind_one None (Some kind.Folder) o a b = absurd (cc (sym a ∙ b))
kind_one (Some (kind.File size)) None o a b = absurd (cc (sym b ∙ a.1))
kind_one (Some kind.Folder) None o a b = absurd (cc (sym b ∙ a))
kind_one (Some (kind.File size)) (Some kind.Folder) o a b = absurd (cc (sym a.1 ∙ b))
kind_one (Some kind.Folder) (Some (kind.File size)) o a b = absurd (cc (sym b.1 ∙ a))
kind_one (Some kind.Folder) (Some kind.Folder) o a b = refl
kind_one (Some (kind.File n)) (Some (kind.File m)) o a b =
    let bytes : a.0 ≡ b.0 = cc (sym a.1 ∙ b.1) in
    ap (λ size. Some (kind.File size)) (sym a.2 ∙ ap length bytes ∙ b.2)

pub kind-one : (k l : Option EntryKind) (o : Option Entry) → IsKind k o → IsKind l o → k ≡ l
kind-one k l o a b = kind_one k l o a b

pair_is : (x y : Pair) → x.path ≡ y.path → x.target ≡ y.target → x.source ≡ y.source → x ≡ y
pair_is x y p t s = ap (λ q. record { path = q; target = x.target; source = x.source }) p ∙ ap (λ k. record { path = y.path; target = k; source = x.source }) t ∙ ap (λ k. record { path = y.path; target = y.target; source = k }) s

-- at one place stands one pair
pub same-pair : (c : Contents) (w : Between) (x y : Pair) → IsPaired c w x → IsPaired c w y → in_target w x ≡ in_target w y → x ≡ y
same-pair c w x y a b same =
    let parts : x.path.parts ≡ y.path.parts = below-same w.target x.path.parts y.path.parts same in
    pair_is x y (same_path x.path y.path (a.relative ∙ sym b.relative) parts)
    (kind_one x.target y.target (entry_at c (in_target w y)) (subst (λ p. IsKind x.target (entry_at c (below w.target p))) parts a.target) b.target)
    (kind_one x.source y.source (entry_at c (in_source w y)) (subst (λ p. IsKind x.source (entry_at c (below w.source p))) parts a.source) b.source)

-- whether a pair stands at parts, below the target or by itself
pub at-below : (w : Between) (pair : Pair) (parts : List (List ℕ)) → pair.path.absolute ≡ false → path_eq (below w.target parts) (in_target w pair) ≡ path_eq (path_of false parts) pair.path
at-below w pair parts relative = by (path_eq (path_of false parts) pair.path) refl
  where
    by : (b : Bool) → path_eq (path_of false parts) pair.path ≡ b → path_eq (below w.target parts) (in_target w pair) ≡ b
    by true here = ap (λ (p : PathValue). path_eq (below w.target parts) (below w.target p.parts)) (sym (path_eq-same (path_of false parts) pair.path here)) ∙ path_eq-own (below w.target parts)
    by false other = path_eq-other (below w.target parts) (in_target w pair) (λ e.
        true≢false (sym (ap (path_eq (path_of false parts)) (sym (same_path (path_of false parts) pair.path (sym relative) (below-same w.target parts pair.path.parts e))) ∙ path_eq-own (path_of false parts)) ∙ other))

pub path-is : (pair : Pair) → pair.path.absolute ≡ false → path_of false pair.path.parts ≡ pair.path
path-is pair relative = same_path (path_of false pair.path.parts) pair.path (sym relative) refl
