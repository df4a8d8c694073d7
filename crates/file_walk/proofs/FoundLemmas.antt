-- What lies right in a folder below a root, in the order of all that lies below the root, is its listing.
use Rattle.std.proofs.Common.{◌≡◌, ℕ, ◌+◌, ◌-◌, ◌<◌, Bool, true, false, cond, ◌&&◌, nat_lt, List, [], ◌∷◌, ◌++◌, length, take, drop, filter, map, get_or, refl, ap, ap₂, sym, ◌∙◌, true≢false, append_assoc, arith, rules}
use Rattle.std.proofs.lemmas.Bool.Decides.{nat_tests}
use Rattle.std.proofs.lemmas.Grind.{common_steps}
use Rattle.std.proofs.lemmas.List.{length-append, take-append-drop}
use Rattle.std.proofs.lemmas.List.Folds.{list_all-append}
use Rattle.std.proofs.Math.Seq.{take-append_seam, drop-append_seam}
use Rattle.std.specs.List.{list_all}
use Rattle.cluster_tree.specs.Contents.{Entry, parent}
use Rattle.cluster_tree.specs.Folders.{last_part, lies_in}
use Rattle.cluster_tree.specs.PathOrder.{path_eq}
use Rattle.cluster_tree.specs.PathValue.{PathValue, below, front, is_part, path_of}
use Rattle.cluster_tree.proofs.FolderLemmas.{lies_in-below}
use Rattle.cluster_tree.proofs.OrderLemmas.{path_eq-own, path_eq-same, same_path}
use Rattle.file_walk.specs.Walk.{from_root, lies_below}

both_of : (a b : Bool) → (a && b) ≡ true → (a ≡ true) × (b ≡ true)
both_of true b h = (refl, h)
both_of false b h = absurd (true≢false (sym h))

and_of : (a b : Bool) → a ≡ true → b ≡ true → (a && b) ≡ true
and_of a b h k = ap (λ x. x && b) h ∙ k

last_one : (parts : List (List ℕ)) → nat_lt 0 (length parts) ≡ true → take (length parts - 1) parts ++ get_or parts (length parts - 1) [] ∷ [] ≡ parts
last_one parts some = grind (arith, rules, common_steps, some)

-- what lies in a folder has a name there
pub name_in : (folder q : PathValue) → lies_in folder q ≡ true → q ≡ below folder (last_part q ∷ [])
name_in folder q inside =
    let two = both_of (nat_lt 0 (length q.parts)) (path_eq folder (parent q)) inside in
    let up : folder ≡ parent q = path_eq-same folder (parent q) two.1 in
    same_path _ _ (sym (ap (λ p. p.absolute) up)) (sym (last_one q.parts two.0) ∙ ap (λ p. p.parts ++ last_part q ∷ []) (sym up))

more_than : (n k : ℕ) → 0 < k → nat_lt n (n + k) ≡ true
more_than n k h = grind (arith, nat_tests)

-- what lies below a root, and is told from it on
pub told_below : (root : PathValue) (part : List ℕ) (parts : List (List ℕ)) → list_all is_part (root.parts ++ part ∷ parts) ≡ true → lies_below root (below root (part ∷ parts)) ≡ true
told_below root part parts proper =
    let size : length (root.parts ++ part ∷ parts) ≡ length root.parts + length (part ∷ parts) = length-append root.parts (part ∷ parts) in
    and_of _ _
    (and_of (nat_lt (length root.parts) (length (root.parts ++ part ∷ parts))) (path_eq root (front (length root.parts) (below root (part ∷ parts))))
    (ap (nat_lt (length root.parts)) size ∙ more_than (length root.parts) (length (part ∷ parts)) (omega arith))
    (ap (λ l. path_eq root (path_of root.absolute l)) (take-append_seam root.parts (part ∷ parts)) ∙ path_eq-own root))
    proper

pub from_below : (root : PathValue) (parts : List (List ℕ)) → from_root root (below root parts) ≡ path_of false parts
from_below root parts = ap (path_of false) (drop-append_seam root.parts parts)

-- and leads back
pub back_below : (root path : PathValue) → lies_below root path ≡ true → path ≡ below root (from_root root path).parts
back_below root path h =
    let two = both_of (nat_lt (length root.parts) (length path.parts) && path_eq root (front (length root.parts) path)) (list_all is_part path.parts) h in
    let front_of = both_of (nat_lt (length root.parts) (length path.parts)) (path_eq root (front (length root.parts) path)) two.0 in
    let same : root ≡ front (length root.parts) path = path_eq-same root (front (length root.parts) path) front_of.1 in
    same_path path (below root (drop (length root.parts) path.parts)) (sym (ap (λ p. p.absolute) same))
    (sym (take-append-drop (length root.parts) path.parts) ∙ ap (λ p. p.parts ++ drop (length root.parts) path.parts) (sym same))

module _ (root own : PathValue) (relative : own.absolute ≡ false) (proper : list_all is_part (root.parts ++ own.parts) ≡ true) where
  abbrev pub full : PathValue
  full = below root own.parts

  joined : (name : List ℕ) → below full (name ∷ []) ≡ below root (own.parts ++ name ∷ [])
  joined name = ap (path_of root.absolute) (append_assoc root.parts own.parts (name ∷ []))

  some_front : (parts : List (List ℕ)) (name : List ℕ) → list_all is_part (root.parts ++ (parts ++ name ∷ [])) ≡ true → lies_below root (below root (parts ++ name ∷ [])) ≡ true
  some_front [] name h = told_below root name [] h
  some_front (part ∷ parts) name h = told_below root part (parts ++ name ∷ []) h

  all_proper : (name : List ℕ) → is_part name ≡ true → list_all is_part (root.parts ++ (own.parts ++ name ∷ [])) ≡ true
  all_proper name h =
      ap (list_all is_part) (sym (append_assoc root.parts own.parts (name ∷ [])))
      ∙ list_all-append is_part (root.parts ++ own.parts) (name ∷ [])
      ∙ and_of _ _ proper (and_of (is_part name) true h refl)

  child_below : (name : List ℕ) → is_part name ≡ true → lies_below root (below full (name ∷ [])) ≡ true
  child_below name h = ap (lies_below root) (joined name) ∙ some_front own.parts name (all_proper name h)

  child_told : (name : List ℕ) → from_root root (below full (name ∷ [])) ≡ below own (name ∷ [])
  child_told name = ap (from_root root) (joined name) ∙ from_below root (own.parts ++ name ∷ []) ∙ ap (λ b. path_of b (own.parts ++ name ∷ [])) (sym relative)

  -- a path below the root that lies in the folder by its own path does so by its full one
  lies_full : (path : PathValue) → lies_below root path ≡ true → lies_in own (from_root root path) ≡ true → lies_in full path ≡ true
  lies_full path h k =
      let named : from_root root path ≡ below own (last_part (from_root root path) ∷ []) = name_in own (from_root root path) k in
      let whole : path ≡ below full (last_part (from_root root path) ∷ []) =
      back_below root path h ∙ ap (λ (p : PathValue). below root p.parts) named ∙ sym (joined (last_part (from_root root path))) in
      ap (lies_in full) whole ∙ lies_in-below full (last_part (from_root root path))

  abbrev pub told : List (PathValue × Entry) → List (PathValue × Entry)
  told es = map (λ (e : PathValue × Entry). (from_root root e.0, e.1)) (filter (λ (e : PathValue × Entry). lies_below root e.0) es)

  abbrev pub names_of : List (PathValue × Entry) → List (List ℕ)
  names_of es = map last_part (filter (lies_in full) (map (λ (e : PathValue × Entry). e.0) es))

  abbrev pub children_of : List (PathValue × Entry) → List PathValue
  children_of es = map (λ (x : PathValue × Entry). x.0) (filter (λ (x : PathValue × Entry). lies_in own x.0) (told es))

  is_not : (b : Bool) → (b ≡ true → ⊥) → b ≡ false
  is_not true h = absurd (h refl)
  is_not false h = refl

  -- of all that is there, the paths right in the folder are those of its names, in the same order
  pub children : (es : List (PathValue × Entry)) → list_all is_part (names_of es) ≡ true → children_of es ≡ map (λ (n : List ℕ). below own (n ∷ [])) (names_of es)
  children [] h = refl
  children (e ∷ es) h = by (children es) (lies_in full e.0) refl (lies_below root e.0) refl h
    where
      by : (list_all is_part (names_of es) ≡ true → children_of es ≡ map (λ (n : List ℕ). below own (n ∷ [])) (names_of es)) → (b : Bool) → lies_in full e.0 ≡ b → (k : Bool) → lies_below root e.0 ≡ k → list_all is_part (map last_part (cond b (e.0 ∷ filter (lies_in full) (map (λ (x : PathValue × Entry). x.0) es)) (filter (lies_in full) (map (λ (x : PathValue × Entry). x.0) es)))) ≡ true
          → map (λ (x : PathValue × Entry). x.0) (filter (λ (x : PathValue × Entry). lies_in own x.0) (map (λ (x : PathValue × Entry). (from_root root x.0, x.1)) (cond k (e ∷ filter (λ (x : PathValue × Entry). lies_below root x.0) es) (filter (λ (x : PathValue × Entry). lies_below root x.0) es))))
          ≡ map (λ (n : List ℕ). below own (n ∷ [])) (map last_part (cond b (e.0 ∷ filter (lies_in full) (map (λ (x : PathValue × Entry). x.0) es)) (filter (lies_in full) (map (λ (x : PathValue × Entry). x.0) es))))
      by rest true inside true low h =
          let two = both_of (is_part (last_part e.0)) (list_all is_part (names_of es)) h in
          let named : e.0 ≡ below full (last_part e.0 ∷ []) = name_in full e.0 inside in
          let own_is : from_root root e.0 ≡ below own (last_part e.0 ∷ []) = ap (from_root root) named ∙ child_told (last_part e.0) in
          let lies : lies_in own (from_root root e.0) ≡ true = ap (lies_in own) own_is ∙ lies_in-below own (last_part e.0) in
          ap (λ b. map (λ (x : PathValue × Entry). x.0) (cond b ((from_root root e.0, e.1) ∷ filter (λ (x : PathValue × Entry). lies_in own x.0) (told es)) (filter (λ (x : PathValue × Entry). lies_in own x.0) (told es)))) lies
          ∙ ap₂ (λ x (l : List PathValue). x ∷ l) own_is (rest two.1)
      by rest true inside false low h =
          let two = both_of (is_part (last_part e.0)) (list_all is_part (names_of es)) h in
          let named : e.0 ≡ below full (last_part e.0 ∷ []) = name_in full e.0 inside in
          absurd (true≢false (sym (ap (lies_below root) named ∙ child_below (last_part e.0) two.0) ∙ low))
      by rest false outside true low h =
          let apart : lies_in own (from_root root e.0) ≡ false = is_not (lies_in own (from_root root e.0)) (λ yes_it. true≢false (sym (lies_full e.0 low yes_it) ∙ outside)) in
          ap (λ b. map (λ (x : PathValue × Entry). x.0) (cond b ((from_root root e.0, e.1) ∷ filter (λ (x : PathValue × Entry). lies_in own x.0) (told es)) (filter (λ (x : PathValue × Entry). lies_in own x.0) (told es)))) apart
          ∙ rest h
      by rest false outside false low h = rest h
