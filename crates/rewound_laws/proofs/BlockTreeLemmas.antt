-- A tree of which a part is alike to a part of another tree, below two roots.
use Rattle.std.proofs.Common.{◌≡◌, ℕ, ◌-◌, ◌==◌, Bool, true, false, List, [], ◌∷◌, ◌++◌, length, take, drop, Option, None, Some, is_some, refl, sym, ap, ap₂, ◌∙◌, subst, append_assoc, true≢false, arith, rules}
use Rattle.std.proofs.lemmas.List.{length-append, length-take}
use Rattle.std.specs.FinMap.{get}
use Rattle.cluster_tree.specs.Apart.{is_held}
use Rattle.cluster_tree.specs.Contents.{Contents, Entry, IsTree, entry_at, is_folder, or_root, parent}
use Rattle.cluster_tree.specs.PathValue.{Holds, PathValue, below, path_of}
use Rattle.cluster_tree.proofs.HoldLemmas.{held-holds, holds-held}
use Rattle.cluster_tree.proofs.OrderLemmas.{same_path}
use Rattle.cluster_tree.proofs.RootLemmas.{held-below, holds-below}
use Rattle.file_edits.specs.Alike.{Alike, AlikeEntries, Files, Folders, Links, Neither}
use Rattle.rewind_plan.proofs.SideLemmas.{Ended, above-folder, ended, parent-of}
use Rattle.rewound_laws.proofs.AlikeDepth.{alike-there}
use Rattle.rewound_laws.proofs.AlikePairs.{root-itself}

-- ---- a tree by what stands at its paths

top_parent : (path : PathValue) → path.parts ≡ [] → parent path ≡ path
top_parent path none = same_path (parent path) path refl (ap (λ l. take (length l - 1) l) none ∙ sym none)

some_parts : (x : List ℕ) (l : List (List ℕ)) → length (x ∷ l) == 0 ≡ false
some_parts x l = grind (arith, rules)

none_left : (l : List (List ℕ)) → length l == 0 ≡ true → l ≡ []
none_left [] h = refl
none_left (x ∷ l) h = absurd (true≢false (sym h ∙ some_parts x l))

folder_some : (o : Option Entry) → is_folder o ≡ true → is_some o ≡ true
folder_some None h = absurd (true≢false (sym h))
folder_some (Some e) h = refl

-- whatever stands in a tree stands in a folder, the root in itself
pub stands-in : (c : Contents) (path : PathValue) → IsTree c → is_some (entry_at c path) ≡ true → is_folder (entry_at c (parent path)) ≡ true
stands-in c path tree there = by (get c path) refl path.parts refl there
  where
    by : (o : Option Entry) → get c path ≡ o → (parts : List (List ℕ)) → path.parts ≡ parts → is_some (or_root path.parts (get c path)) ≡ true → is_folder (entry_at c (parent path)) ≡ true
    by (Some e) is parts own h = tree path (ap is_some is)
    by None is [] own h =
        ap (λ p. is_folder (entry_at c p)) (top_parent path own) ∙ ap₂ (λ l o. is_folder (or_root l o)) own is
    by None is (part ∷ parts) own h = absurd (true≢false (sym h ∙ ap₂ (λ l o. is_some (or_root l o)) own is))

some_root : (parts : List (List ℕ)) (o : Option Entry) → is_some o ≡ true → is_some (or_root parts o) ≡ true
some_root parts None h = absurd (true≢false (sym h))
some_root parts (Some e) h = refl

-- and contents of which that is so are a tree
pub tree-by : (c : Contents) → ((path : PathValue) → is_some (entry_at c path) ≡ true → is_folder (entry_at c (parent path)) ≡ true) → IsTree c
tree-by c each path there = each path (some_root path.parts (get c path) there)

-- ---- paths below a root and elsewhere

by_held : {P : Type 0} (root path : PathValue) → (Holds root path → P) → ((Holds root path → ⊥) → P) → P
by_held {P} root path low off = by (is_held root path) refl
  where
    by : (b : Bool) → is_held root path ≡ b → P
    by true h = low (held-holds root path h)
    by false h = off (λ held. true≢false (sym (holds-held root path held) ∙ h))

-- what holds the folder of a path holds the path
holds_parent : (root path : PathValue) → Holds root (parent path) → Holds root path
holds_parent root path held = by (length path.parts == 0) refl
  where
    by : (b : Bool) → length path.parts == 0 ≡ b → Holds root path
    by true h = subst (Holds root) (top_parent path (none_left path.parts h)) held
    by false h =
        let e : Ended path.parts = ended path.parts h in
        let top : PathValue = path_of path.absolute [] in
        let whole : path ≡ below top (e.front ++ e.last ∷ []) = same_path path (below top (e.front ++ e.last ∷ [])) refl e.is in
        let up : parent path ≡ below top e.front = ap parent whole ∙ parent-of top e.front e.last in
        let more : below top e.front ≡ below root (drop (length root.parts) (below top e.front).parts) = held-below root (below top e.front) (subst (Holds root) up held) in
        let rest : List (List ℕ) = drop (length root.parts) e.front in
        let own : path ≡ below root (rest ++ e.last ∷ []) =
        same_path path (below root (rest ++ e.last ∷ [])) (ap (λ (p : PathValue). p.absolute) more)
        (e.is ∙ ap (λ l. l ++ e.last ∷ []) (ap (λ (p : PathValue). p.parts) more) ∙ append_assoc root.parts rest (e.last ∷ [])) in
        subst (Holds root) (sym own) (holds-below root (rest ++ e.last ∷ []))

-- ---- alike entries are of one kind

folder_alike : (like : List ℕ → List ℕ → Bool) (o p : Option Entry) → AlikeEntries like o p → is_folder p ≡ is_folder o
folder_alike like o p Neither = refl
folder_alike like o p (Folders bad) = refl
folder_alike like o p (Files a b is) = refl
folder_alike like o p Links = refl

-- ---- what is alike to a tree below a root, and as in a tree elsewhere, is one

pub record IsRooted (c : Contents) (root : PathValue) : Type 0 where
  pub tree : IsTree c
  pub there : is_folder (entry_at c root) ≡ true

module _ (like : List (List ℕ) → List ℕ → List ℕ → Bool) (c c' d : Contents) (root other : PathValue) (alike : Alike like d other c' root)
    (elsewhere : (path : PathValue) → (Holds root path → ⊥) → entry_at c' path ≡ entry_at c path)
    (tree : IsTree c) (other_tree : IsTree d) (there : is_folder (entry_at c root) ≡ true) (other_there : is_folder (entry_at d other) ≡ true) where
  some_as : (parts : List (List ℕ)) → is_some (entry_at c' (below root parts)) ≡ is_some (entry_at d (below other parts))
  some_as parts = sym (alike-there (like parts) (entry_at d (below other parts)) (entry_at c' (below root parts)) (alike parts))

  folder_as : (parts : List (List ℕ)) → is_folder (entry_at c' (below root parts)) ≡ is_folder (entry_at d (below other parts))
  folder_as parts = folder_alike (like parts) (entry_at d (below other parts)) (entry_at c' (below root parts)) (alike parts)

  outside : (path : PathValue) → (Holds root path → ⊥) → is_some (entry_at c' path) ≡ true → is_folder (entry_at c' (parent path)) ≡ true
  outside path off some =
      ap is_folder (elsewhere (parent path) (λ held. off (holds_parent root path held))) ∙ stands-in c path tree (sym (ap is_some (elsewhere path off)) ∙ some)

  root_folder : is_folder (entry_at c' root) ≡ true
  root_folder =
      ap (λ p. is_folder (entry_at c' p)) (sym (root-itself root)) ∙ folder_as [] ∙ ap (λ p. is_folder (entry_at d p)) (root-itself other) ∙ other_there

  shorter : length root.parts == 0 ≡ false → Holds root (parent root) → ⊥
  shorter deep held =
      let e : Ended root.parts = ended root.parts deep in
      omega (arith, ap length held.prefix, ap length e.is, length-append e.front (e.last ∷ []), length-take (length root.parts) (take (length root.parts - 1) root.parts), length-take (length root.parts - 1) root.parts)

  above_root : (b : Bool) → length root.parts == 0 ≡ b → is_folder (entry_at c' (parent root)) ≡ true
  above_root true none = ap (λ p. is_folder (entry_at c' p)) (top_parent root (none_left root.parts none)) ∙ root_folder
  above_root false deep = ap is_folder (elsewhere (parent root) (shorter deep)) ∙ stands-in c root tree (folder_some (entry_at c root) there)

  above_parts : (parts : List (List ℕ)) (b : Bool) → length parts == 0 ≡ b → is_some (entry_at c' (below root parts)) ≡ true → is_folder (entry_at c' (parent (below root parts))) ≡ true
  above_parts parts true none some =
      ap (λ l. is_folder (entry_at c' (parent (below root l)))) (none_left parts none) ∙ ap (λ p. is_folder (entry_at c' (parent p))) (root-itself root)
      ∙ above_root (length root.parts == 0) refl
  above_parts parts false deep some =
      let e : Ended parts = ended parts deep in
      ap (λ l. is_folder (entry_at c' (parent (below root l)))) e.is ∙ ap (λ p. is_folder (entry_at c' p)) (parent-of root e.front e.last)
      ∙ folder_as e.front
      ∙ above-folder d other e.front e.last other_tree (sym (some_as (e.front ++ e.last ∷ [])) ∙ ap (λ l. is_some (entry_at c' (below root l))) (sym e.is) ∙ some)

  inside : (path : PathValue) → Holds root path → is_some (entry_at c' path) ≡ true → is_folder (entry_at c' (parent path)) ≡ true
  inside path held some =
      let parts : List (List ℕ) = drop (length root.parts) path.parts in
      let own : path ≡ below root parts = held-below root path held in
      ap (λ p. is_folder (entry_at c' (parent p))) own ∙ above_parts parts (length parts == 0) refl (sym (ap (λ p. is_some (entry_at c' p)) own) ∙ some)

  pub alike-rooted : IsRooted c' root
  alike-rooted = record {
    tree = tree-by c' (λ path some. by_held root path (λ held. inside path held some) (λ off. outside path off some));
    there = root_folder;
  }
