-- What lies in the folders of contents.
use Rattle.std.proofs.Common.{◌≡◌, ℕ, ◌-◌, false, Bool, true, ◌&&◌, ◌||◌, nat_lt, List, [], ◌∷◌, ◌++◌, length, take, refl, ap, sym, ◌∙◌, is_some, arith, rules}
use Rattle.std.specs.FinMap.{get, keys, contains_key-keys}
use Rattle.std.specs.List.{list_any}
use Rattle.std.proofs.lemmas.Grind.{common_steps}
use Rattle.cluster_tree.specs.PathValue.{PathValue, path_of, below}
use Rattle.cluster_tree.specs.PathOrder.{path_eq}
use Rattle.cluster_tree.proofs.OrderLemmas.{path_eq-own, path_eq-same}
use Rattle.cluster_tree.specs.Contents.{Contents, parent}
use Rattle.cluster_tree.specs.Folders.{lies_in, has_child}

or_true : (b : Bool) → (b || true) ≡ true
or_true true = refl
or_true false = refl

-- a test that one of the paths passes
list_any-same : (p : PathValue → Bool) (q : PathValue) (xs : List PathValue) → list_any (path_eq q) xs ≡ true → p q ≡ true → list_any p xs ≡ true
unfolding path_eq
list_any-same p q [] e t = e
list_any-same p q (x ∷ xs) e t =
    elim (path_eq q x) as (λ b. path_eq q x ≡ b → (b || list_any (path_eq q) xs) ≡ true → (p x || list_any p xs) ≡ true) [
      | true ↦ λ same _. ap (λ b. b || list_any p xs) (ap p (sym (path_eq-same q x same)) ∙ t)
      | false ↦ λ _ later. ap (λ b. p x || b) (list_any-same p q xs later t) ∙ or_true (p x)
    ] refl e

-- a test that the path of an entry passes
pub keys-any : (c : Contents) (p : PathValue → Bool) (q : PathValue) → is_some (get c q) ≡ true → p q ≡ true → list_any p (keys c) ≡ true
unfolding path_eq
keys-any c p q there t = list_any-same p q (keys c) (sym (contains_key-keys c q) ∙ there) t

-- what lies in a folder makes it one that something lies in
pub has_child-there : (c : Contents) (folder q : PathValue) → is_some (get c q) ≡ true → lies_in folder q ≡ true → has_child c folder ≡ true
has_child-there c folder q there inside = keys-any c (lies_in folder) q there inside

some_parts : (parts : List (List ℕ)) (n : List ℕ) → nat_lt 0 (length (parts ++ n ∷ [])) ≡ true
some_parts parts n = grind (arith, rules, common_steps)

front : (parts : List (List ℕ)) (n : List ℕ) → take (length (parts ++ n ∷ []) - 1) (parts ++ n ∷ []) ≡ parts
front parts n = grind (arith, common_steps)

-- a name in a folder lies in it
pub lies_in-below : (folder : PathValue) (n : List ℕ) → lies_in folder (below folder (n ∷ [])) ≡ true
lies_in-below folder n =
    ap (λ b. b && path_eq folder (parent (below folder (n ∷ [])))) (some_parts folder.parts n) ∙ ap (λ parts. path_eq folder (path_of folder.absolute parts)) (front folder.parts n) ∙ path_eq-own folder
