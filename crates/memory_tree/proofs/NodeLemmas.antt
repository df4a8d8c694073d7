-- The nodes of a tree in memory, as its contents.
use Rattle.std.proofs.Common.{◌≡◌, ◌≢◌, ℕ, zero, suc, ◌<◌, Bool, true, false, cond, not, List, [], ◌∷◌, ◌++◌, map, filter, take, length, set, get_or, Option, Some, None, refl, ap, sym, ◌∙◌, subst, arith}
use Rattle.std.proofs.lemmas.List.{map-append}
use Rattle.std.proofs.Math.Seq.{map-set_same}
use Rattle.std.specs.FinMap.{get, insert, remove, find, from_entries, get-from_entries, get-insert, get-remove, same_map, from_entries_push}
use Rattle.cluster_tree.specs.PathValue.{PathValue, path_cmp}
use Rattle.cluster_tree.specs.Contents.{Entry, or_root, FileEntry}
use Rattle.layout.specs.Splice.{splice}
use Rattle.cluster_tree.specs.Tree.{written, shortened, bytes_in}
use Rattle.memory_tree.specs.Memory.{pair_of, entry_of, contents_of, IsPlace}
use Rattle.memory_tree.specs.declared.nodes.Placed.{Placed}
use Rattle.cluster_tree.specs.PathOrder.{path_eq}
use Rattle.cluster_tree.proofs.OrderLemmas.{path_cmp_total, path_cmp-IsAntisymmetric, path_eq-own, path_eq-same, path_eq-other}

pub get-contents_of : (xs : List Placed) (q : PathValue) → get (contents_of xs) q ≡ find path_cmp q (map pair_of xs)
get-contents_of xs q = get-from_entries path_cmp_total _ q

some_first : {A : Type 0} (b : Bool) (x : A) (rest : Option A) → cond b (Some x) rest ≡ None → (b ≡ false) × (rest ≡ None)
some_first true x rest e = absurd (subst (λ o. elim o as (λ _. Type 0) [ None ↦ ⊥ | Some _ ↦ Unit {0} ]) e tt)
some_first false x rest e = (refl, e)

find_here : (xs : List Placed) (i : ℕ) (q : PathValue) (d : Placed) → i < length xs → find path_cmp q (map pair_of (take i xs)) ≡ None → (get_or xs i d).path ≡ q
    → find path_cmp q (map pair_of xs) ≡ Some (entry_of (get_or xs i d).node)
unfolding path_eq
find_here [] i q d l none e = absurd (omega (arith, l))
find_here (x ∷ xs) zero q d l none e = ap (λ b. cond b (Some (entry_of x.node)) (find path_cmp q (map pair_of xs))) (ap (λ p. path_eq q p) e ∙ path_eq-own q)
find_here (x ∷ xs) (suc i) q d l none e =
    let two = some_first _ _ _ none in
    ap (λ b. cond b (Some (entry_of x.node)) (find path_cmp q (map pair_of xs))) two.0 ∙ find_here xs i q d (omega (arith, l)) two.1 e

pub found_here : (xs : List Placed) (i : ℕ) (q : PathValue) (d : Placed) → i < length xs → get (contents_of (take i xs)) q ≡ None → (get_or xs i d).path ≡ q
    → get (contents_of xs) q ≡ Some (entry_of (get_or xs i d).node)
found_here xs i q d l none e = get-contents_of xs q ∙ find_here xs i q d l (sym (get-contents_of _ q) ∙ none) e

none_in : (xs : List Placed) (i : ℕ) (q : PathValue) (d : Placed) → i < length xs → find path_cmp q (map pair_of (take i xs)) ≡ None → (get_or xs i d).path ≢ q
    → find path_cmp q (map pair_of (take (suc i) xs)) ≡ None
unfolding path_eq
none_in [] i q d l none n = absurd (omega (arith, l))
none_in (x ∷ xs) zero q d l none n = ap (λ b. cond b (Some (entry_of x.node)) None) (path_eq-other q x.path (λ e. n (sym e)))
none_in (x ∷ xs) (suc i) q d l none n =
    let two = some_first _ _ _ none in
    ap (λ b. cond b (Some (entry_of x.node)) (find path_cmp q (map pair_of (take (suc i) xs)))) two.0 ∙ none_in xs i q d (omega (arith, l)) two.1 n

pub none_more : (xs : List Placed) (i : ℕ) (q : PathValue) (d : Placed) → i < length xs → get (contents_of (take i xs)) q ≡ None → (get_or xs i d).path ≢ q
    → get (contents_of (take (suc i) xs)) q ≡ None
none_more xs i q d l none n = get-contents_of _ q ∙ none_in xs i q d l (sym (get-contents_of _ q) ∙ none) n

shadowed : {A : Type 0} (b : Bool) (x y z : A) → cond b x z ≡ cond b x (cond b y z)
shadowed true x y z = refl
shadowed false x y z = refl

swapped : {A : Type 0} (a b : Bool) (x y z : A) → (a ≡ true → b ≡ true → ⊥) → cond a x (cond b y z) ≡ cond b y (cond a x z)
swapped true true x y z apart = absurd (apart refl refl)
swapped true false x y z apart = refl
swapped false b x y z apart = refl

both_false : {b : Bool} → b ≡ false → b ≡ true → ⊥
both_false {b} f t = subst (λ v. elim v as (λ _. Type 0) [ true ↦ Unit {0} | false ↦ ⊥ ]) (sym t ∙ f) tt

find_set : (xs : List Placed) (i : ℕ) (k : PathValue) (y : Placed) (q : PathValue) (d : Placed) → i < length xs → find path_cmp k (map pair_of (take i xs)) ≡ None → (get_or xs i d).path ≡ k → y.path ≡ k
    → find path_cmp q (map pair_of (set xs i y)) ≡ cond (path_eq q k) (Some (entry_of y.node)) (find path_cmp q (map pair_of xs))
unfolding path_eq
find_set [] i k y q d l none here e = absurd (omega (arith, l))
find_set (x ∷ xs) zero k y q d l none here e =
    ap (λ p. cond (path_eq q p) (Some (entry_of y.node)) (find path_cmp q (map pair_of xs))) e
    ∙ shadowed (path_eq q k) (Some (entry_of y.node)) (Some (entry_of x.node)) (find path_cmp q (map pair_of xs))
    ∙ ap (λ p. cond (path_eq q k) (Some (entry_of y.node)) (cond (path_eq q p) (Some (entry_of x.node)) (find path_cmp q (map pair_of xs)))) (sym here)
find_set (x ∷ xs) (suc i) k y q d l none here e =
    let two = some_first _ _ _ none in
    ap (λ o. cond (path_eq q x.path) (Some (entry_of x.node)) o) (find_set xs i k y q d (omega (arith, l)) two.1 here e)
    ∙ swapped (path_eq q x.path) (path_eq q k) _ _ _ (λ a b. both_false two.0 (ap (λ p. path_eq p x.path) (sym (path_eq-same q k b)) ∙ a))

-- to put an entry at the first place of its path is to insert it
pub contents_of-set : (xs : List Placed) (i : ℕ) (k : PathValue) (y : Placed) (d : Placed) → i < length xs → get (contents_of (take i xs)) k ≡ None → (get_or xs i d).path ≡ k → y.path ≡ k
    → contents_of (set xs i y) ≡ insert (contents_of xs) k (entry_of y.node)
unfolding path_eq
contents_of-set xs i k y d l none here e = same_map path_cmp_total path_cmp-IsAntisymmetric _ _
    (λ q. get-contents_of _ q ∙ find_set xs i k y q d l (sym (get-contents_of _ k) ∙ none) here e
    ∙ sym (get-insert path_cmp_total _ k _ q ∙ ap (cond (path_eq q k) (Some (entry_of y.node))) (get-contents_of xs q)))

-- to push an entry whose path is new is to insert it
pub contents_of-push : (xs : List Placed) (y : Placed) → get (contents_of xs) y.path ≡ None → contents_of (xs ++ y ∷ []) ≡ insert (contents_of xs) y.path (entry_of y.node)
contents_of-push xs y none = ap (λ es. from_entries {R = path_cmp} es) (map-append pair_of xs (y ∷ [])) ∙ from_entries_push path_cmp_total path_cmp-IsAntisymmetric _ _ _ (sym (get-contents_of xs y.path) ∙ none)

pub written_at : (xs : List Placed) (i : ℕ) (k : PathValue) (y : Placed) (old bytes : List ℕ) (at : ℕ) → IsPlace xs k i → get (contents_of xs) k ≡ Some (FileEntry old)
    → y.path ≡ k → entry_of y.node ≡ FileEntry (splice old at bytes) → contents_of (set xs i y) ≡ written (contents_of xs) k at bytes
written_at xs i k y old bytes at place e path node =
    contents_of-set xs i k y y place.within place.first (place.here y) path
    ∙ ap (λ v. insert (contents_of xs) k v) (node ∙ ap (λ o. FileEntry (splice (bytes_in (or_root k.parts o)) at bytes)) (sym e))

pub pushed : (xs ys : List Placed) (k : PathValue) (y : Placed) (v : Entry) → get (contents_of xs) k ≡ None → ys ≡ xs ++ y ∷ [] → y.path ≡ k → entry_of y.node ≡ v → contents_of ys ≡ insert (contents_of xs) k v
pushed xs ys k y v none e path node =
    ap contents_of e ∙ contents_of-push xs y (ap (get (contents_of xs)) path ∙ none) ∙ ap (λ p. insert (contents_of xs) p (entry_of y.node)) path ∙ ap (insert (contents_of xs) k) node

-- a node at the first place of its path
pub set_at : (xs : List Placed) (i : ℕ) (k : PathValue) (y : Placed) → IsPlace xs k i → y.path ≡ k → contents_of (set xs i y) ≡ insert (contents_of xs) k (entry_of y.node)
set_at xs i k y place path = contents_of-set xs i k y y place.within place.first (place.here y) path

pub shortened_at : (xs : List Placed) (i : ℕ) (k : PathValue) (y : Placed) (old : List ℕ) (size : ℕ) → IsPlace xs k i → get (contents_of xs) k ≡ Some (FileEntry old)
    → y.path ≡ k → entry_of y.node ≡ FileEntry (take size old) → contents_of (set xs i y) ≡ shortened (contents_of xs) k size
shortened_at xs i k y old size place e path node =
    set_at xs i k y place path
    ∙ ap (λ v. insert (contents_of xs) k v) (node ∙ ap (λ o. FileEntry (take size (bytes_in (or_root k.parts o)))) (sym e))

-- a node that stands for the same entry
pub kept_at : (xs : List Placed) (i : ℕ) (y d : Placed) → d ≡ get_or xs i d → y.path ≡ d.path → entry_of y.node ≡ entry_of d.node → contents_of (set xs i y) ≡ contents_of xs
kept_at xs i y d here path node = ap (λ es. from_entries {R = path_cmp} es) (map-set_same pair_of xs i y d ((λ k. (path k, node k)) ∙ ap pair_of here))

either_way : {A : Type 0} (b : Bool) (x : A) → x ≡ cond b x x
either_way true x = refl
either_way false x = refl

hidden : {A : Type 0} (b : Bool) (y z : Option A) → cond b None z ≡ cond b None (cond b y z)
hidden true y z = refl
hidden false y z = refl

find_without : (k : PathValue) (xs : List Placed) (q : PathValue) → find path_cmp q (map pair_of (filter (λ x. not (path_eq x.path k)) xs)) ≡ cond (path_eq q k) None (find path_cmp q (map pair_of xs))
unfolding path_eq
find_without k [] q = either_way (path_eq q k) None
find_without k (x ∷ xs) q =
    let others : List Placed → List Placed = filter (λ y. not (path_eq y.path k)) in
    elim (path_eq x.path k) as (λ b. path_eq x.path k ≡ b → find path_cmp q (map pair_of (cond (not b) (x ∷ others xs) (others xs))) ≡ cond (path_eq q k) None (cond (path_eq q x.path) (Some (entry_of x.node)) (find path_cmp q (map pair_of xs)))) [
      | true ↦ λ same. find_without k xs q ∙ hidden (path_eq q k) _ _ ∙ ap (λ p. cond (path_eq q k) None (cond (path_eq q p) (Some (entry_of x.node)) (find path_cmp q (map pair_of xs)))) (sym (path_eq-same x.path k same))
      | false ↦ λ other. ap (cond (path_eq q x.path) (Some (entry_of x.node))) (find_without k xs q) ∙ swapped (path_eq q x.path) (path_eq q k) _ _ _ (λ a b. both_false other (ap (λ p. path_eq p k) (sym (path_eq-same q x.path a)) ∙ b))
    ] refl

-- the nodes but those of one path
pub contents_of-without : (k : PathValue) (xs ys : List Placed) → ys ≡ filter (λ x. not (path_eq x.path k)) xs → contents_of ys ≡ remove (contents_of xs) k
unfolding path_eq
contents_of-without k xs ys is = ap contents_of is ∙ same_map path_cmp_total path_cmp-IsAntisymmetric _ _
    (λ q. get-contents_of _ q ∙ find_without k xs q ∙ sym (get-remove path_cmp_total _ k q ∙ ap (cond (path_eq q k) None) (get-contents_of xs q)))
