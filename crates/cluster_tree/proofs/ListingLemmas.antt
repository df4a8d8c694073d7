-- What lies in a folder is what its one listing names.
use Rattle.std.proofs.Common.{◌≡◌, ◌↔◌, ℕ, ◌-◌, Bool, true, false, ◌&&◌, ◌||◌, nat_lt, List, [], ◌∷◌, ◌++◌, length, take, get_or, is_some, refl, ap, sym, ◌∙◌, true≢false, bytes_eq, arith, rules}
use Rattle.std.proofs.lemmas.Grind.{common_steps}
use Rattle.std.proofs.lemmas.Map.Lookups.{btree_set_from_contains}
use Rattle.std.proofs.lemmas.Map.Text.{is_eq-slice_cmp}
use Rattle.std.specs.BTreeMap.{is_at}
use Rattle.std.specs.Ordering.{nat_cmp}
use Rattle.std.specs.Cmp.Lexicographic.{slice_cmp, nat_list_cmp_total}
use Rattle.std.specs.FinMap.{get, keys, contains_key-keys, slice_cmp-IsAntisymmetric, nat_cmp-IsAntisymmetric}
use Rattle.std.specs.List.{list_any}
use Rattle.cluster_tree.specs.PathValue.{PathValue, below}
use Rattle.cluster_tree.specs.PathOrder.{path_eq}
use Rattle.cluster_tree.proofs.OrderLemmas.{path_eq-own, path_eq-same, same_path}
use Rattle.cluster_tree.specs.Contents.{Contents, parent}
use Rattle.cluster_tree.specs.Folders.{lies_in, has_child, IsListing}
use Rattle.cluster_tree.proofs.FolderLemmas.{has_child-there, lies_in-below}

either : (a b : Bool) {P : Type 0} → (a || b) ≡ true → (a ≡ true → P) → (b ≡ true → P) → P
either true b e first second = first refl
either false b e first second = second e

both : (a b : Bool) → (a && b) ≡ true → (a ≡ true) × (b ≡ true)
both true b e = (refl, e)
both false b e = absurd (true≢false (sym e))

or_true : (b : Bool) → (b || true) ≡ true
or_true true = refl
or_true false = refl

-- a path that passes a test, where one does
passing : (test : PathValue → Bool) (ks : List PathValue) → list_any test ks ≡ true → (q : PathValue) × (list_any (path_eq q) ks ≡ true) × (test q ≡ true)
passing test [] e = absurd (true≢false (sym e))
passing test (k ∷ ks) e = either (test k) (list_any test ks) e
    (λ here. (k, ap (λ b. b || list_any (path_eq k) ks) (path_eq-own k), here))
    (λ later. let (q, among, passes) = passing test ks later in (q, ap (λ b. path_eq q k || b) among ∙ or_true (path_eq q k), passes))

last_part : (parts : List (List ℕ)) → nat_lt 0 (length parts) ≡ true → take (length parts - 1) parts ++ get_or parts (length parts - 1) [] ∷ [] ≡ parts
last_part parts some = grind (arith, rules, common_steps, some)

-- what lies in a folder has a name there
named : (folder q : PathValue) → lies_in folder q ≡ true → q ≡ below folder (get_or q.parts (length q.parts - 1) [] ∷ [])
named folder q inside =
    let two = both (nat_lt 0 (length q.parts)) (path_eq folder (parent q)) inside in
    let up : folder ≡ parent q = path_eq-same folder (parent q) two.1 in
    same_path _ _ (sym (ap (λ p. p.absolute) up)) (sym (last_part q.parts two.0) ∙ ap (λ p. p.parts ++ get_or q.parts (length q.parts - 1) [] ∷ []) (sym up))

a_name : (c : Contents) (folder : PathValue) → (q : PathValue) × (list_any (path_eq q) (keys c) ≡ true) × (lies_in folder q ≡ true) → (name : List ℕ) × (is_some (get c (below folder (name ∷ []))) ≡ true)
unfolding path_eq
a_name c folder (q, among, inside) = (get_or q.parts (length q.parts - 1) [], ap (λ p. is_some (get c p)) (sym (named folder q inside)) ∙ contains_key-keys c q ∙ among)

pub has_child-named : (c : Contents) (folder : PathValue) → (has_child c folder ≡ true) ↔ ((name : List ℕ) × (is_some (get c (below folder (name ∷ []))) ≡ true))
has_child-named c folder = (
  λ some. a_name c folder (passing (lies_in folder) (keys c) some),
  λ (name, there). has_child-there c folder (below folder (name ∷ [])) there (lies_in-below folder name),
)

tested : (n : List ℕ) (names : List (List ℕ)) → list_any (is_at (slice_cmp nat_cmp n)) names ≡ list_any (bytes_eq n) names
tested n names = ap (λ f. list_any f names) (λ i x. is_eq-slice_cmp n x i)

pub listing-one : (c : Contents) (folder : PathValue) (names others : List (List ℕ)) → IsListing c folder names → IsListing c folder others → names ≡ others
listing-one c folder names others one other = btree_set_from_contains nat_list_cmp_total (record { keys = names }) (record { keys = others }) one.ascending other.ascending
    (λ n. tested n names ∙ one.members n ∙ sym (other.members n) ∙ sym (tested n others))
    (slice_cmp-IsAntisymmetric nat_cmp-IsAntisymmetric)
