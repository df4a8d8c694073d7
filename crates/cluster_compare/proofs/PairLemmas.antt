-- The pairs of two walks tell what stands on both sides, and which of them is the first that differs.
use Rattle.std.proofs.Common.{◌≡◌, ◌⊎◌, ℕ, zero, suc, ◌+◌, ◌<◌, ◌≤◌, Bool, true, false, ◌||◌, inl, inr, List, [], ◌∷◌, length, map, drop, get_or, Option, None, Some, Ok, is_some, refl, sym, ap, ap₂, ◌∙◌, subst, true≢false, add-one, drop-cons, arith}
use Rattle.std.specs.List.{list_any}
use Rattle.std.specs.Prelude.{option_map, unwrap_or}
use Rattle.cluster_tree.specs.Causes.{first_of}
use Rattle.cluster_tree.specs.Contents.{Contents, entry_at}
use Rattle.cluster_tree.specs.PathOrder.{path_eq}
use Rattle.cluster_tree.specs.PathValue.{PathValue, below, path_of}
use Rattle.cluster_tree.proofs.OrderLemmas.{path_eq-own, same_path}
use Rattle.file_walk.specs.declared.entry.Entry.{Entry}
use Rattle.file_walk.specs.declared.pair.Pair.{Pair}
use Rattle.file_walk.specs.Pairs.{kind_in, pair_at, pairs_of, paths_of}
use Rattle.file_walk.specs.Walk.{HasParts, walk_of}
use Rattle.cluster_compare.specs.declared.compared.Compared.TheVariants.{Same, Differs}
use Rattle.cluster_compare.specs.Compared.{pair_difference, verdict}
use Rattle.cluster_compare.specs.Looks.{AreToldPairs, IsTold, IsToldPair}
use Rattle.cluster_compare.specs.Same.{differ_at, unlogged_in}
use Rattle.file_walk.specs.Laws.{IsOwn}
use Rattle.file_walk.proofs.StandLemmas.{is-among, kind-told, no-link, not-deep, own-path}

or_cases : (a b : Bool) → (a || b) ≡ true → (a ≡ true) ⊎ (b ≡ true)
or_cases true b h = inl refl
or_cases false b h = inr h

or_one : (a b : Bool) → a ≡ true → (a || b) ≡ true
or_one true b h = refl
or_one false b h = absurd (true≢false (sym h))

or_more : (a b : Bool) → b ≡ true → (a || b) ≡ true
or_more true b h = refl
or_more false b h = h

-- what a walk has at a path of its own
told-at : (c : Contents) (root : PathValue) (es : List Entry) → walk_of c root ≡ Ok es → HasParts c root → (q : PathValue) → IsOwn q → IsTold c root q (kind_in es q)
told-at c root es walk proper q own =
    let whole : path_of false q.parts ≡ q = same_path (path_of false q.parts) q (sym own.0) refl in
    record {
      told = ap (kind_in es) (sym whole) ∙ kind-told c root es walk proper q.parts own.1;
      known = no-link c root es walk proper q.parts own.1;
      room = not-deep c root es walk q;
    }

module _ (c : Contents) (first second : PathValue) (ts ss : List Entry) (walk : walk_of c first ≡ Ok ts) (other : walk_of c second ≡ Ok ss) (proper : HasParts c first) (parts : HasParts c second) where
  own : (q : PathValue) → list_any (path_eq q) (paths_of ts ss) ≡ true → IsOwn q
  own q among = by (or_cases (is_some (kind_in ts q)) (is_some (kind_in ss q)) (sym (is-among ts ss q) ∙ among))
    where
      by : (is_some (kind_in ts q) ≡ true) ⊎ (is_some (kind_in ss q) ≡ true) → IsOwn q
      by (inl h) = own-path c first ts walk q h
      by (inr h) = own-path c second ss other q h

  told-from : (ks : List PathValue) → ((k : PathValue) → list_any (path_eq k) ks ≡ true → list_any (path_eq k) (paths_of ts ss) ≡ true) → AreToldPairs c first second (map (pair_at ts ss) ks)
  told-from [] among = tt
  told-from (k ∷ ks) among =
      let its = own k (among k (or_one (path_eq k k) (list_any (path_eq k) ks) (path_eq-own k))) in (
        (told-at c first ts walk proper k its, told-at c second ss other parts k its),
        told-from ks (λ x later. among x (or_more (path_eq x k) (list_any (path_eq x) ks) later)),
      )

  pub told-pairs : AreToldPairs c first second (pairs_of ts ss)
  unfolding pairs_of
  told-pairs = told-from (paths_of ts ss) (λ k among. among)

-- ---- pairs, one after another

pub drop-next : {X : Type 0} (xs : List X) (i : ℕ) (x : X) → i < length xs → x ≡ get_or xs i x → drop i xs ≡ x ∷ drop (i + 1) xs
drop-next xs i x l is = drop-cons xs i x l ∙ ap₂ (λ y n. y ∷ drop n xs) (sym is) (sym (add-one i))

pub drop-none : {X : Type 0} (xs : List X) (i : ℕ) → length xs ≤ i → drop i xs ≡ []
drop-none [] zero h = refl
drop-none [] (suc i) h = refl
drop-none (x ∷ xs) zero h = absurd (omega (arith, h))
drop-none (x ∷ xs) (suc i) h = drop-none xs i (omega (arith, h))

module _ (c : Contents) (per_file : ℕ) (first second : PathValue) (pairs : List Pair) where
  pub verdict-end : pairs ≡ [] → verdict c per_file first second pairs ≡ Same
  unfolding first_of
  verdict-end is = ap (verdict c per_file first second) is

  module _ (pair : Pair) (rest : List Pair) (is : pairs ≡ pair ∷ rest) where
    abbrev how_at : Option (Option ℕ)
    how_at = differ_at (unlogged_in c first c second) per_file pair.path (entry_at c (below first pair.path.parts)) (entry_at c (below second pair.path.parts))

    pub verdict-here : (how : Option ℕ) → Some how ≡ how_at → verdict c per_file first second pairs ≡ Differs pair.path how
    unfolding first_of
    verdict-here how h = ap (verdict c per_file first second) is ∙ by how_at h
      where
        by : (o : Option (Option ℕ)) → Some how ≡ o → unwrap_or (first_of (option_map (Differs pair.path) o ∷ map (pair_difference c per_file first second) rest)) Same ≡ Differs pair.path how
        by (Some x) e = let same : how ≡ x = cc in ap (Differs pair.path) (sym same)
        by None e = absurd cc

    pub verdict-later : None ≡ how_at → verdict c per_file first second pairs ≡ verdict c per_file first second rest
    unfolding first_of
    verdict-later h = ap (verdict c per_file first second) is ∙ by how_at h
      where
        by : (o : Option (Option ℕ)) → None ≡ o → unwrap_or (first_of (option_map (Differs pair.path) o ∷ map (pair_difference c per_file first second) rest)) Same ≡ verdict c per_file first second rest
        by (Some x) e = absurd cc
        by None e = refl

    pub told-here : AreToldPairs c first second pairs → IsToldPair c first second pair
    told-here told = (subst (AreToldPairs c first second) is told).0

    pub told-later : AreToldPairs c first second pairs → AreToldPairs c first second rest
    told-later told = (subst (AreToldPairs c first second) is told).1
