-- A comparison of two walks shows no difference just where no path has one.
use Rattle.std.proofs.Common.{◌≡◌, ◌⊎◌, ℕ, Bool, true, false, ◌||◌, List, [], ◌∷◌, length, map, Option, None, Some, is_some, inl, inr, refl, sym, ap, ap₂, ◌∙◌, true≢false}
use Rattle.std.proofs.lemmas.List.{append-nil}
use Rattle.std.specs.Prelude.{Ok, if◌then◌else◌, option_map, unwrap_or}
use Rattle.std.specs.List.{list_any}
use Rattle.cluster_tree.specs.Causes.{first_of}
use Rattle.cluster_tree.specs.Contents.{Contents, Entry, FolderEntry, entry_at}
use Rattle.cluster_tree.specs.PathOrder.{path_eq}
use Rattle.cluster_tree.specs.PathValue.{PathValue, below, path_of}
use Rattle.cluster_tree.proofs.OrderLemmas.{path_eq-own, path_eq-same, same_path}
use Rattle.file_walk.specs.declared.entry.Entry.{Entry as Walked}
use Rattle.file_walk.specs.Pairs.{kind_in, pair_at, pairs_of, paths_of}
use Rattle.file_walk.specs.Walk.{HasParts, walk_of}
use Rattle.cluster_compare.specs.Same.{IsSameCluster, differ_at, is_left_out, unlogged_in}
use Rattle.cluster_compare.specs.Compared.{pair_difference, verdict}
use Rattle.cluster_compare.specs.declared.compared.Compared.{Compared}
use Rattle.cluster_compare.specs.declared.compared.Compared.TheVariants.{Same, Differs}
use Rattle.file_walk.proofs.StandLemmas.{is-among, more_than_none, not-there, own-path, root-folder}

or_cases : (a b : Bool) → (a || b) ≡ true → (a ≡ true) ⊎ (b ≡ true)
or_cases true b h = inl refl
or_cases false b h = inr h

or_none : (a b : Bool) → (a || b) ≡ false → (a ≡ false) × (b ≡ false)
or_none true b h = absurd (true≢false h)
or_none false b h = (refl, h)

or_one : (a b : Bool) → a ≡ true → (a || b) ≡ true
or_one true b h = refl
or_one false b h = absurd (true≢false (sym h))

or_more : (a b : Bool) → b ≡ true → (a || b) ≡ true
or_more true b h = refl
or_more false b h = h

no_difference : (b : Bool) (o : Option (Option ℕ)) → o ≡ None → (if b then None else o) ≡ None
no_difference true o h = refl
no_difference false o h = h

module _ (c : Contents) (per_file : ℕ) (first second : PathValue) where
  abbrev differ : PathValue → Option (Option ℕ)
  differ k = differ_at (unlogged_in c first c second) per_file k (entry_at c (below first k.parts)) (entry_at c (below second k.parts))

  module _ (found there : List Walked) where
    abbrev told : List PathValue → List (Option Compared)
    told ks = map (pair_difference c per_file first second) (map (pair_at found there) ks)

    -- where none is told, no path of the walks has one
    none_at : (ks : List PathValue) → unwrap_or (first_of (told ks)) Same ≡ Same → (k : PathValue) → list_any (path_eq k) ks ≡ true → differ k ≡ None
    unfolding first_of
    none_at [] h k among = absurd (true≢false (sym among))
    none_at (x ∷ ks) h k among = by (differ x) refl (λ rest. none_at ks rest k) h
      where
        at : (b : Bool) → path_eq k x ≡ b → differ x ≡ None → (list_any (path_eq k) ks ≡ true → differ k ≡ None) → (b || list_any (path_eq k) ks) ≡ true → differ k ≡ None
        at true same is rest among = ap differ (path_eq-same k x same) ∙ is
        at false other is rest among = rest among

        by : (o : Option (Option ℕ)) → differ x ≡ o → (unwrap_or (first_of (told ks)) Same ≡ Same → list_any (path_eq k) ks ≡ true → differ k ≡ None)
            → unwrap_or (first_of (option_map (Differs x) o ∷ told ks)) Same ≡ Same → differ k ≡ None
        by None is rest h = at (path_eq k x) refl is (rest h) among
        by (Some d) is rest h = absurd (cc h)

    -- where no path of the walks has one, none is told
    none_told : (ks : List PathValue) → ((k : PathValue) → list_any (path_eq k) ks ≡ true → differ k ≡ None) → first_of (told ks) ≡ None
    unfolding first_of
    none_told [] each = refl
    none_told (x ∷ ks) each =
        ap (λ o. first_of (option_map (Differs x) o ∷ told ks)) (each x (or_one (path_eq x x) (list_any (path_eq x) ks) (path_eq-own x)))
        ∙ none_told ks (λ k later. each k (or_more (path_eq k x) (list_any (path_eq k) ks) later))

    module _ (parts : HasParts c first) (others : HasParts c second) (walk : walk_of c first ≡ Ok found) (other : walk_of c second ≡ Ok there) where
      -- nor has any other path
      nowhere : (verdict c per_file first second (pairs_of found there) ≡ Same) → IsSameCluster per_file c first c second
      unfolding pairs_of
      nowhere h [] =
          ap₂ (λ (a b : Option Entry). differ_at (unlogged_in c first c second) per_file (path_of false []) a b) (root_is first (root-folder c first found walk)) (root_is second (root-folder c second there other))
          ∙ no_difference (is_left_out (unlogged_in c first c second) (path_of false []) (Some (FolderEntry false)) (Some (FolderEntry false))) None refl
        where
          root_is : (root : PathValue) → entry_at c root ≡ Some (FolderEntry false) → entry_at c (below root []) ≡ Some (FolderEntry false)
          root_is root is = ap (entry_at c) (same_path (below root []) root refl (append-nil root.parts)) ∙ is
      nowhere h (part ∷ more) = by (list_any (path_eq (path_of false (part ∷ more))) (paths_of found there)) refl
        where
          by : (b : Bool) → list_any (path_eq (path_of false (part ∷ more))) (paths_of found there) ≡ b → differ (path_of false (part ∷ more)) ≡ None
          by true among = none_at (paths_of found there) h (path_of false (part ∷ more)) among
          by false among =
              let two = or_none (is_some (kind_in found (path_of false (part ∷ more)))) (is_some (kind_in there (path_of false (part ∷ more)))) (sym (is-among found there (path_of false (part ∷ more))) ∙ among) in
              ap₂ (λ (a b : Option Entry). differ_at (unlogged_in c first c second) per_file (path_of false (part ∷ more)) a b)
              (not-there c first found walk parts (part ∷ more) (more_than_none (length more)) two.0) (not-there c second there other others (part ∷ more) (more_than_none (length more)) two.1)
              ∙ no_difference (is_left_out (unlogged_in c first c second) (path_of false (part ∷ more)) None None) None refl

      own : (q : PathValue) → list_any (path_eq q) (paths_of found there) ≡ true → q.absolute ≡ false
      own q among = by (or_cases (is_some (kind_in found q)) (is_some (kind_in there q)) (sym (is-among found there q) ∙ among))
        where
          by : (is_some (kind_in found q) ≡ true) ⊎ (is_some (kind_in there q) ≡ true) → q.absolute ≡ false
          by (inl h) = (own-path c first found walk q h).0
          by (inr h) = (own-path c second there other q h).0

      same_verdict : IsSameCluster per_file c first c second → verdict c per_file first second (pairs_of found there) ≡ Same
      unfolding pairs_of
      same_verdict same =
          ap (λ o. unwrap_or o Same) (none_told (paths_of found there) (λ k among.
          ap differ (same_path k (path_of false k.parts) (own k among) refl) ∙ same k.parts))

pub compared-exactly : (c : Contents) (per_file : ℕ) (first second : PathValue) (found there : List Walked)
    → HasParts c first → HasParts c second → walk_of c first ≡ Ok found → walk_of c second ≡ Ok there
    → ((verdict c per_file first second (pairs_of found there) ≡ Same) → IsSameCluster per_file c first c second)
    × (IsSameCluster per_file c first c second → (verdict c per_file first second (pairs_of found there) ≡ Same))
compared-exactly c per_file first second found there parts others walk other =
    (nowhere c per_file first second found there parts others walk other, same_verdict c per_file first second found there parts others walk other)
