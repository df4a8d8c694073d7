-- A walk below a root where nothing has a flaw.
use Rattle.std.proofs.Common.{◌≡◌, ℕ, T, Bool, true, false, cond, ◌&&◌, List, [], ◌∷◌, length, map, Option, None, Some, Ok, refl, sym, ap, ◌∙◌}
use Rattle.std.specs.declared.cmp.Ordering.{Ordering}
use Rattle.std.specs.declared.cmp.Ordering.TheVariants.{Less, Equal, Greater}
use Rattle.std.specs.FinMap.{entries, entries_sorted, find, get, get-entries, is_sorted}
use Rattle.std.specs.FinMap.Entries.{below_all}
use Rattle.std.specs.List.{filter_map}
use Rattle.std.specs.Ordering.{is_eq, is_lt}
use Rattle.cluster_tree.specs.Causes.{first_of, unless}
use Rattle.cluster_tree.specs.Contents.{Contents, Entry, FolderEntry, entry_at, or_root}
use Rattle.cluster_tree.specs.PathOrder.{path_eq}
use Rattle.cluster_tree.specs.PathValue.{PathValue, below, path_cmp, path_of}
use Rattle.cluster_tree.proofs.OrderLemmas.{path_eq-own, path_eq-same}
use Rattle.file_walk.specs.Walk.{flaw_at, found_below, from_root, lies_below, root_flaw, walk_of, walked}
use Rattle.file_walk.specs.declared.fault.WalkFault.{WalkFault}
use Rattle.file_walk.proofs.AscendLemmas.{found, found_by}
use Rattle.file_walk.proofs.FoundLemmas.{back_below}

first : (a b : Bool) → T (a && b) → T a
first true b h = tt
first false b h = h

second : (a b : Bool) → T (a && b) → T b
second true b h = h
second false b h = absurd h

less : (o : Ordering) → T (is_lt o) → o ≡ Less
less Less h = refl
less Equal h = absurd h
less Greater h = absurd h

-- a path that is below all others isn't among them
none_above : (p : PathValue) (es : List (PathValue × Entry)) → T (below_all path_cmp p es) → find path_cmp p es ≡ None
none_above p [] h = refl
none_above p (e ∷ es) h =
    ap (λ o. cond (is_eq o) (Some e.1) (find path_cmp p es)) (less (path_cmp p e.0) (first (is_lt (path_cmp p e.0)) (below_all path_cmp p es) h))
    ∙ none_above p es (second (is_lt (path_cmp p e.0)) (below_all path_cmp p es) h)

-- what is behind the first is found behind it
behind : (x : PathValue × Entry) (es : List (PathValue × Entry)) (q : PathValue) (e : Entry) → T (below_all path_cmp x.0 es) → find path_cmp q es ≡ Some e → find path_cmp q (x ∷ es) ≡ Some e
unfolding path_eq
behind x es q e above is = by (path_eq q x.0) refl
  where
    by : (b : Bool) → path_eq q x.0 ≡ b → cond b (Some x.1) (find path_cmp q es) ≡ Some e
    by true same =
        let its : q ≡ x.0 = path_eq-same q x.0 same in
        let none : find path_cmp q es ≡ None = ap (λ p. find path_cmp p es) its ∙ none_above x.0 es above in
        absurd (cc)
    by false other = is

module _ (root : PathValue) (flaw : PathValue × Entry → Option WalkFault) where
  abbrev AreSound : List (PathValue × Entry) → Type 0
  AreSound es = (q : PathValue) (e : Entry) → find path_cmp q es ≡ Some e → lies_below root q ≡ true → flaw (from_root root q, e) ≡ None

  first_found : (es : List (PathValue × Entry)) → T (is_sorted path_cmp es) → AreSound es → first_of (map flaw (found root es)) ≡ None
  unfolding first_of path_eq
  first_found [] sorted sound = refl
  first_found (x ∷ es) sorted sound =
      let above = first (below_all path_cmp x.0 es) (is_sorted path_cmp es) sorted in
      by (first_found es (second (below_all path_cmp x.0 es) (is_sorted path_cmp es) sorted) (λ q e is low. sound q e (behind x es q e above is) low)) (lies_below root x.0) refl
    where
      by : first_of (map flaw (found root es)) ≡ None → (b : Bool) → lies_below root x.0 ≡ b → first_of (map flaw (found_by root b x es)) ≡ None
      by rest true low =
          let here : flaw (from_root root x.0, x.1) ≡ None = sound x.0 x.1 (ap (λ b. cond b (Some x.1) (find path_cmp x.0 es)) (path_eq-own x.0)) low in
          ap (λ o. first_of (o ∷ map flaw (found root es))) here ∙ rest
      by rest false low = rest

some_there : (c : Contents) (p : PathValue) (e : Entry) → get c p ≡ Some e → entry_at c p ≡ Some e
some_there c p e is = ap (λ o. or_root p.parts o) is

-- where the root is a folder, and what stands below it has no flaw, a walk finds it
pub walk-sound : (c : Contents) (root : PathValue) → entry_at c root ≡ Some (FolderEntry false)
    → ((parts : List (List ℕ)) (e : Entry) → entry_at c (below root parts) ≡ Some e → flaw_at (length root.parts) (path_of false parts, e) ≡ None)
    → walk_of c root ≡ Ok (filter_map walked (found_below c root))
unfolding walk_of found_below
walk-sound c root top sound =
    ap (λ o. unless (root_flaw root o) (unless (first_of (map (flaw_at (length root.parts)) (found root (entries c)))) (Ok (filter_map walked (found root (entries c)))))) top
    ∙ ap (λ o. unless o (Ok (filter_map walked (found root (entries c)))))
    (first_found root (flaw_at (length root.parts)) (entries c) (entries_sorted c)
    (λ q e is low.
    let back : q ≡ below root (from_root root q).parts = back_below root q low in
    let there : entry_at c q ≡ Some e = some_there c q e (get-entries c q ∙ is) in
    sound (from_root root q).parts e (ap (λ p. entry_at c p) (sym back) ∙ there)))
