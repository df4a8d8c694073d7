-- What is seen of a tree in which only some of what lies below a root is seen.
use Rattle.std.proofs.Common.{◌≡◌, ◌≢◌, ℕ, suc, ◌-◌, ◌+◌, Bool, true, false, not, ◌&&◌, ◌||◌, cond, List, [], ◌∷◌, ◌++◌, codes, filter, length, take, Option, Some, None, is_some, refl, ap, sym, ◌∙◌, subst, bytes_eq, true≢false, arith, length-append}
use Rattle.std.proofs.lemmas.Grind.{common_steps}
use Rattle.std.proofs.lemmas.List.Kept.{IsStrictlySortedBy-filter}
use Rattle.std.proofs.lemmas.Slice.Eq.{bytes_eq-Decides}
use Rattle.std.specs.Cmp.Lexicographic.{slice_cmp}
use Rattle.std.specs.FinMap.{get}
use Rattle.std.specs.List.{list_any}
use Rattle.std.specs.List.Sorted.{IsStrictlySortedBy}
use Rattle.std.specs.Ordering.{nat_cmp}
use Rattle.cluster_tree.specs.Contents.{Contents, Entry, FileEntry, FolderEntry, LinkEntry, entry_at, or_root, parent}
use Rattle.cluster_tree.specs.Folders.{IsListing}
use Rattle.cluster_tree.specs.PathValue.{PathValue, below}
use Rattle.cluster_tree.specs.Tree.{file_of, kind_of}
use Rattle.cluster_tree.proofs.OrderLemmas.{same_path}
use Rattle.replay_list.specs.Areas.{is_area}
use Rattle.areas_alone.specs.Alone.{area_names, areas_in, areas_of, lies_elsewhere}
use Rattle.areas_alone.specs.Shown.{elsewhere-below, elsewhere-is, get-other, is-elsewhere, longer, sound, told-here}

-- kinds and bytes are the same
sound-kind : (o : Option Entry) → kind_of (sound o) ≡ kind_of o
sound-kind None = refl
sound-kind (Some (FolderEntry bad)) = refl
sound-kind (Some (FileEntry bytes)) = refl
sound-kind (Some LinkEntry) = refl

sound-file : (o : Option Entry) → file_of (sound o) ≡ file_of o
sound-file None = refl
sound-file (Some (FolderEntry bad)) = refl
sound-file (Some (FileEntry bytes)) = refl
sound-file (Some LinkEntry) = refl

pub kind-here : (c : Contents) (root path : PathValue) → lies_elsewhere root path ≡ false → kind_of (entry_at (areas_of c root) path) ≡ kind_of (entry_at c path)
kind-here c root path e = told-here kind_of sound-kind c root path e

pub file-here : (c : Contents) (root path : PathValue) → lies_elsewhere root path ≡ false → file_of (entry_at (areas_of c root) path) ≡ file_of (entry_at c path)
file-here c root path e = told-here file_of sound-file c root path e

-- a folder that isn't the root is listed as it is
name_behind : (p : PathValue) (n : List ℕ) → parent (below p (n ∷ [])) ≡ p
name_behind p n = same_path (parent (below p (n ∷ []))) p refl (front p.parts n)
  where
    front : (xs : List (List ℕ)) (x : List ℕ) → take (length (xs ++ x ∷ []) - 1) (xs ++ x ∷ []) ≡ xs
    front xs x = grind (arith, common_steps)

take_more : (xs ys : List (List ℕ)) (k : ℕ) → take (length xs + k) (xs ++ ys) ≡ xs ++ take k ys
take_more [] ys k = let none : 0 + k ≡ k = omega arith in ap (λ n. take n ys) none
take_more (x ∷ xs) ys k = let more : suc (length xs) + k ≡ suc (length xs + k) = omega arith in ap (λ n. take n (x ∷ (xs ++ ys))) more ∙ ap (λ l. x ∷ l) (take_more xs ys k)

parts_above : (xs : List (List ℕ)) (y z : List ℕ) (zs : List (List ℕ)) → take (length (xs ++ y ∷ z ∷ zs) - 1) (xs ++ y ∷ z ∷ zs) ≡ xs ++ y ∷ take (length zs) (z ∷ zs)
parts_above xs y z zs =
    let size : length (xs ++ y ∷ z ∷ zs) - 1 ≡ length xs + suc (length zs) = omega (arith, length-append xs (y ∷ z ∷ zs)) in
    ap (λ n. take n (xs ++ y ∷ z ∷ zs)) size ∙ take_more xs (y ∷ z ∷ zs) (suc (length zs))

part_above : (root : PathValue) (name : List ℕ) → parent (below root (name ∷ [])) ≡ root
part_above root name = name_behind root name

child_of : (root path : PathValue) (n name : List ℕ) (more : List (List ℕ)) → below path (n ∷ []) ≡ below root (name ∷ more) → is_area name ≡ false → path ≢ root → lies_elsewhere root path ≡ true
child_of root path n name [] is other away = absurd (away (sym (name_behind path n) ∙ ap parent is ∙ part_above root name))
child_of root path n name (next ∷ more) is other away =
    is-elsewhere root path (record {
      name = name;
      more = take (length more) (next ∷ more);
      is = sym (name_behind path n) ∙ ap parent is ∙ same_path (parent (below root (name ∷ next ∷ more))) (below root (name ∷ take (length more) (next ∷ more))) refl (parts_above root.parts name next more);
      other = other;
    })

child-here : (root path : PathValue) (n : List ℕ) → path ≢ root → lies_elsewhere root path ≡ false → lies_elsewhere root (below path (n ∷ [])) ≡ false
child-here root path n away e = elim (lies_elsewhere root (below path (n ∷ []))) as (λ b. lies_elsewhere root (below path (n ∷ [])) ≡ b → b ≡ false) [
  | true ↦ λ there. let is = elsewhere-is root (below path (n ∷ [])) there in absurd (true≢false (sym (child_of root path n is.name is.more is.is is.other away) ∙ e))
  | false ↦ λ there. refl
] refl

pub some_of : (parts : List (List ℕ)) (x : List ℕ) (o : Option Entry) → or_root (parts ++ x ∷ []) o ≡ o
some_of [] x (Some e) = refl
some_of [] x None = refl
some_of (part ∷ parts) x (Some e) = refl
some_of (part ∷ parts) x None = refl

sound-some : (o : Option Entry) → is_some (sound o) ≡ is_some o
sound-some None = refl
sound-some (Some (FolderEntry bad)) = refl
sound-some (Some (FileEntry bytes)) = refl
sound-some (Some LinkEntry) = refl

child-there : (c : Contents) (root path : PathValue) (n : List ℕ) → path ≢ root → lies_elsewhere root path ≡ false → is_some (get (areas_of c root) (below path (n ∷ []))) ≡ is_some (get c (below path (n ∷ [])))
child-there c root path n away e =
    ap is_some (sym (some_of path.parts n (get (areas_of c root) (below path (n ∷ [])))))
    ∙ told-here is_some sound-some c root (below path (n ∷ [])) (child-here root path n away e)
    ∙ ap is_some (some_of path.parts n (get c (below path (n ∷ []))))

pub listing-other : (c : Contents) (root path : PathValue) (names : List (List ℕ)) → path ≢ root → lies_elsewhere root path ≡ false → IsListing c path names → IsListing (areas_of c root) path names
listing-other c root path names away e l = record {
  ascending = l.ascending;
  members = λ n. l.members n ∙ sym (child-there c root path n away e);
}

-- and the root by the names of areas
filtered : (p : List ℕ → Bool) (n : List ℕ) (xs : List (List ℕ)) → list_any (bytes_eq n) (filter p xs) ≡ list_any (bytes_eq n) xs && p n
filtered p n [] = refl
filtered p n (x ∷ xs) = by (filtered p n xs) (bytes_eq n x) refl (p x) refl
  where
    stays : (a b : Bool) → a ≡ true → a && b ≡ b
    stays true b e = refl
    stays false b e = absurd (true≢false (sym e))

    absorbed : (a b : Bool) → a ≡ true → true ≡ true && a || b
    absorbed true b e = refl
    absorbed false b e = absurd (true≢false (sym e))

    gone : (a b : Bool) → a ≡ false → b && a ≡ a
    gone true b e = absurd (true≢false e)
    gone false true e = refl
    gone false false e = refl

    by : list_any (bytes_eq n) (filter p xs) ≡ list_any (bytes_eq n) xs && p n → (s : Bool) → bytes_eq n x ≡ s → (k : Bool) → p x ≡ k → list_any (bytes_eq n) (cond k (x ∷ filter p xs) (filter p xs)) ≡ (s || list_any (bytes_eq n) xs) && p n
    by rest true same true keep = ap (λ b. b || list_any (bytes_eq n) (filter p xs)) same ∙ sym (ap p ((bytes_eq-Decides n x).0 same) ∙ keep)
    by rest true same false keep = let out : p n ≡ false = ap p ((bytes_eq-Decides n x).0 same) ∙ keep in rest ∙ gone (p n) (list_any (bytes_eq n) xs) out
    by rest false same true keep = ap (λ b. b || list_any (bytes_eq n) (filter p xs)) same ∙ rest
    by rest false same false keep = rest

other_way : (a b c d : Bool) → a || (b || (c || (d || false))) ≡ ((d || c) || b) || a
other_way true true true true = refl
other_way true true true false = refl
other_way true true false true = refl
other_way true true false false = refl
other_way true false true true = refl
other_way true false true false = refl
other_way true false false true = refl
other_way true false false false = refl
other_way false true true true = refl
other_way false true true false = refl
other_way false true false true = refl
other_way false true false false = refl
other_way false false true true = refl
other_way false false true false = refl
other_way false false false true = refl
other_way false false false false = refl

area_named : (n : List ℕ) → list_any (bytes_eq n) area_names ≡ is_area n
area_named n = other_way (bytes_eq n (codes "base")) (bytes_eq n (codes "global")) (bytes_eq n (codes "pg_multixact")) (bytes_eq n (codes "pg_xact"))

in_order : IsStrictlySortedBy (slice_cmp nat_cmp) area_names
unfolding IsStrictlySortedBy
in_order = ((refl, (refl, (refl, tt))), ((refl, (refl, tt)), ((refl, tt), (tt, tt))))

shown_by : (a : Bool) (o : Option Entry) → a && is_some o ≡ is_some (cond (not a) None o)
shown_by true o = refl
shown_by false o = refl

member : (c : Contents) (root : PathValue) (n : List ℕ) → is_area n && is_some (get c (below root (n ∷ []))) ≡ is_some (get (areas_of c root) (below root (n ∷ [])))
member c root n =
    shown_by (is_area n) (get c (below root (n ∷ [])))
    ∙ ap is_some (sym (get-other c root (below root (n ∷ [])) (longer root n []) ∙ ap (λ b. cond b None (get c (below root (n ∷ [])))) (elsewhere-below root (n ∷ []))))

pub listing-root : (c : Contents) (root : PathValue) (names : List (List ℕ)) → names ≡ areas_in c root → IsListing (areas_of c root) root names
unfolding areas_in
listing-root c root names is =
    let there : List ℕ → Bool = λ name. is_some (get c (below root (name ∷ []))) in
    subst (IsListing (areas_of c root) root) (sym is) (record {
      ascending = IsStrictlySortedBy-filter (slice_cmp nat_cmp) there area_names in_order;
      members = λ n. filtered there n area_names ∙ ap (λ b. b && there n) (area_named n) ∙ member c root n;
    })
