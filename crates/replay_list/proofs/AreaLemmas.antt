-- Which paths are listed, by the first part behind the root.
use Rattle.std.proofs.Common.{◌≡◌, ℕ, zero, suc, ◌+◌, ◌||◌, true, false, List, [], ◌∷◌, bytes_eq, codes, drop, length, length-drop, nat_eq, slice_get, None, Some, refl, sym, ap, ◌∙◌, arith}
use Rattle.std.proofs.lemmas.Bool.Decides.{nat_tests}
use Rattle.cluster_tree.specs.PathValue.{PathValue}
use Rattle.mark_lines.specs.Paths.{parts_below}
use Rattle.replay_list.specs.Areas.{is_area, is_listed}

-- what is dropped in front of a place
first_at : (n : ℕ) (parts : List (List ℕ)) (name : List ℕ) → slice_get parts n ≡ Some name → drop n parts ≡ name ∷ drop (suc n) parts
first_at n [] name e = absurd cc
first_at zero (part ∷ parts) name e = let same : part ≡ name = cc in ap (λ p. p ∷ parts) same
first_at (suc n) (part ∷ parts) name e = first_at n parts name e

none_at : (n : ℕ) (parts : List (List ℕ)) → slice_get parts n ≡ None → drop n parts ≡ []
none_at zero [] e = refl
none_at (suc n) [] e = refl
none_at zero (part ∷ parts) e = absurd cc
none_at (suc n) (part ∷ parts) e = none_at n parts e

area_listed : (name : List ℕ) (more : List (List ℕ)) → is_area name ≡ true → is_listed (name ∷ more) ≡ true
area_listed name [] h = ap (λ b. b || bytes_eq name (codes "backup_label")) h
area_listed name (next ∷ more) h = h

label_listed : (name : List ℕ) (more : List (List ℕ)) (n m : ℕ) → is_area name ≡ false → bytes_eq name (codes "backup_label") ≡ true → n ≡ m + length more → nat_eq n m ≡ is_listed (name ∷ more)
label_listed name [] n m h k e = let same : nat_eq n m ≡ true = grind (arith, nat_tests, e) in same ∙ sym (λ i. h i || k i)
label_listed name (next ∷ more) n m h k e = let other : nat_eq n m ≡ false = grind (arith, nat_tests, e) in other ∙ sym h

other_unlisted : (name : List ℕ) (more : List (List ℕ)) → is_area name ≡ false → bytes_eq name (codes "backup_label") ≡ false → is_listed (name ∷ more) ≡ false
other_unlisted name [] h k = λ i. h i || k i
other_unlisted name (next ∷ more) h k = h

module _ (root path : PathValue) (name : List ℕ) (is : slice_get path.parts (length root.parts) ≡ Some name) where
  pub by_area : is_area name ≡ true → true ≡ is_listed (parts_below root path)
  by_area h = sym (ap is_listed (first_at (length root.parts) path.parts name is) ∙ area_listed name (drop (suc (length root.parts)) path.parts) h)

  pub by_label : is_area name ≡ false → bytes_eq name (codes "backup_label") ≡ true → nat_eq (length path.parts) (length root.parts + 1) ≡ is_listed (parts_below root path)
  by_label h k =
      let cut = first_at (length root.parts) path.parts name is in
      let size : length path.parts ≡ (length root.parts + 1) + length (drop (suc (length root.parts)) path.parts) =
      omega (arith, ap length cut, length-drop (length root.parts) path.parts) in
      label_listed name (drop (suc (length root.parts)) path.parts) (length path.parts) (length root.parts + 1) h k size ∙ sym (ap is_listed cut)

  pub by_neither : is_area name ≡ false → bytes_eq name (codes "backup_label") ≡ false → false ≡ is_listed (parts_below root path)
  by_neither h k = sym (ap is_listed (first_at (length root.parts) path.parts name is) ∙ other_unlisted name (drop (suc (length root.parts)) path.parts) h k)

pub by_none : (root path : PathValue) → slice_get path.parts (length root.parts) ≡ None → false ≡ is_listed (parts_below root path)
by_none root path e = sym (ap is_listed (none_at (length root.parts) path.parts e))
