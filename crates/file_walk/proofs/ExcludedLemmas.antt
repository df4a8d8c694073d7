-- What lies below an excluded path is excluded.
use Rattle.std.proofs.Common.{◌≡◌, ℕ, zero, suc, ◌<◌, Bool, true, false, ◌||◌, List, [], ◌∷◌, ◌++◌, length, take, slice_get, None, Some, refl, ap, sym, ◌∙◌, true≢false, arith}
use Rattle.std.specs.List.{list_any}
use Rattle.std.proofs.lemmas.List.Folds.{list_any-append}
use Rattle.cluster_tree.specs.PathValue.{PathValue, below}
use Rattle.file_walk.specs.Excluded.{is_inside, is_own_name, is_excluded}

inside_more : (parts more : List (List ℕ)) → is_inside parts ≡ true → is_inside (parts ++ more) ≡ true
inside_more [] more h = absurd (true≢false (sym h))
inside_more (first ∷ []) more h = absurd (true≢false (sym h))
inside_more (first ∷ second ∷ parts) more h = h

more_or : (a b c d : Bool) → (a ≡ true → c ≡ true) → (a || b) ≡ true → (c || (b || d)) ≡ true
more_or true b c d h e = ap (λ x. x || (b || d)) (h refl)
more_or false true true d h e = refl
more_or false true false d h e = refl
more_or false false c d h e = absurd (true≢false (sym e))

pub excluded_more : (path : PathValue) (parts : List (List ℕ)) → is_excluded path ≡ true → is_excluded (below path parts) ≡ true
unfolding is_excluded
excluded_more path parts h =
    ap (λ b. is_inside (path.parts ++ parts) || b) (list_any-append is_own_name path.parts parts)
    ∙ more_or (is_inside path.parts) (list_any is_own_name path.parts) (is_inside (path.parts ++ parts)) (list_any is_own_name parts) (inside_more path.parts parts) h

-- ---- a test of each part in turn

or_true : (a b : Bool) → b ≡ true → (a || b) ≡ true
or_true true b h = refl
or_true false b h = h

or_parts : (a b : Bool) → (a || b) ≡ false → (a ≡ false) × (b ≡ false)
or_parts true b h = absurd (true≢false h)
or_parts false b h = (refl, h)

module _ (test : List ℕ → Bool) where
  pub any_found : (parts : List (List ℕ)) (i : ℕ) (part : List ℕ) → Some part ≡ slice_get parts i → test part ≡ true → true ≡ list_any test parts
  any_found [] i part g h = absurd cc
  any_found (y ∷ ys) zero part g h = let e : part ≡ y = cc in sym (ap (λ b. b || list_any test ys) (ap test (sym e) ∙ h))
  any_found (y ∷ ys) (suc i) part g h = sym (or_true (test y) (list_any test ys) (sym (any_found ys i part g h)))

  pub any_more : (parts : List (List ℕ)) (i : ℕ) (part : List ℕ) → Some part ≡ slice_get parts i → list_any test (take i parts) ≡ false → test part ≡ false → list_any test (take (suc i) parts) ≡ false
  any_more [] i part g free h = absurd cc
  any_more (y ∷ ys) zero part g free h = let e : part ≡ y = cc in ap (λ b. b || false) (ap test (sym e) ∙ h)
  any_more (y ∷ ys) (suc i) part g free h =
      let p = or_parts (test y) (list_any test (take i ys)) free in
      ap (λ b. b || list_any test (take (suc i) ys)) p.0 ∙ any_more ys i part g p.1 h

pub none_past : (parts : List (List ℕ)) (i : ℕ) → None ≡ slice_get parts i → i < length parts → ⊥
none_past [] i g h = omega arith
none_past (y ∷ ys) zero g h = cc
none_past (y ∷ ys) (suc i) g h = none_past ys i g (omega arith)
