-- Items that don't overlap: the test and the fact.
use Rattle.std.proofs.Common.{◌≡◌, ◌≢◌, ℕ, zero, suc, ◌+◌, ◌<◌, ◌≤◌, ◌==◌, inl, inr, ⊎_elim, List, Bool, true, false, refl, subst, arith}
use Rattle.std.specs.Prelude.{nat_le, ◌&&◌}
use Rattle.std.proofs.lemmas.Bool.Decides.{nat_tests, eqb_tells, leb_tells}
use Rattle.page_layout.specs.Bytes.{up8}
use Rattle.page_layout.specs.Page.{count, lp_off, lp_len}
use Rattle.page_layout.specs.Apart.{Apart, AreApart}
use Rattle.page_layout.specs.Deletes.{is_apart, apart_below, all_apart}

pub not_apart_below : (p : List ℕ) (k n j : ℕ) → j < n → is_apart p j k ≡ false → apart_below p k n ≡ false
not_apart_below p k zero j lt e = absurd (omega arith)
not_apart_below p k (suc n) j lt e = ⊎_elim
    (λ (t : ((j == n) ≡ true) × (j ≡ n)). let here : is_apart p n k ≡ false = subst (λ x. is_apart p x k ≡ false) t.1 e in by_and (apart_below p k n) (is_apart p n k) here)
    (λ (f : ((j == n) ≡ false) × (j ≢ n)). let before = not_apart_below p k n j (omega (arith, f.1)) e in rw before refl)
    (eqb_tells j n)
  where
    by_and : (a b : Bool) → b ≡ false → (a && b) ≡ false
    by_and true b h = h
    by_and false b h = refl

pub not_all_apart : (p : List ℕ) (n k : ℕ) → k < n → apart_below p k k ≡ false → all_apart p n ≡ false
not_all_apart p zero k lt e = absurd (omega arith)
not_all_apart p (suc n) k lt e = ⊎_elim
    (λ (t : ((k == n) ≡ true) × (k ≡ n)). let here : apart_below p n n ≡ false = subst (λ x. apart_below p x x ≡ false) t.1 e in by_and (all_apart p n) (apart_below p n n) here)
    (λ (f : ((k == n) ≡ false) × (k ≢ n)). let before = not_all_apart p n k (omega (arith, f.1)) e in rw before refl)
    (eqb_tells k n)
  where
    by_and : (a b : Bool) → b ≡ false → (a && b) ≡ false
    by_and true b h = h
    by_and false b h = refl

apart_of : (p : List ℕ) (j k : ℕ) → is_apart p j k ≡ true → 0 < lp_len p j → 0 < lp_len p k → Apart p j k
apart_of p j k e a b = ⊎_elim
    (λ (t : (nat_le (lp_off p j + up8 (lp_len p j)) (lp_off p k) ≡ true) × (lp_off p j + up8 (lp_len p j) ≤ lp_off p k)). inl t.1)
    (λ (f : (nat_le (lp_off p j + up8 (lp_len p j)) (lp_off p k) ≡ false) × (lp_off p k < lp_off p j + up8 (lp_len p j))).
    inr (grind (arith, nat_tests, e, f.0)))
    (leb_tells (lp_off p j + up8 (lp_len p j)) (lp_off p k))

-- the test says that the items of two lines don't overlap
pub test_apart : (p : List ℕ) → all_apart p (count p) ≡ true → AreApart p
test_apart p e = λ j k lt there a b. apart_of p j k (below k j lt (at k there)) a b
  where
    at : (k : ℕ) → k < count p → apart_below p k k ≡ true
    at k there = by_case (apart_below p k k) refl
      where
        by_case : (v : Bool) → apart_below p k k ≡ v → apart_below p k k ≡ true
        by_case true h = h
        by_case false h = let no = not_all_apart p (count p) k there h in cc

    below : (k j : ℕ) → j < k → apart_below p k k ≡ true → is_apart p j k ≡ true
    below k j lt sure = by_case (is_apart p j k) refl
      where
        by_case : (v : Bool) → is_apart p j k ≡ v → is_apart p j k ≡ true
        by_case true h = h
        by_case false h = let no = not_apart_below p k k j lt h in cc
