-- What a well formed page gives.
use Rattle.std.proofs.Common.{◌≡◌, ◌≢◌, ℕ, zero, suc, ◌+◌, ◌%◌, ◌<◌, ◌≤◌, ◌==◌, ⊎_elim, List, Bool, true, false, refl, arith}
use Rattle.std.specs.Prelude.{if◌then◌else◌}
use Rattle.std.proofs.lemmas.Bool.Decides.{nat_tests, eqb_tells}
use Rattle.page_layout.specs.Bytes.{up8}
use Rattle.page_layout.specs.Edits.{is_free, trimmed_count}
use Rattle.page_layout.specs.Page.{pd_special, count, lp_off, lp_flags, lp_len, header_fits, line_fits, lines_fit, Head, ItemIn, IsFormed}

pub head_of : (p : List ℕ) → header_fits p ≡ true → Head p
unfolding header_fits
head_of p h = record {
  low = grind (arith, nat_tests);
  mid = grind (arith, nat_tests);
  high = grind (arith, nat_tests);
  top = grind (arith, nat_tests);
  by4 = grind (arith, nat_tests);
  by8 = grind (arith, nat_tests);
  special8 = grind (arith, nat_tests);
  layout = grind (arith, nat_tests);
}

pub not_lines : (p : List ℕ) (n k : ℕ) → k < n → line_fits p k ≡ false → lines_fit p n ≡ false
not_lines p zero k lt e = absurd (omega arith)
not_lines p (suc n) k lt e = ⊎_elim
    (λ (t : ((k == n) ≡ true) × (k ≡ n)). grind (arith, nat_tests, t.1, e))
    (λ (f : ((k == n) ≡ false) × (k ≢ n)). let low : k < n = omega (arith, f.1) in let i = not_lines p n k low e in rw i refl)
    (eqb_tells k n)

pub lines_below : (p : List ℕ) (n : ℕ) → ((k : ℕ) → k < n → line_fits p k ≡ true) → lines_fit p n ≡ true
lines_below p zero each = refl
lines_below p (suc n) each = rw (lines_below p n (λ k lt. each k (omega arith)), each n (omega arith)) refl

pub line_fits_at : (p : List ℕ) (n k : ℕ) → lines_fit p n ≡ true → k < n → line_fits p k ≡ true
line_fits_at p n k e lt = from (line_fits p k) refl
  where
    from : (b : Bool) → line_fits p k ≡ b → line_fits p k ≡ true
    from true h = h
    from false h = cc (not_lines p n k lt h)

up8_below : (off len top : ℕ) → off % 8 ≡ 0 → top % 8 ≡ 0 → off + len ≤ top → off + up8 len ≤ top
up8_below off len top a b c = omega arith

pub item_in : (p : List ℕ) (k : ℕ) → Head p → line_fits p k ≡ true → 0 < lp_len p k → ItemIn p k
unfolding line_fits
item_in p k h e some =
    let to : lp_off p k + lp_len p k ≤ pd_special p = grind (arith, nat_tests) in
    let by8 : lp_off p k % 8 ≡ 0 = grind (arith, nat_tests) in
    record { from = grind (arith, nat_tests); to = to; by8 = by8; held = up8_below (lp_off p k) (lp_len p k) (pd_special p) by8 h.special8 to }

pub trimmed_count-le : (p : List ℕ) (n : ℕ) → trimmed_count p n ≤ n
trimmed_count-le p zero = omega arith
trimmed_count-le p (suc n) = by_case (is_free p n) (trimmed_count-le p n)
  where
    by_case : (b : Bool) → trimmed_count p n ≤ n → (if b then trimmed_count p n else suc n) ≤ suc n
    by_case true h = omega arith
    by_case false h = omega arith

pub flags_small : (p : List ℕ) (k : ℕ) → lp_flags p k < 4
unfolding lp_flags
flags_small p k = omega arith

-- where an item of a well formed page lies
pub held_in : (p : List ℕ) (k : ℕ) → IsFormed p → k < count p → 0 < lp_len p k → ItemIn p k
held_in p k f there some = item_in p k f.head (line_fits_at p (count p) k f.lines there) some
