-- Index tuples in a row.
use Rattle.std.proofs.Common.{◌≡◌, ℕ, zero, suc, ◌+◌, ◌-◌, ◌<◌, ◌≤◌, Bool, true, false, cond, eqb, leb, ◌&&◌, List, length, Option, Some, None, option_map, refl, sym, ap, subst, ◌∙◌, arith}
use Rattle.std.proofs.lemmas.Bool.{and_parts, eqb-true}
use Rattle.std.proofs.lemmas.Bool.Decides.{nat_tests}
use Rattle.block_layouts.specs.IndexTuples.{told_size, item_behind, item_stands, items_end, count_below}
use Rattle.block_layouts.proofs.RowLemmas.{stood, fallen}

-- what it is that an index tuple is there
pub record HasItem (bytes : List ℕ) (at : ℕ) : Type 0 where
  pub front : at + 8 ≤ length bytes
  pub told : 0 < told_size bytes at
  pub whole : item_behind bytes at ≤ length bytes

pub item_stands-facts : (bytes : List ℕ) (at : ℕ) → item_stands bytes at ≡ true → HasItem bytes at
item_stands-facts bytes at e =
    let p = and_parts (leb (at + 8) (length bytes)) (leb 1 (told_size bytes at) && leb (item_behind bytes at) (length bytes)) e in
    let q = and_parts (leb 1 (told_size bytes at)) (leb (item_behind bytes at) (length bytes)) p.1 in
    record { front = grind (arith, nat_tests, p.0); told = grind (arith, nat_tests, q.0); whole = grind (arith, nat_tests, q.1) }

-- so many tuples as are counted end where the bytes end
pub items_end-count : (m : ℕ) (bytes : List ℕ) (at n : ℕ) → count_below m bytes at ≡ Some n → items_end n bytes at ≡ Some (length bytes)
items_end-count zero bytes at n e = absurd cc
items_end-count (suc m) bytes at n e = by (eqb at (length bytes)) refl (item_stands bytes at) refl (count_below m bytes (item_behind bytes at)) (items_end-count m bytes (item_behind bytes at)) e
  where
    by : (b : Bool) → eqb at (length bytes) ≡ b → (s : Bool) → item_stands bytes at ≡ s
        → (c : Option ℕ) → ((k : ℕ) → c ≡ Some k → items_end k bytes (item_behind bytes at) ≡ Some (length bytes))
        → cond b (Some 0) (cond s (option_map (λ k. suc k) c) None) ≡ Some n → items_end n bytes at ≡ Some (length bytes)
    by true hb s hs c others e =
        let none : 0 ≡ n = cc in
        subst (λ k. items_end k bytes at ≡ Some (length bytes)) none (ap (λ (k : ℕ). Some k) (eqb-true at (length bytes) hb))
    by false hb true hs None others e = absurd cc
    by false hb true hs (Some k) others e =
        let more : suc k ≡ n = cc in
        let rest = others k refl in
        subst (λ k. items_end k bytes at ≡ Some (length bytes)) more (rw hs rest)
    by false hb false hs c others e = absurd cc

pub count_below-next : (m : ℕ) (bytes : List ℕ) (at : ℕ) → 0 < m
    → count_below m bytes at ≡ cond (eqb at (length bytes)) (Some 0) (cond (item_stands bytes at) (option_map (λ k. suc k) (count_below (m - 1) bytes (item_behind bytes at))) None)
count_below-next zero bytes at lt = absurd (omega arith)
count_below-next (suc m) bytes at lt = let less : suc m - 1 ≡ m = omega arith in rw less refl

-- ---- the loop that counts them

one_more : (count : ℕ) (c : Option ℕ) → option_map (λ n. count + n) (option_map (λ n. suc n) c) ≡ option_map (λ n. count + 1 + n) c
one_more count None = refl
one_more count (Some n) = ap (λ (k : ℕ). Some k) (omega arith)

-- before the first
option_zero : (c : Option ℕ) → option_map (λ n. 0 + n) c ≡ c
option_zero None = refl
option_zero (Some n) = ap (λ (k : ℕ). Some k) (omega arith)

pub count_below-init : (m : ℕ) (bytes : List ℕ) → option_map (λ n. 0 + n) (count_below (m - 0) bytes 0) ≡ count_below m bytes 0
count_below-init m bytes = let none : m - 0 ≡ m = omega arith in rw none (option_zero (count_below m bytes 0))

-- one more tuple that is there
pub count_below-step : (m count : ℕ) (bytes : List ℕ) (at next : ℕ) (found : Option ℕ) → count < m → at < length bytes
    → Some next ≡ cond (item_stands bytes at) (Some (item_behind bytes at)) None → option_map (λ n. count + n) (count_below (m - count) bytes at) ≡ found
    → option_map (λ n. count + 1 + n) (count_below (m - (count + 1)) bytes next) ≡ found
count_below-step m count bytes at next found lt inside told same =
    let s = stood (item_stands bytes at) (item_behind bytes at) next told in
    let apart : eqb at (length bytes) ≡ false = grind (arith, nat_tests) in
    let less : m - (count + 1) ≡ m - count - 1 = omega arith in
    let first : count_below (m - count) bytes at ≡ option_map (λ n. suc n) (count_below (m - count - 1) bytes (item_behind bytes at)) =
    count_below-next (m - count) bytes at (omega arith) ∙ rw (apart, s.0) refl in
    rw (less, s.1) (sym (ap (option_map (λ n. count + n)) first ∙ one_more count (count_below (m - count - 1) bytes (item_behind bytes at))) ∙ same)

-- one that isn't
pub count_below-stop : (m count : ℕ) (bytes : List ℕ) (at : ℕ) (found : Option ℕ) → count < m → at < length bytes
    → None ≡ cond (item_stands bytes at) (Some (item_behind bytes at)) None → option_map (λ n. count + n) (count_below (m - count) bytes at) ≡ found → None ≡ found
count_below-stop m count bytes at found lt inside told same =
    let fell = fallen (item_stands bytes at) (item_behind bytes at) told in
    let apart : eqb at (length bytes) ≡ false = grind (arith, nat_tests) in
    let first : count_below (m - count) bytes at ≡ None = count_below-next (m - count) bytes at (omega arith) ∙ rw (apart, fell) refl in
    sym (ap (option_map (λ n. count + n)) first) ∙ same

-- the end of the bytes
pub count_below-end : (m count : ℕ) (bytes : List ℕ) (at : ℕ) (found : Option ℕ) → count < m → at ≡ length bytes
    → option_map (λ n. count + n) (count_below (m - count) bytes at) ≡ found → Some count ≡ found
count_below-end m count bytes at found lt end same =
    let there : eqb at (length bytes) ≡ true = grind (arith, nat_tests) in
    let first : count_below (m - count) bytes at ≡ Some 0 = count_below-next (m - count) bytes at (omega arith) ∙ rw there refl in
    let none : count + 0 ≡ count = omega arith in
    ap (λ (k : ℕ). Some k) (sym none) ∙ sym (ap (option_map (λ n. count + n)) first) ∙ same
