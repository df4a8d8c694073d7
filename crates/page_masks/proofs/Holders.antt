-- Which line holds a byte of a heap page, and what the mask shows there.
use Rattle.std.proofs.Common.{◌≡◌, ◌≢◌, ℕ, zero, suc, ◌+◌, ◌-◌, ◌/◌, ◌%◌, ◌<◌, ◌≤◌, ◌==◌, ◌&&◌, ⊎_elim, List, Bool, true, false, Some, None, refl, sym, ◌∙◌, ap, subst, arith}
use Rattle.std.specs.Prelude.{if◌then◌else◌, nat_lt, nat_le}
use Rattle.std.proofs.lemmas.Bool.Decides.{nat_tests, eqb_tells}
use Rattle.page_layout.specs.Bytes.{byte, up8, page_of}
use Rattle.page_layout.specs.Page.{pd_upper, count, lp_off, lp_len}
use Rattle.page_layout.proofs.BytesLemmas.{byte-page_of, length-page_of, same_pages}
use Rattle.page_layout.proofs.ShapeLemmas.{item_in, line_fits_at}
use Rattle.page_masks.specs.Mask.{masked_held, holds, holder, by_holder, shown_lower, masked_front, heap_byte}
use Rattle.page_masks.specs.Shapes.{HeapPage}
use Rattle.page_layout.specs.Apart.{AreApart}
use Rattle.page_masks.proofs.HeapLaid.{Fit, heap_open}

-- the mask of a heap page
abbrev pub heap_mask : ℕ → List ℕ → List ℕ
heap_mask block p = page_of (heap_byte block p)

pub fit_of : (p : List ℕ) → HeapPage p → Fit p (count p)
fit_of p h = λ k lt some. item_in p k h.head (line_fits_at p (count p) k h.lines lt) some

-- equal lines have equal holders
pub holder_same : (p q : List ℕ) (n i : ℕ) → ((k : ℕ) → k < n → lp_off p k ≡ lp_off q k) → ((k : ℕ) → k < n → lp_len p k ≡ lp_len q k) → holder p n i ≡ holder q n i
unfolding holds
holder_same p q zero i offs lens = refl
holder_same p q (suc n) i offs lens =
    let o = offs n (omega arith) in
    let l = lens n (omega arith) in
    let r = holder_same p q n i (λ k lt. offs k (omega arith)) (λ k lt. lens k (omega arith)) in
    λ t. if (nat_le (o t) i && nat_lt i (o t + up8 (l t))) then Some n else r t

pub record Holder (p : List ℕ) (n i k : ℕ) : Type 0 where
  pub below : k < n
  pub here : holds p k i ≡ true

pub holder_is : (p : List ℕ) (n i k : ℕ) → holder p n i ≡ Some k → Holder p n i k
holder_is p zero i k e = cc e
holder_is p (suc n) i k e = by_case (λ e. holder_is p n i k e) (holds p n i) refl e
  where
    some_same : (a b : ℕ) → Some a ≡ Some b → a ≡ b
    some_same a b h = cc h

    by_case : (holder p n i ≡ Some k → Holder p n i k) → (b : Bool) → holds p n i ≡ b → (if b then Some n else holder p n i) ≡ Some k → Holder p (suc n) i k
    by_case before true h e = let same = some_same n k e in record { below = omega (arith, same); here = subst (λ x. holds p x i ≡ true) same h }
    by_case before false h e = let r = before e in record { below = omega (arith, r.below); here = r.here }

pub held_long : (p : List ℕ) (k i : ℕ) → holds p k i ≡ true → 0 < lp_len p k
unfolding holds
held_long p k i e = ⊎_elim
    (λ (t : ((lp_len p k == 0) ≡ true) × (lp_len p k ≡ 0)). absurd (grind (arith, nat_tests, t.1)))
    (λ (f : ((lp_len p k == 0) ≡ false) × (lp_len p k ≢ 0)). omega (arith, f.1))
    (eqb_tells (lp_len p k) 0)

pub none_not : (p : List ℕ) (n k i : ℕ) → holder p n i ≡ None → k < n → holds p k i ≡ false
none_not p zero k i e lt = absurd (omega arith)
none_not p (suc n) k i e lt = by_case (none_not p n k i) (holds p n i) refl e
  where
    by_case : (holder p n i ≡ None → k < n → holds p k i ≡ false) → (b : Bool) → holds p n i ≡ b → (if b then Some n else holder p n i) ≡ None → holds p k i ≡ false
    by_case before true h e = cc e
    by_case before false h e = ⊎_elim
        (λ (t : ((k == n) ≡ true) × (k ≡ n)). subst (λ x. holds p x i ≡ false) (sym t.1) h)
        (λ (f : ((k == n) ≡ false) × (k ≢ n)). before e (omega (arith, f.1)))
        (eqb_tells k n)

pub record Inside (p : List ℕ) (k i : ℕ) : Type 0 where
  pub from : lp_off p k ≤ i
  pub to : i < lp_off p k + up8 (lp_len p k)

pub inside : (p : List ℕ) (k i : ℕ) → holds p k i ≡ true → Inside p k i
unfolding holds
inside p k i e = record { from = grind (arith, nat_tests); to = grind (arith, nat_tests) }

pub holds_in : (p : List ℕ) (k i : ℕ) → lp_off p k ≤ i → i < lp_off p k + up8 (lp_len p k) → holds p k i ≡ true
unfolding holds
holds_in p k i a b = grind (arith, nat_tests)

-- where items don't overlap the line that holds a byte is the only one
not_two : (p : List ℕ) (j k i : ℕ) → j < k → k < count p → AreApart p → holds p j i ≡ true → holds p k i ≡ true → ⊥
not_two p j k i lt there apart hj hk =
    let a = inside p j i hj in let b = inside p k i hk in
    ⊎_elim (λ (x : lp_off p j + up8 (lp_len p j) ≤ lp_off p k). omega (arith, a.to, b.from, x)) (λ (y : lp_off p k + up8 (lp_len p k) ≤ lp_off p j). omega (arith, b.to, a.from, y))
    (apart j k lt there (held_long p j i hj) (held_long p k i hk))

holder_found : (p : List ℕ) (n k i : ℕ) → AreApart p → n ≤ count p → k < n → holds p k i ≡ true → holder p n i ≡ Some k
holder_found p zero k i apart le lt h = absurd (omega arith)
holder_found p (suc n) k i apart le lt h = ⊎_elim
    (λ (t : ((k == n) ≡ true) × (k ≡ n)). let here : holds p n i ≡ true = subst (λ x. holds p x i ≡ true) t.1 h in rw here (ap Some (sym t.1)))
    (λ (f : ((k == n) ≡ false) × (k ≢ n)).
    let below : k < n = omega (arith, f.1) in
    by_case below (holder_found p n k i apart (omega arith) below h) (holds p n i) refl)
    (eqb_tells k n)
  where
    by_case : k < n → holder p n i ≡ Some k → (b : Bool) → holds p n i ≡ b → (if b then Some n else holder p n i) ≡ Some k
    by_case below before true e = absurd (not_two p k n i below (omega arith) apart h e)
    by_case below before false e = before

-- what the mask shows
mask_at : (block : ℕ) (p : List ℕ) (i : ℕ) → i < 8192 → byte (heap_mask block p) i ≡ heap_byte block p i
mask_at block p i lt = byte-page_of (heap_byte block p) i lt

pub shows : (block : ℕ) (p q : List ℕ) (i : ℕ) → heap_mask block p ≡ heap_mask block q → i < 8192 → heap_byte block p i ≡ heap_byte block q i
shows block p q i same lt = sym (mask_at block p i lt) ∙ ap (λ m. byte m i) same ∙ mask_at block q i lt

pub from_bytes : (block : ℕ) (p q : List ℕ) → ((i : ℕ) → i < 8192 → heap_byte block p i ≡ heap_byte block q i) → heap_mask block p ≡ heap_mask block q
from_bytes block p q each = same_pages (heap_mask block p) (heap_mask block q) (length-page_of (heap_byte block p)) (length-page_of (heap_byte block q))
    (λ i lt. mask_at block p i lt ∙ each i lt ∙ sym (mask_at block q i lt))

pub head_front : (p : List ℕ) (i : ℕ) → 24 ≤ shown_lower p → 14 ≤ i → i < 20 → masked_front p i ≡ byte p i
unfolding masked_front
head_front p i low le lt = grind (arith, nat_tests)

pub line_front : (p : List ℕ) (i : ℕ) → 24 ≤ i → i < shown_lower p → masked_front p i ≡ byte p i
unfolding masked_front
line_front p i le lt = grind (arith, nat_tests)

pub low_front : (p : List ℕ) → masked_front p 12 ≡ shown_lower p % 256
unfolding masked_front
low_front p = refl

pub high_front : (p : List ℕ) → masked_front p 13 ≡ shown_lower p / 256
unfolding masked_front
high_front p = refl

pub halves : (a b : ℕ) → a % 256 ≡ b % 256 → a / 256 ≡ b / 256 → a ≡ b
halves a b e f = omega arith

pub front_of : (block : ℕ) (p : List ℕ) (i : ℕ) → i < pd_upper p → heap_byte block p i ≡ masked_front p i
front_of block p i lt = let here : nat_lt i (pd_upper p) ≡ true = grind (arith, nat_tests) in rw (heap_open block p i, here) refl

pub back_of : (block : ℕ) (p : List ℕ) (i : ℕ) → HeapPage p → pd_upper p ≤ i → heap_byte block p i ≡ by_holder block p (byte p i) i (holder p (count p) i)
back_of block p i h le = let past : nat_lt i (pd_upper p) ≡ false = grind (arith, nat_tests) in rw (heap_open block p i, past, h.trimmed) refl

pub held_shows : (block : ℕ) (p : List ℕ) (k o : ℕ) → HeapPage p → AreApart p → k < count p → 0 < lp_len p k → o < up8 (lp_len p k) → heap_byte block p (lp_off p k + o) ≡ byte (masked_held block p k) o
held_shows block p k o h apart lt some small =
    let i = fit_of p h k lt some in
    let found = holder_found p (count p) k (lp_off p k + o) apart (omega arith) lt (holds_in p k (lp_off p k + o) (omega arith) (omega arith)) in
    let back : lp_off p k + o - lp_off p k ≡ o = omega arith in
    back_of block p (lp_off p k + o) h (omega (arith, i.from)) ∙ rw (found, back) refl
