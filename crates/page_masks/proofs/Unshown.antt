-- What the mask of a heap page doesn't show: LSN, checksum, three flags, the prune xid and unused lines at the end.
use Rattle.std.proofs.Common.{◌≡◌, ◌≢◌, ℕ, zero, suc, ◌+◌, ◌-◌, ◌*◌, ◌/◌, ◌%◌, ◌<◌, ◌≤◌, ◌==◌, ◌&&◌, ⊎_elim, List, [], ◌∷◌, Bool, true, false, Option, Some, None, length, refl, sym, ◌∙◌, ap, subst, arith}
use Rattle.std.specs.Prelude.{if◌then◌else◌, nat_lt, nat_le}
use Rattle.std.specs.List.{list_all}
use Rattle.std.proofs.lemmas.Bool.Decides.{nat_tests, eqb_tells, leb_tells}
use Rattle.std.proofs.lemmas.List.{ext_get_or}
use Rattle.page_layout.specs.Bytes.{byte, u16_at, cut, page_of}
use Rattle.page_layout.specs.Page.{pd_upper, pd_special, count, lp_off, lp_flags, lp_len, item, Head, ItemIn, lines_fit, header_fits, well_formed}
use Rattle.page_layout.proofs.BytesLemmas.{length-cut, byte-cut}
use Rattle.page_layout.proofs.ShapeLemmas.{item_in, line_fits_at, trimmed_count-le}
use Rattle.page_masks.specs.declared.kind.PageKind.TheVariants.{Heap}
use Rattle.page_masks.specs.Kind.{kind_of, is_zero}
use Rattle.page_masks.specs.Mask.{masked_held, holder, by_holder, shown_count, shown_lower, masked_front, heap_byte, mask, masked_by}
use Rattle.page_masks.specs.Shapes.{HeapPage, IsHeap}
use Rattle.page_masks.proofs.HeapLaid.{heap_open, front_open}
use Rattle.page_masks.proofs.Holders.{heap_mask, holder_same, holder_is, held_long, from_bytes}

-- the page's kind
pub zero_byte : (p : List ℕ) (i : ℕ) → list_all (λ b. b == 0) p ≡ true → byte p i ≡ 0
zero_byte [] i e = refl
zero_byte (x ∷ xs) zero e = grind (arith, nat_tests)
zero_byte (x ∷ xs) (suc i) e = zero_byte xs i (rest (x == 0) (list_all (λ b. b == 0) xs) e)
  where
    rest : (a b : Bool) → (a && b) ≡ true → b ≡ true
    rest true b h = h
    rest false b h = cc h

pub not_zero : (p : List ℕ) → u16_at p 18 ≡ 8196 → is_zero p ≡ false
not_zero p e = by_case (is_zero p) refl
  where
    by_case : (b : Bool) → is_zero p ≡ b → is_zero p ≡ false
    by_case true h = absurd (omega (arith, zero_byte p 18 h, zero_byte p 19 h))
    by_case false h = h

fits_of : (p : List ℕ) → Head p → header_fits p ≡ true
unfolding header_fits
fits_of p h = grind (arith, nat_tests, h.low, h.mid, h.high, h.top, h.by4, h.by8, h.special8, h.layout)

pub well : (p : List ℕ) → Head p → lines_fit p (count p) ≡ true → well_formed p ≡ true
well p h l = rw (fits_of p h, l) refl

pub kind_heap : (p : List ℕ) → IsHeap p → kind_of p ≡ Heap
unfolding kind_of
kind_heap p h = let special : (pd_special p == 8192) ≡ true = grind (arith, nat_tests, h.heap) in rw (not_zero p h.head.layout, well p h.head h.lines, special) refl

pub heap_mask_is : (block : ℕ) (p : List ℕ) → IsHeap p → mask block p ≡ heap_mask block p
unfolding mask
heap_mask_is block p h = ap (λ k. page_of (λ i. masked_by k block p i)) (kind_heap p h)

pub is_heap : (p : List ℕ) → HeapPage p → IsHeap p
is_heap p h = record { size = h.size; head = h.head; lines = h.lines; heap = h.heap }

-- two pages that differ in what isn't shown
pub record SameShown (p q : List ℕ) : Type 0 where
  pub upper : pd_upper q ≡ pd_upper p
  pub shown : shown_count q ≡ shown_count p
  pub ten : byte q 10 / 8 * 8 ≡ byte p 10 / 8 * 8
  pub eleven : byte q 11 ≡ byte p 11
  pub head : (i : ℕ) → 14 ≤ i → i < 20 → byte q i ≡ byte p i
  pub rest : (i : ℕ) → 24 ≤ i → byte q i ≡ byte p i

module _ (block : ℕ) (p q : List ℕ) (h : IsHeap p) (size_q : length q ≡ 8192) (s : SameShown p q) where
  off_is : (k : ℕ) → lp_off q k ≡ lp_off p k
  unfolding lp_off
  off_is k = λ t. (s.rest (24 + 4 * k) (omega arith) t + 256 * s.rest (24 + 4 * k + 1) (omega arith) t) % 32768

  len_is : (k : ℕ) → lp_len q k ≡ lp_len p k
  unfolding lp_len
  len_is k = λ t. (s.rest (26 + 4 * k) (omega arith) t + 256 * s.rest (26 + 4 * k + 1) (omega arith) t) / 2

  flags_is : (k : ℕ) → lp_flags q k ≡ lp_flags p k
  unfolding lp_flags
  flags_is k = λ t. (s.rest (24 + 4 * k) (omega arith) t + 256 * s.rest (24 + 4 * k + 1) (omega arith) t) / 32768 % 2 + 2 * ((s.rest (26 + 4 * k) (omega arith) t + 256 * s.rest (26 + 4 * k + 1) (omega arith) t) % 2)

  item_is : (k : ℕ) → ItemIn p k → item q k ≡ item p k
  item_is k i =
      let fits : lp_off p k + lp_len p k ≤ 8192 = omega (arith, i.to, h.head.top) in
      rw (off_is k, len_is k) (ext_get_or 0 (cut q (lp_off p k) (lp_len p k)) (item p k)
      (length-cut q (lp_off p k) (lp_len p k) (omega (arith, size_q)) ∙ sym (length-cut p (lp_off p k) (lp_len p k) (omega (arith, h.size))))
      (λ o lt.
      let small : o < lp_len p k = omega (arith, length-cut q (lp_off p k) (lp_len p k) (omega (arith, size_q))) in
      byte-cut q (lp_off p k) (lp_len p k) o small ∙ s.rest (lp_off p k + o) (omega (arith, i.from, h.head.low, h.head.mid)) ∙ sym (byte-cut p (lp_off p k) (lp_len p k) o small)))

  held_is : (k : ℕ) → ItemIn p k → masked_held block q k ≡ masked_held block p k
  unfolding masked_held
  held_is k i = rw (flags_is k, item_is k i, len_is k) refl

  abbrev chain : ℕ → ℕ → ℕ → ℕ
  chain i n x = if nat_lt i 10 then 0 else if i == 10 then byte p 10 / 8 * 8 else if i == 12 then n % 256 else if i == 13 then n / 256 else if nat_le 20 i && nat_lt i 24 then 0 else if nat_lt i n then x else 0

  low_chain : (i n x y : ℕ) → i < 14 → i ≢ 11 → chain i n x ≡ chain i n y
  low_chain i n x y lt ne = grind (arith, nat_tests)

  mid_chain : (i n x y : ℕ) → 20 ≤ i → i < 24 → chain i n x ≡ chain i n y
  mid_chain i n x y le lt = grind (arith, nat_tests)

  chain_is : (i n : ℕ) → chain i n (byte q i) ≡ chain i n (byte p i)
  chain_is i n = ⊎_elim
      (λ (t : (nat_le 24 i ≡ true) × (24 ≤ i)). ap (chain i n) (s.rest i t.1))
      (λ (f : (nat_le 24 i ≡ false) × (i < 24)). ⊎_elim
      (λ (t : (nat_le 20 i ≡ true) × (20 ≤ i)). mid_chain i n (byte q i) (byte p i) t.1 f.1)
      (λ (g : (nat_le 20 i ≡ false) × (i < 20)). ⊎_elim
      (λ (t : (nat_le 14 i ≡ true) × (14 ≤ i)). ap (chain i n) (s.head i t.1 g.1))
      (λ (l : (nat_le 14 i ≡ false) × (i < 14)). ⊎_elim
      (λ (t : ((i == 11) ≡ true) × (i ≡ 11)). subst (λ x. chain x n (byte q x) ≡ chain x n (byte p x)) (sym t.1) (ap (chain 11 n) s.eleven))
      (λ (ne : ((i == 11) ≡ false) × (i ≢ 11)). low_chain i n (byte q i) (byte p i) l.1 ne.1)
      (eqb_tells i 11))
      (leb_tells 14 i))
      (leb_tells 20 i))
      (leb_tells 24 i)

  front_is : (i : ℕ) → masked_front q i ≡ masked_front p i
  front_is i = front_open q i ∙ rw (s.shown, s.ten) (chain_is i (shown_lower p)) ∙ sym (front_open p i)

  by_holder_is : (i : ℕ) → pd_upper p ≤ i → (c : Option ℕ) → holder p (shown_count p) i ≡ c → by_holder block q (byte q i) i c ≡ by_holder block p (byte p i) i c
  by_holder_is i le None e = s.rest i (omega (arith, h.head.low, h.head.mid))
  by_holder_is i le (Some k) e =
      let r = holder_is p (shown_count p) i k e in
      let lt : k < count p = omega (arith, r.below, trimmed_count-le p (count p)) in
      let at = item_in p k h.head (line_fits_at p (count p) k h.lines lt) (held_long p k i r.here) in
      λ t. byte (held_is k at t) (i - off_is k t)

  pub shown_same : (i : ℕ) → heap_byte block q i ≡ heap_byte block p i
  shown_same i = heap_open block q i ∙ rw (s.upper, s.shown) (⊎_elim
      (λ (t : (nat_le (pd_upper p) i ≡ true) × (pd_upper p ≤ i)).
      let past : nat_lt i (pd_upper p) ≡ false = grind (arith, nat_tests, t.1) in
      let hs = holder_same q p (shown_count p) i (λ k lt. off_is k) (λ k lt. len_is k) in
      rw (past, hs, heap_open block p i, past) (by_holder_is i t.1 (holder p (shown_count p) i) refl))
      (λ (f : (nat_le (pd_upper p) i ≡ false) × (i < pd_upper p)).
      let here : nat_lt i (pd_upper p) ≡ true = grind (arith, nat_tests, f.1) in
      rw (here, heap_open block p i, here) (front_is i))
      (leb_tells (pd_upper p) i))

  pub masks_same : heap_mask block q ≡ heap_mask block p
  masks_same = from_bytes block q p (λ i lt. shown_same i)
