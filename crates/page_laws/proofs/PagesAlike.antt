-- Heap pages that the mask can't tell apart, trimmed or not.
use Rattle.std.proofs.Common.{◌≡◌, ◌≢◌, ℕ, zero, suc, ◌+◌, ◌-◌, ◌*◌, ◌/◌, ◌%◌, ◌<◌, ◌≤◌, ◌==◌, ◌&&◌, ◌⊎◌, inl, inr, ⊎_elim, List, ◌++◌, Bool, true, false, Option, Some, None, length, refl, sym, ◌∙◌, ap, subst, arith}
use Rattle.std.specs.Prelude.{if◌then◌else◌, nat_lt, nat_le, replicate}
use Rattle.std.proofs.lemmas.Bool.Decides.{nat_tests, eqb_tells, leb_tells}
use Rattle.std.proofs.lemmas.List.{get_or_append_left, ext_get_or}
use Rattle.page_layout.specs.Apart.{AreApart}
use Rattle.page_layout.specs.Bytes.{byte, up8}
use Rattle.page_layout.specs.Page.{pd_lower, pd_upper, count, lp_off, lp_flags, lp_len, item}
use Rattle.page_layout.specs.Edits.{is_free, trimmed_count}
use Rattle.page_layout.proofs.BytesLemmas.{length-cut}
use Rattle.page_layout.proofs.ReadLemmas.{upper_u16}
use Rattle.page_layout.proofs.ShapeLemmas.{trimmed_count-le}
use Rattle.page_masks.specs.Mask.{masked_item, masked_held, holds, holder, by_holder, shown_count, shown_lower, masked_front, heap_byte}
use Rattle.page_masks.specs.Shapes.{HeapPage, IsHeap}
use Rattle.page_masks.proofs.HeapLaid.{heap_open, front_open, holds_none}
use Rattle.page_masks.proofs.Holders.{heap_mask, fit_of, holder_same, holder_is, held_long, shows, from_bytes, halves, head_front, line_front, low_front, high_front, front_of, back_of, held_shows}
use Rattle.page_masks.proofs.Laid.{length-masked_item}
use Rattle.page_masks.proofs.Lines.{LinesAlike, alike_off, alike_len, alike_flags}

-- the same header but for what isn't shown, the same lines, and items alike
pub record SameLines (block : ℕ) (p q : List ℕ) : Type 0 where
  pub lowers : pd_lower p ≡ pd_lower q
  pub ten : byte p 10 / 8 * 8 ≡ byte q 10 / 8 * 8
  pub eleven : byte p 11 ≡ byte q 11
  pub head : (i : ℕ) → 16 ≤ i → i < 20 → byte p i ≡ byte q i
  pub lines : LinesAlike false (pd_lower p) p q
  pub items : (k : ℕ) → k < count p → 0 < lp_len p k → masked_item block (k + 1) (lp_flags p k) (item p k) ≡ masked_item block (k + 1) (lp_flags q k) (item q k)

-- .. and the same bytes where no item lies
pub record PagesAlike (block : ℕ) (p q : List ℕ) : Type 0 where
  pub same : SameLines block p q
  pub uppers : (byte p 14 ≡ byte q 14) × (byte p 15 ≡ byte q 15)
  pub free : (i : ℕ) → pd_upper p ≤ i → i < 8192 → holder p (count p) i ≡ None → byte p i ≡ byte q i

module _ (block : ℕ) (p q : List ℕ) (s : SameLines block p q) (low : 24 ≤ pd_lower p) (by4 : pd_lower p % 4 ≡ 0) where
  pub counts_same : count p ≡ count q
  counts_same = ap (λ n. (n - 24) / 4) s.lowers

  in_lines : (k : ℕ) → k < count p → 28 + 4 * k ≤ pd_lower p
  in_lines k lt = omega arith

  pub off_alike : (k : ℕ) → k < count p → lp_off p k ≡ lp_off q k
  off_alike k lt = alike_off false (pd_lower p) p q s.lines k (in_lines k lt)

  pub len_alike : (k : ℕ) → k < count p → lp_len p k ≡ lp_len q k
  len_alike k lt = alike_len false (pd_lower p) p q s.lines k (in_lines k lt)

  pub flags_alike : (k : ℕ) → k < count p → lp_flags p k ≡ lp_flags q k
  flags_alike k lt = alike_flags false (pd_lower p) p q s.lines k (in_lines k lt) refl

  pub trimmed_alike : (n : ℕ) → n ≤ count p → trimmed_count p n ≡ trimmed_count q n
  trimmed_alike zero le = refl
  trimmed_alike (suc n) le = rw (flags_alike n (omega arith), len_alike n (omega arith), trimmed_alike n (omega arith)) refl

  pub shown_alike : shown_count p ≡ shown_count q
  shown_alike = trimmed_alike (count p) (omega arith) ∙ ap (trimmed_count q) counts_same

-- lines that are trimmed hold no byte
trimmed_holder : (p : List ℕ) (n i : ℕ) → holder p (trimmed_count p n) i ≡ holder p n i
trimmed_holder p zero i = refl
trimmed_holder p (suc n) i = by_case (trimmed_holder p n i) (is_free p n) refl
  where
    by_case : holder p (trimmed_count p n) i ≡ holder p n i → (b : Bool) → is_free p n ≡ b → holder p (if b then trimmed_count p n else suc n) i ≡ (if holds p n i then Some n else holder p n i)
    by_case before false e = refl
    by_case before true e = let none : holds p n i ≡ false = holds_none p n i (grind (arith, nat_tests, e)) in rw none before

front_chain : (a b c d e f : Bool) (ten ten2 low high old old2 : ℕ) → ten ≡ ten2 → (a ≡ false → b ≡ false → c ≡ false → d ≡ false → e ≡ false → f ≡ true → old ≡ old2)
    → (if a then 0 else if b then ten else if c then low else if d then high else if e then 0 else if f then old else 0) ≡ (if a then 0 else if b then ten2 else if c then low else if d then high else if e then 0 else if f then old2 else 0)
front_chain true b c d e f ten ten2 low high old old2 t h = refl
front_chain false true c d e f ten ten2 low high old old2 t h = t
front_chain false false true d e f ten ten2 low high old old2 t h = refl
front_chain false false false true e f ten ten2 low high old old2 t h = refl
front_chain false false false false true f ten ten2 low high old old2 t h = refl
front_chain false false false false false true ten ten2 low high old old2 t h = h refl refl refl refl refl refl
front_chain false false false false false false ten ten2 low high old old2 t h = refl

module _ (block : ℕ) (p q : List ℕ) (hp : IsHeap p) (hq : IsHeap q) (a : PagesAlike block p q) where
  abbrev s : SameLines block p q
  s = a.same

  pub upper_alike : pd_upper p ≡ pd_upper q
  unfolding pd_upper
  upper_alike = λ t. a.uppers.0 t + 256 * a.uppers.1 t

  shown : shown_count p ≡ shown_count q
  shown = shown_alike block p q s hp.head.low hp.head.by4

  n_le : shown_count p ≤ count p
  n_le = trimmed_count-le p (count p)

  old_byte : (i : ℕ) → i ≢ 10 → i ≢ 12 → i ≢ 13 → 10 ≤ i → (i < 20) ⊎ (24 ≤ i) → i < shown_lower p → byte p i ≡ byte q i
  old_byte i n10 n12 n13 le out lt = ⊎_elim
      (λ (l : i < 20). ⊎_elim
      (λ (t16 : (nat_le 16 i ≡ true) × (16 ≤ i)). s.head i t16.1 l)
      (λ (f16 : (nat_le 16 i ≡ false) × (i < 16)). ⊎_elim
      (λ (t : ((i == 11) ≡ true) × (i ≡ 11)). subst (λ x. byte p x ≡ byte q x) (sym t.1) s.eleven)
      (λ (n11 : ((i == 11) ≡ false) × (i ≢ 11)). ⊎_elim
      (λ (t : ((i == 14) ≡ true) × (i ≡ 14)). subst (λ x. byte p x ≡ byte q x) (sym t.1) a.uppers.0)
      (λ (n14 : ((i == 14) ≡ false) × (i ≢ 14)). let here : i ≡ 15 = omega (arith, f16.1, le, n10, n11.1, n12, n13, n14.1) in subst (λ x. byte p x ≡ byte q x) (sym here) a.uppers.1)
      (eqb_tells i 14))
      (eqb_tells i 11))
      (leb_tells 16 i))
      (λ (h : 24 ≤ i). s.lines i h (omega (arith, lt, n_le, hp.head.low, hp.head.by4)))
      out

  fronts : (i : ℕ) → masked_front p i ≡ masked_front q i
  fronts i = front_open p i ∙ rw shown (front_chain (nat_lt i 10) (i == 10) (i == 12) (i == 13) (nat_le 20 i && nat_lt i 24) (nat_lt i (shown_lower q)) (byte p 10 / 8 * 8) (byte q 10 / 8 * 8) (shown_lower q % 256) (shown_lower q / 256) (byte p i) (byte q i) s.ten
      (λ e1 e2 e3 e4 e5 e6. old_byte i (grind (arith, nat_tests, e2)) (grind (arith, nat_tests, e3)) (grind (arith, nat_tests, e4)) (grind (arith, nat_tests, e1)) (between e5) (let lt : i < shown_lower q = grind (arith, nat_tests, e6) in omega (arith, lt, shown)))) ∙ sym (front_open q i)
    where
      between : (nat_le 20 i && nat_lt i 24) ≡ false → (i < 20) ⊎ (24 ≤ i)
      between e = ⊎_elim (λ (t : (nat_le 20 i ≡ true) × (20 ≤ i)). inr (grind (arith, nat_tests, e, t.0))) (λ (f : (nat_le 20 i ≡ false) × (i < 20)). inl f.1) (leb_tells 20 i)

  held_same : (k : ℕ) → k < count p → 0 < lp_len p k → masked_held block p k ≡ masked_held block q k
  unfolding masked_held
  held_same k lt some = λ t. s.items k lt some t ++ replicate (up8 (len_alike block p q s hp.head.low hp.head.by4 k lt t) - len_alike block p q s hp.head.low hp.head.by4 k lt t) 0

  holders : (i : ℕ) → holder q (shown_count q) i ≡ holder p (shown_count p) i
  holders i = sym (holder_same p q (shown_count p) i (λ k lt. off_alike block p q s hp.head.low hp.head.by4 k (omega (arith, lt, n_le))) (λ k lt. len_alike block p q s hp.head.low hp.head.by4 k (omega (arith, lt, n_le))) ∙ ap (λ n. holder q n i) shown)

  held : (i : ℕ) → pd_upper p ≤ i → i < 8192 → (c : Option ℕ) → holder p (shown_count p) i ≡ c → by_holder block p (byte p i) i c ≡ by_holder block q (byte q i) i c
  held i le lt None e = a.free i le lt (sym (trimmed_holder p (count p) i) ∙ e)
  held i le lt (Some k) e =
      let r = holder_is p (shown_count p) i k e in
      let there : k < count p = omega (arith, r.below, n_le) in
      λ t. byte (held_same k there (held_long p k i r.here) t) (i - off_alike block p q s hp.head.low hp.head.by4 k there t)

  pub alike_mask : heap_mask block p ≡ heap_mask block q
  alike_mask = from_bytes block p q (λ i lt. heap_open block p i ∙ pick i lt (nat_lt i (pd_upper p)) refl ∙ sym (heap_open block q i))
    where
      pick : (i : ℕ) → i < 8192 → (b : Bool) → nat_lt i (pd_upper p) ≡ b → (if b then masked_front p i else by_holder block p (byte p i) i (holder p (shown_count p) i)) ≡ (if nat_lt i (pd_upper q) then masked_front q i else by_holder block q (byte q i) i (holder q (shown_count q) i))
      pick i lt true e = rw (← upper_alike, e) (fronts i)
      pick i lt false e = rw (← upper_alike, e, holders i) (held i (grind (arith, nat_tests, e)) lt (holder p (shown_count p) i) refl)

-- an item as the mask shows it, byte by byte
masked_length : (block : ℕ) (r : List ℕ) (k : ℕ) → HeapPage r → k < count r → 0 < lp_len r k → length (masked_item block (k + 1) (lp_flags r k) (item r k)) ≡ lp_len r k
masked_length block r k h lt some = let i = fit_of r h k lt some in length-masked_item block (k + 1) (lp_flags r k) (item r k) ∙ length-cut r (lp_off r k) (lp_len r k) (omega (arith, i.to, h.head.top, h.size))

item_shows : (block : ℕ) (r : List ℕ) (k o : ℕ) → HeapPage r → AreApart r → k < count r → 0 < lp_len r k → o < lp_len r k → byte (masked_item block (k + 1) (lp_flags r k) (item r k)) o ≡ heap_byte block r (lp_off r k + o)
unfolding masked_held
item_shows block r k o h apart lt some small =
    sym (get_or_append_left (masked_item block (k + 1) (lp_flags r k) (item r k)) (replicate (up8 (lp_len r k) - lp_len r k) 0) 0 o (omega (arith, small, masked_length block r k h lt some)))
    ∙ sym (held_shows block r k o h apart lt some (omega (arith, small)))

-- from the mask: trimmed heap pages, and where their items don't overlap these are alike too
module _ (block : ℕ) (p q : List ℕ) (hp : HeapPage p) (hq : HeapPage q) (same : heap_mask block p ≡ heap_mask block q) where
  lower_of : (r : List ℕ) → HeapPage r → shown_lower r ≡ pd_lower r
  lower_of r h = omega (arith, h.trimmed, h.head.low, h.head.by4)

  front_shown : (i : ℕ) → i < pd_upper p → i < pd_upper q → masked_front p i ≡ masked_front q i
  front_shown i lt_p lt_q = sym (front_of block p i lt_p) ∙ shows block p q i same (omega (arith, lt_p, hp.head.high, hp.head.top)) ∙ front_of block q i lt_q

  early : (i : ℕ) → i < 24 → masked_front p i ≡ masked_front q i
  early i lt = front_shown i (omega (arith, lt, hp.head.low, hp.head.mid)) (omega (arith, lt, hq.head.low, hq.head.mid))

  pub lowers_shown : pd_lower p ≡ pd_lower q
  lowers_shown = sym (lower_of p hp) ∙ halves (shown_lower p) (shown_lower q) (sym (low_front p) ∙ early 12 (omega arith) ∙ low_front q) (sym (high_front p) ∙ early 13 (omega arith) ∙ high_front q) ∙ lower_of q hq

  pub count_shown : count p ≡ count q
  count_shown = ap (λ n. (n - 24) / 4) lowers_shown

  lines_shown : LinesAlike false (pd_lower p) p q
  lines_shown = λ i le lt. sym (line_front p i le (omega (arith, lt, lower_of p hp))) ∙ front_shown i (omega (arith, lt, hp.head.mid)) (omega (arith, lt, lowers_shown, hq.head.mid))
      ∙ line_front q i le (omega (arith, lt, lowers_shown, lower_of q hq))

  in_shown : (k : ℕ) → k < count p → 28 + 4 * k ≤ pd_lower p
  in_shown k lt = omega (arith, lt, hp.head.low, hp.head.by4)

  pub off_shown : (k : ℕ) → k < count p → lp_off p k ≡ lp_off q k
  off_shown k lt = alike_off false (pd_lower p) p q lines_shown k (in_shown k lt)

  pub len_shown : (k : ℕ) → k < count p → lp_len p k ≡ lp_len q k
  len_shown k lt = alike_len false (pd_lower p) p q lines_shown k (in_shown k lt)

  head_shown : (i : ℕ) → 14 ≤ i → i < 20 → byte p i ≡ byte q i
  head_shown i le lt = sym (head_front p i (omega (arith, lower_of p hp, hp.head.low)) le lt) ∙ early i (omega (arith, lt)) ∙ head_front q i (omega (arith, lower_of q hq, hq.head.low)) le lt

  eleven_at : (r : List ℕ) → 24 ≤ shown_lower r → masked_front r 11 ≡ byte r 11
  eleven_at r le = let e : nat_lt 11 (shown_lower r) ≡ true = grind (arith, nat_tests) in front_open r 11 ∙ rw e refl

  uppers_shown : pd_upper p ≡ pd_upper q
  uppers_shown = upper_u16 p ∙ (λ t. head_shown 14 (omega arith) (omega arith) t + 256 * head_shown 15 (omega arith) (omega arith) t) ∙ sym (upper_u16 q)

  item_same : AreApart p → AreApart q → (k : ℕ) → k < count p → 0 < lp_len p k → masked_item block (k + 1) (lp_flags p k) (item p k) ≡ masked_item block (k + 1) (lp_flags q k) (item q k)
  item_same ap_p ap_q k lt some =
      let i = fit_of p hp k lt some in
      let lt_q : k < count q = omega (arith, lt, count_shown) in
      let some_q : 0 < lp_len q k = omega (arith, some, len_shown k lt) in
      let len_p = masked_length block p k hp lt some in
      ext_get_or 0 (masked_item block (k + 1) (lp_flags p k) (item p k)) (masked_item block (k + 1) (lp_flags q k) (item q k)) (len_p ∙ len_shown k lt ∙ sym (masked_length block q k hq lt_q some_q))
      (λ o small.
      let in_p : o < lp_len p k = omega (arith, small, len_p) in
      item_shows block p k o hp ap_p lt some in_p
      ∙ shows block p q (lp_off p k + o) same (omega (arith, in_p, i.to, hp.head.top))
      ∙ ap (λ x. heap_byte block q (x + o)) (off_shown k lt)
      ∙ sym (item_shows block q k o hq ap_q lt_q some_q (omega (arith, in_p, len_shown k lt))))

  pub pages_alike : AreApart p → AreApart q → PagesAlike block p q
  pages_alike ap_p ap_q = record {
    same = record {
      lowers = lowers_shown;
      ten = sym (front_open p 10) ∙ early 10 (omega arith) ∙ front_open q 10;
      eleven = sym (eleven_at p (omega (arith, lower_of p hp, hp.head.low))) ∙ early 11 (omega arith) ∙ eleven_at q (omega (arith, lower_of q hq, hq.head.low));
      head = λ i le lt. head_shown i (omega (arith, le)) lt;
      lines = lines_shown;
      items = item_same ap_p ap_q;
    };
    uppers = (head_shown 14 (omega arith) (omega arith), head_shown 15 (omega arith) (omega arith));
    free = λ i le lt none.
        let none_q : holder q (count q) i ≡ None = sym (holder_same p q (count p) i off_shown len_shown ∙ ap (λ n. holder q n i) count_shown) ∙ none in
        let a : heap_byte block p i ≡ byte p i = back_of block p i hp le ∙ rw none refl in
        let b : heap_byte block q i ≡ byte q i = back_of block q i hq (omega (arith, le, uppers_shown)) ∙ rw none_q refl in
        sym a ∙ shows block p q i same lt ∙ b;
  }
