-- A masked page is of the same kind.
use Rattle.std.proofs.Common.{◌≡◌, ◌≢◌, ℕ, ◌+◌, ◌-◌, ◌*◌, ◌/◌, ◌%◌, ◌<◌, ◌≤◌, ◌==◌, ◌&&◌, ⊎_elim, List, true, false, length, refl, sym, ◌∙◌, ap, subst, arith}
use Rattle.std.specs.Prelude.{if◌then◌else◌, nat_lt, nat_le}
use Rattle.std.proofs.lemmas.Bool.Decides.{nat_tests, eqb_tells, leb_tells}
use Rattle.std.proofs.lemmas.List.{get_or_past}
use Rattle.page_layout.specs.Bytes.{byte, u16_at, u32_at, page_of, u16_bytes}
use Rattle.page_layout.specs.Page.{pd_lower, pd_upper, pd_special, count, lp_off, lp_len, line_fits, lines_fit}
use Rattle.page_layout.specs.Edits.{trimmed, trimmed_count}
use Rattle.layout.proofs.SpliceLemmas.{byte-splice_in}
use Rattle.page_layout.proofs.BytesLemmas.{byte-page_of, length-page_of}
use Rattle.page_layout.proofs.Front as Front
use Rattle.page_layout.proofs.Front.{SameFront}
use Rattle.page_layout.proofs.ReadLemmas.{lower_u16, upper_u16, special_u16}
use Rattle.page_layout.proofs.ShapeLemmas.{lines_below, line_fits_at}
use Rattle.page_masks.specs.declared.kind.PageKind.TheVariants.{Heap, Btree, Sequence}
use Rattle.page_masks.specs.Mask.{mask, heap_byte, masked_front, is_leaf, shown_line, btree_byte, btree_front, sequence_byte, other_byte, shown_lower}
use Rattle.page_masks.specs.Shapes.{HeapPage, IsHeap, IsBtree}
use Rattle.page_masks.proofs.Holders.{heap_mask, front_of, line_front, head_front, low_front, high_front}
use Rattle.page_masks.proofs.Lines.{LinesAlike, shown_twice, alike_off, alike_len}
use Rattle.page_masks.proofs.LsnUnshown.{btree_open, btree_front_open}
use Rattle.page_masks.proofs.OtherBytes.{other_open, sequence_open}
use Rattle.page_masks.proofs.ShapeKind.{shape_kind, shape_cases, masked_as, mask_is, HasKind, IsSequence, shape_heap, shape_btree, shape_sequence, kind_tail, SameTail}
use Rattle.page_masks.proofs.Trimmed.{trimmed_page, trimmed_mask, heap_stays, count_q}
use Rattle.page_masks.proofs.Unshown.{heap_mask_is, is_heap}

eleven_front : (p : List ℕ) → 24 ≤ shown_lower p → masked_front p 11 ≡ byte p 11
unfolding masked_front
eleven_front p low = let e : nat_lt 11 (shown_lower p) ≡ true = grind (arith, nat_tests) in rw e refl

module _ (block : ℕ) (p : List ℕ) (hp : IsHeap p) where
  abbrev t : List ℕ
  t = trimmed p

  abbrev new_lower : ℕ
  new_lower = 24 + 4 * trimmed_count p (count p)

  h : HeapPage t
  h = trimmed_page p hp

  new_shown : shown_lower t ≡ new_lower
  new_shown = ap (λ n. 24 + 4 * n) (h.trimmed ∙ count_q p hp)

  pub lower_shown : shown_lower t ≡ pd_lower t
  lower_shown = omega (arith, h.trimmed, h.head.low, h.head.by4)

  pub head_shown : (i : ℕ) → 11 ≤ i → i < 20 → heap_byte block t i ≡ byte t i
  head_shown i le lt = front_of block t i (omega (arith, h.head.low, h.head.mid)) ∙ ⊎_elim
      (λ (a : (nat_le 14 i ≡ true) × (14 ≤ i)). head_front t i (omega arith) a.1 lt)
      (λ (a : (nat_le 14 i ≡ false) × (i < 14)). ⊎_elim
      (λ (e : ((i == 12) ≡ true) × (i ≡ 12)). subst (λ x. masked_front t x ≡ byte t x) (sym e.1) (low_front t ∙ ap (λ n. n % 256) new_shown ∙ sym (byte-splice_in p 12 (u16_bytes new_lower) 12 (omega (arith, hp.size)) (omega arith) (omega arith))))
      (λ (e : ((i == 12) ≡ false) × (i ≢ 12)). ⊎_elim
      (λ (f : ((i == 13) ≡ true) × (i ≡ 13)). subst (λ x. masked_front t x ≡ byte t x) (sym f.1) (high_front t ∙ ap (λ n. n / 256) new_shown ∙ sym (byte-splice_in p 12 (u16_bytes new_lower) 13 (omega (arith, hp.size)) (omega arith) (omega arith))))
      (λ (f : ((i == 13) ≡ false) × (i ≢ 13)). let g : i ≡ 11 = omega (arith, a.1, e.1, f.1, le) in subst (λ x. masked_front t x ≡ byte t x) (sym g) (eleven_front t (omega arith)))
      (eqb_tells i 13))
      (eqb_tells i 12))
      (leb_tells 14 i)

  pub line_shown : (i : ℕ) → 24 ≤ i → i < pd_lower t → heap_byte block t i ≡ byte t i
  line_shown i le lt = front_of block t i (omega (arith, h.head.mid)) ∙ line_front t i le (omega (arith, lower_shown))

  pub heap_at : (i : ℕ) → i < 8192 → byte (heap_mask block t) i ≡ heap_byte block t i
  heap_at i lt = byte-page_of (heap_byte block t) i lt

  -- a masked page has the front of the trimmed one
  pub heap_front : SameFront t (heap_mask block t)
  heap_front = record {
    head = λ i le lt. heap_at i (omega arith) ∙ head_shown i le lt;
    lines = λ i le lt. heap_at i (omega (arith, lt, h.head.mid, h.head.high, h.head.top)) ∙ line_shown i le lt;
  }

  pub heap_masked_page : HeapPage (heap_mask block t)
  heap_masked_page = heap_stays t (heap_mask block t) h (length-page_of (heap_byte block t)) heap_front

  pub heap_of_trimmed : heap_mask block p ≡ heap_mask block t
  heap_of_trimmed = sym (heap_mask_is block p hp) ∙ sym (trimmed_mask p hp block) ∙ heap_mask_is block t (is_heap t h)

  heap_kind : HasKind (heap_mask block p) Heap
  heap_kind = subst (λ m. HasKind m Heap) (sym heap_of_trimmed) (shape_heap (heap_mask block t) (is_heap (heap_mask block t) heap_masked_page))

-- B-tree pages
front_head : (lower i ten old line : ℕ) → 11 ≤ i → i < 20 → (if nat_lt i 10 then 0 else if i == 10 then ten else if nat_lt i 20 then old else if nat_lt i 24 then 0 else if nat_lt i lower then line else 0) ≡ old
front_head lower i ten old line le lt = grind (arith, nat_tests)

front_line : (lower i ten old a : ℕ) → 24 ≤ i → i < lower → (if nat_lt i 10 then 0 else if i == 10 then ten else if nat_lt i 20 then old else if nat_lt i 24 then 0 else if nat_lt i lower then a else 0) ≡ a
front_line lower i ten old a le lt = grind (arith, nat_tests)

module _ (p : List ℕ) (h : IsBtree p) where
  abbrev m : List ℕ
  m = page_of (btree_byte p)

  at : (i : ℕ) → i < 8192 → byte m i ≡ btree_byte p i
  at i lt = byte-page_of (btree_byte p) i lt

  in_front : (i : ℕ) → i < pd_upper p → btree_byte p i ≡ btree_front p i
  in_front i lt = let here : nat_lt i (pd_upper p) ≡ true = grind (arith, nat_tests) in btree_open p i ∙ rw here refl

  pub btree_head : (i : ℕ) → 11 ≤ i → i < 20 → byte m i ≡ byte p i
  btree_head i le lt = at i (omega arith) ∙ in_front i (omega (arith, h.head.low, h.head.mid)) ∙ btree_front_open p i ∙ front_head (pd_lower p) i (byte p 10 / 8 * 8) (byte p i) (shown_line (is_leaf p) i (byte p i)) le lt

  pub btree_line : (i : ℕ) → 24 ≤ i → i < pd_lower p → byte m i ≡ shown_line (is_leaf p) i (byte p i)
  btree_line i le lt = at i (omega (arith, lt, h.head.mid, h.head.high, h.head.top)) ∙ in_front i (omega (arith, h.head.mid)) ∙ btree_front_open p i
      ∙ front_line (pd_lower p) i (byte p 10 / 8 * 8) (byte p i) (shown_line (is_leaf p) i (byte p i)) le lt

  btree_lines : LinesAlike (is_leaf p) (pd_lower p) m p
  btree_lines = λ i le lt. ap (shown_line (is_leaf p) i) (btree_line i le lt) ∙ shown_twice (is_leaf p) i (byte p i)

  in_lines : (k : ℕ) → k < count p → 28 + 4 * k ≤ pd_lower p
  in_lines k lt = omega (arith, h.head.low, h.head.by4)

  u16_head : (i : ℕ) → 11 ≤ i → i < 19 → u16_at m i ≡ u16_at p i
  u16_head i le lt = λ t. btree_head i le (omega arith) t + 256 * btree_head (i + 1) (omega arith) (omega arith) t

  pub btree_lower : pd_lower m ≡ pd_lower p
  btree_lower = lower_u16 m ∙ u16_head 12 (omega arith) (omega arith) ∙ sym (lower_u16 p)

  pub btree_upper : pd_upper m ≡ pd_upper p
  btree_upper = upper_u16 m ∙ u16_head 14 (omega arith) (omega arith) ∙ sym (upper_u16 p)

  pub btree_special : pd_special m ≡ pd_special p
  btree_special = special_u16 m ∙ u16_head 16 (omega arith) (omega arith) ∙ sym (special_u16 p)

  btree_off : (k : ℕ) → k < count p → lp_off m k ≡ lp_off p k
  btree_off k lt = alike_off (is_leaf p) (pd_lower p) m p btree_lines k (in_lines k lt)

  btree_len : (k : ℕ) → k < count p → lp_len m k ≡ lp_len p k
  btree_len k lt = alike_len (is_leaf p) (pd_lower p) m p btree_lines k (in_lines k lt)

  pub btree_back : (i : ℕ) → pd_upper p ≤ i → i < 8188 → byte m i ≡ byte p i
  btree_back i le lt =
      let past : nat_lt i (pd_upper p) ≡ false = grind (arith, nat_tests) in
      let a : (i == 8188) ≡ false = grind (arith, nat_tests) in
      let b : nat_le 8190 i ≡ false = grind (arith, nat_tests) in
      at i (omega arith) ∙ btree_open p i ∙ rw (past, a, b) refl

  zero_end : (i : ℕ) → 8190 ≤ i → i < 8192 → byte m i ≡ 0
  zero_end i le lt =
      let past : nat_lt i (pd_upper p) ≡ false = grind (arith, nat_tests, h.head.high, h.special) in
      let a : (i == 8188) ≡ false = grind (arith, nat_tests) in
      let b : nat_le 8190 i ≡ true = grind (arith, nat_tests) in
      at i lt ∙ btree_open p i ∙ rw (past, a, b) refl

  count_m : count m ≡ count p
  count_m = ap (λ n. (n - 24) / 4) btree_lower

  line_m : (k : ℕ) → k < count p → line_fits m k ≡ line_fits p k
  unfolding line_fits
  line_m k lt = rw (btree_len k lt, btree_off k lt, btree_upper, btree_special) refl

  pub btree_masked_page : IsBtree m
  btree_masked_page = record {
    size = length-page_of (btree_byte p);
    head = record {
      low = rw btree_lower h.head.low;
      mid = rw (btree_lower, btree_upper) h.head.mid;
      high = rw (btree_upper, btree_special) h.head.high;
      top = rw btree_special h.head.top;
      by4 = rw btree_lower h.head.by4;
      by8 = rw btree_upper h.head.by8;
      special8 = rw btree_special h.head.special8;
      layout = u16_head 18 (omega arith) (omega arith) ∙ h.head.layout;
    };
    lines = lines_below m (count m) (λ k lt. line_m k (omega (arith, count_m)) ∙ line_fits_at p (count p) k h.lines (omega (arith, count_m)));
    special = btree_special ∙ h.special;
  }

  btree_kind : HasKind m Btree
  btree_kind = shape_btree m btree_masked_page (omega (arith, zero_end 8190 (omega arith) (omega arith), zero_end 8191 (omega arith) (omega arith)))

-- sequences
module _ (p : List ℕ) (size : length p ≡ 8192) (h : IsSequence p) where
  abbrev s : List ℕ
  s = page_of (sequence_byte p)

  pub sequence_plain : (i : ℕ) → 10 ≤ i → i < 8192 → nat_le (pd_lower p) i && nat_lt i (pd_upper p) ≡ false → byte s i ≡ byte p i
  sequence_plain i le lt out = let low : nat_lt i 10 ≡ false = grind (arith, nat_tests) in byte-page_of (sequence_byte p) i lt ∙ sequence_open p i ∙ rw (low, out) refl

  pub sequence_front : SameFront p s
  sequence_front = record {
    head = λ i le lt. sequence_plain i (omega arith) (omega arith) (grind (arith, nat_tests, h.head.low));
    lines = λ i le lt. sequence_plain i (omega arith) (omega (arith, lt, h.head.mid, h.head.high, h.head.top)) (grind (arith, nat_tests, lt));
  }

  end : (i : ℕ) → 8184 ≤ i → i < 8192 → byte s i ≡ byte p i
  end i le lt = sequence_plain i (omega arith) lt (grind (arith, nat_tests, h.head.high, h.special))

  magic_same : u32_at s 8184 ≡ u32_at p 8184
  magic_same = λ t. end 8184 (omega arith) (omega arith) t + 256 * end 8185 (omega arith) (omega arith) t + 65536 * (end 8186 (omega arith) (omega arith) t + 256 * end 8187 (omega arith) (omega arith) t)

  sequence_kind : HasKind s Sequence
  sequence_kind =
      let n = Front.count_same p s h.head sequence_front in
      shape_sequence s (record {
        head = Front.head_stays p s h.head sequence_front;
        lines = ap (lines_fit s) n ∙ Front.lines_fit_same p s h.head sequence_front (count p) (omega arith) ∙ h.lines;
        special = Front.special_same p s h.head sequence_front ∙ h.special;
        magic = magic_same ∙ h.magic;
      })

pub other_tail_of : (p : List ℕ) → length p ≡ 8192 → SameTail p (page_of (other_byte p))
other_tail_of p size = record { size = size; size_q = length-page_of (other_byte p); tail = tail }
  where
    pad : (i : ℕ) → 8192 ≤ i → byte (page_of (other_byte p)) i ≡ byte p i
    pad i le = past (page_of (other_byte p)) i (omega (arith, length-page_of (other_byte p))) ∙ sym (past p i (omega (arith, size)))
      where
        past : (x : List ℕ) (i : ℕ) → length x ≤ i → byte x i ≡ 0
        past x i le = get_or_past x i 0 le

    tail : (i : ℕ) → 10 ≤ i → byte (page_of (other_byte p)) i ≡ byte p i
    tail i le = ⊎_elim
        (λ (t : (nat_le 8192 i ≡ true) × (8192 ≤ i)). pad i t.1)
        (λ (f : (nat_le 8192 i ≡ false) × (i < 8192)). let low : nat_lt i 10 ≡ false = grind (arith, nat_tests) in byte-page_of (other_byte p) i f.1 ∙ other_open p i ∙ rw low refl)
        (leb_tells 8192 i)

pub mask_as : (block : ℕ) (p : List ℕ) → mask block p ≡ page_of (masked_as (shape_kind p) block p)
mask_as block p = mask_is block p (page_of (masked_as (shape_kind p) block p)) (length-page_of (masked_as (shape_kind p) block p)) (λ i lt. sym (byte-page_of (masked_as (shape_kind p) block p) i lt))

pub kind_shown : (block : ℕ) (p : List ℕ) → length p ≡ 8192 → HasKind (mask block p) (shape_kind p)
kind_shown block p size = subst (λ m. HasKind m (shape_kind p)) (sym (mask_as block p))
    (shape_cases p (λ k. HasKind (page_of (masked_as k block p)) k) size (λ h. heap_kind block p h) (λ h w. btree_kind p h) (λ h. sequence_kind p size h)
    (λ k. record { is = (kind_tail p (page_of (other_byte p)) (other_tail_of p size)).is ∙ k.is }))
