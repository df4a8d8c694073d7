-- B-tree pages that the mask can't tell apart: the same header and items, and lines that look alike; and back.
use Rattle.std.proofs.Common.{◌≡◌, ℕ, ◌+◌, ◌-◌, ◌*◌, ◌/◌, ◌%◌, ◌<◌, ◌≤◌, ◌==◌, ⊎_elim, List, Bool, true, false, refl, sym, ◌∙◌, ap, subst, arith}
use Rattle.std.specs.Prelude.{if◌then◌else◌, nat_lt, nat_le}
use Rattle.std.proofs.lemmas.Bool.Decides.{nat_tests, leb_tells}
use Rattle.page_layout.specs.Bytes.{byte, u16_at, page_of}
use Rattle.page_layout.specs.Page.{pd_lower, pd_upper, count}
use Rattle.page_layout.proofs.BytesLemmas.{byte-page_of, length-page_of, same_pages}
use Rattle.page_layout.proofs.ReadLemmas.{lower_u16, upper_u16}
use Rattle.page_masks.specs.Mask.{mask, btree_byte, btree_front, is_leaf, shown_line, shown_flags}
use Rattle.page_masks.specs.Shapes.{IsBtree}
use Rattle.page_masks.proofs.LsnUnshown.{btree_open, btree_front_open}
use Rattle.page_masks.proofs.Lines.{LinesAlike}
use Rattle.page_masks.proofs.MaskShape.{btree_head, btree_line, btree_back, mask_as}
use Rattle.page_masks.proofs.ShapeKind.{masked_as, shape_btree}
use Rattle.page_laws.specs.Btree.{BtreePage}

pub record BtreeAlike (p q : List ℕ) : Type 0 where
  pub ten : byte p 10 / 8 * 8 ≡ byte q 10 / 8 * 8
  pub head : (i : ℕ) → 11 ≤ i → i < 20 → byte p i ≡ byte q i
  pub lines : LinesAlike (is_leaf p) (pd_lower p) p q
  pub items : (i : ℕ) → pd_upper p ≤ i → i < 8188 → byte p i ≡ byte q i
  pub flags : shown_flags (byte p 8188) ≡ shown_flags (byte q 8188)
  pub last : byte p 8189 ≡ byte q 8189

odd_shown : (x y : ℕ) → shown_flags x ≡ shown_flags y → x % 2 ≡ y % 2
odd_shown x y e = omega (arith, e)

module _ (p q : List ℕ) (a : BtreeAlike p q) where
  head_u16 : (i : ℕ) → 11 ≤ i → i < 19 → u16_at p i ≡ u16_at q i
  head_u16 i le lt = λ t. a.head i le (omega arith) t + 256 * a.head (i + 1) (omega arith) (omega arith) t

  pub lower_same : pd_lower p ≡ pd_lower q
  lower_same = lower_u16 p ∙ head_u16 12 (omega arith) (omega arith) ∙ sym (lower_u16 q)

  pub upper_same : pd_upper p ≡ pd_upper q
  upper_same = upper_u16 p ∙ head_u16 14 (omega arith) (omega arith) ∙ sym (upper_u16 q)

  pub count_same : count p ≡ count q
  count_same = ap (λ n. (n - 24) / 4) lower_same

  pub leaf_same : byte p 8188 % 2 ≡ byte q 8188 % 2
  leaf_same = odd_shown (byte p 8188) (byte q 8188) a.flags

  fronts : (i : ℕ) → btree_front p i ≡ btree_front q i
  fronts i = btree_front_open p i ∙ rw (← leaf_same, ← lower_same) (pick (nat_lt i 10) (i == 10) (nat_lt i 20) (nat_lt i 24) (nat_lt i (pd_lower p)) refl refl refl refl refl) ∙ sym (btree_front_open q i)
    where
      pick : (u v w x y : Bool) → nat_lt i 10 ≡ u → (i == 10) ≡ v → nat_lt i 20 ≡ w → nat_lt i 24 ≡ x → nat_lt i (pd_lower p) ≡ y
          → (if u then 0 else if v then byte p 10 / 8 * 8 else if w then byte p i else if x then 0 else if y then shown_line (is_leaf p) i (byte p i) else 0)
          ≡ (if u then 0 else if v then byte q 10 / 8 * 8 else if w then byte q i else if x then 0 else if y then shown_line (is_leaf p) i (byte q i) else 0)
      pick true v w x y eu ev ew ex ey = refl
      pick false true w x y eu ev ew ex ey = a.ten
      pick false false true x y eu ev ew ex ey = a.head i (grind (arith, nat_tests, eu, ev)) (grind (arith, nat_tests, ew))
      pick false false false true y eu ev ew ex ey = refl
      pick false false false false true eu ev ew ex ey = a.lines i (grind (arith, nat_tests, ex)) (grind (arith, nat_tests, ey))
      pick false false false false false eu ev ew ex ey = refl

  backs : (i : ℕ) → pd_upper p ≤ i → i < 8192 → (x y : Bool) → (i == 8188) ≡ x → nat_le 8190 i ≡ y
      → (if x then shown_flags (byte p i) else if y then 0 else byte p i) ≡ (if x then shown_flags (byte q i) else if y then 0 else byte q i)
  backs i le lt true y ex ey = let here : i ≡ 8188 = grind (arith, nat_tests, ex) in subst (λ j. shown_flags (byte p j) ≡ shown_flags (byte q j)) (sym here) a.flags
  backs i le lt false true ex ey = refl
  backs i le lt false false ex ey = ⊎_elim
      (λ (t : (nat_le 8188 i ≡ true) × (8188 ≤ i)). let here : i ≡ 8189 = grind (arith, nat_tests, ex, ey, t.1) in subst (λ j. byte p j ≡ byte q j) (sym here) a.last)
      (λ (f : (nat_le 8188 i ≡ false) × (i < 8188)). a.items i le f.1)
      (leb_tells 8188 i)

  bytes_same : (i : ℕ) → i < 8192 → btree_byte p i ≡ btree_byte q i
  bytes_same i lt = btree_open p i ∙ pick (nat_lt i (pd_upper p)) refl ∙ sym (btree_open q i)
    where
      pick : (b : Bool) → nat_lt i (pd_upper p) ≡ b → (if b then btree_front p i else if i == 8188 then shown_flags (byte p i) else if nat_le 8190 i then 0 else byte p i)
          ≡ (if nat_lt i (pd_upper q) then btree_front q i else if i == 8188 then shown_flags (byte q i) else if nat_le 8190 i then 0 else byte q i)
      pick true e = rw (← upper_same, e) (fronts i)
      pick false e = rw (← upper_same, e) (backs i (grind (arith, nat_tests, e)) lt (i == 8188) (nat_le 8190 i) refl refl)

btree_mask_is : (block : ℕ) (p : List ℕ) → BtreePage p → mask block p ≡ page_of (btree_byte p)
btree_mask_is block p h = mask_as block p ∙ ap (λ k. page_of (masked_as k block p)) (shape_btree p h.page h.cycle).is

pub btree_masks : (block : ℕ) (p q : List ℕ) → BtreePage p → BtreePage q → BtreeAlike p q → mask block p ≡ mask block q
btree_masks block p q hp hq a = btree_mask_is block p hp ∙ same_pages (page_of (btree_byte p)) (page_of (btree_byte q)) (length-page_of (btree_byte p)) (length-page_of (btree_byte q))
    (λ i lt. byte-page_of (btree_byte p) i lt ∙ bytes_same p q a i lt ∙ sym (byte-page_of (btree_byte q) i lt)) ∙ sym (btree_mask_is block q hq)

-- what the mask shows
module _ (p : List ℕ) (h : IsBtree p) where
  abbrev m : List ℕ
  m = page_of (btree_byte p)

  ten_at : byte m 10 ≡ byte p 10 / 8 * 8
  ten_at = let here : nat_lt 10 (pd_upper p) ≡ true = grind (arith, nat_tests, h.head.low, h.head.mid) in byte-page_of (btree_byte p) 10 (omega arith) ∙ btree_open p 10 ∙ rw here (btree_front_open p 10)

  end_at : (i : ℕ) → 8188 ≤ i → i < 8190 → byte m i ≡ (if i == 8188 then shown_flags (byte p i) else byte p i)
  end_at i le lt =
      let past : nat_lt i (pd_upper p) ≡ false = grind (arith, nat_tests, h.head.high, h.special) in
      let no : nat_le 8190 i ≡ false = grind (arith, nat_tests) in
      byte-page_of (btree_byte p) i (omega arith) ∙ btree_open p i ∙ rw (past, no) refl

pub btree_alike : (block : ℕ) (p q : List ℕ) → BtreePage p → BtreePage q → mask block p ≡ mask block q → BtreeAlike p q
btree_alike block p q hp hq same = record {
  ten = sym (ten_at p hp.page) ∙ at 10 ∙ ten_at q hq.page;
  head = head;
  lines = λ i le lt. sym (btree_line p hp.page i le lt) ∙ at i ∙ btree_line q hq.page i le (omega (arith, lt, lowers)) ∙ ap (λ n. shown_line (n == 1) i (byte q i)) (sym leaf);
  items = λ i le lt. sym (btree_back p hp.page i le lt) ∙ at i ∙ btree_back q hq.page i (omega (arith, le, uppers)) lt;
  flags = flags;
  last = sym (end_at p hp.page 8189 (omega arith) (omega arith)) ∙ at 8189 ∙ end_at q hq.page 8189 (omega arith) (omega arith);
}
  where
    at : (i : ℕ) → byte (page_of (btree_byte p)) i ≡ byte (page_of (btree_byte q)) i
    at i = ap (λ x. byte x i) (sym (btree_mask_is block p hp) ∙ same ∙ btree_mask_is block q hq)

    head : (i : ℕ) → 11 ≤ i → i < 20 → byte p i ≡ byte q i
    head i le lt = sym (btree_head p hp.page i le lt) ∙ at i ∙ btree_head q hq.page i le lt

    lowers : pd_lower p ≡ pd_lower q
    lowers = lower_u16 p ∙ (λ t. head 12 (omega arith) (omega arith) t + 256 * head 13 (omega arith) (omega arith) t) ∙ sym (lower_u16 q)

    uppers : pd_upper p ≡ pd_upper q
    uppers = upper_u16 p ∙ (λ t. head 14 (omega arith) (omega arith) t + 256 * head 15 (omega arith) (omega arith) t) ∙ sym (upper_u16 q)

    flags : shown_flags (byte p 8188) ≡ shown_flags (byte q 8188)
    flags = sym (end_at p hp.page 8188 (omega arith) (omega arith)) ∙ at 8188 ∙ end_at q hq.page 8188 (omega arith) (omega arith)

    leaf : byte p 8188 % 2 ≡ byte q 8188 % 2
    leaf = odd_shown (byte p 8188) (byte q 8188) flags
