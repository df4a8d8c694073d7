-- A change of a B-tree page's special space.
use Rattle.std.proofs.Common.{◌≡◌, ◌≢◌, ℕ, ◌+◌, ◌-◌, ◌*◌, ◌/◌, ◌%◌, ◌<◌, ◌≤◌, ◌==◌, ◌⊎◌, inl, inr, ⊎_elim, List, [], ◌∷◌, Bool, true, false, length, refl, sym, ◌∙◌, ap, subst, arith}
use Rattle.std.specs.Prelude.{nat_le}
use Rattle.std.proofs.lemmas.Bool.Decides.{nat_tests, eqb_tells, leb_tells}
use Rattle.std.proofs.lemmas.List.{ext_get_or}
use Rattle.layout.specs.Splice.{splice}
use Rattle.page_layout.specs.Bytes.{byte, cut}
use Rattle.page_layout.specs.Page.{pd_lower, pd_upper, count}
use Rattle.layout.proofs.SpliceLemmas.{length-splice, byte-splice_in, byte-splice_out, byte-splice_below}
use Rattle.page_layout.proofs.BytesLemmas.{length-cut, byte-cut}
use Rattle.page_layout.proofs.Front as Front
use Rattle.page_layout.proofs.Front.{SameFront}
use Rattle.page_masks.specs.Mask.{mask, is_leaf, shown_line, shown_flags}
use Rattle.page_laws.specs.Btree.{BtreePage, shown_special, with_special, SpecialChange, StaysLeaf}
use Rattle.page_laws.proofs.BtreeAlike.{BtreeAlike, btree_masks, btree_alike}

-- what is shown of 16 bytes
module _ (x : List ℕ) (size : length x ≡ 16) where
  abbrev one : List ℕ
  one = splice x 12 (shown_flags (byte x 12) ∷ [])

  one_size : length one ≡ 16
  one_size = length-splice x 12 (shown_flags (byte x 12) ∷ []) (omega (arith, size)) ∙ size

  shown_size : length (shown_special x) ≡ 16
  shown_size = length-splice one 14 (0 ∷ 0 ∷ []) (omega (arith, one_size)) ∙ one_size

  plain_at : (i : ℕ) → i < 14 → i ≢ 12 → byte (shown_special x) i ≡ byte x i
  plain_at i lt ne = byte-splice_below one 14 (0 ∷ 0 ∷ []) i (omega (arith, one_size)) lt ∙ byte-splice_out x 12 (shown_flags (byte x 12) ∷ []) i (omega (arith, size))
      (⊎_elim (λ (t : (nat_le 12 i ≡ true) × (12 ≤ i)). inr (omega (arith, t.1, ne))) (λ (f : (nat_le 12 i ≡ false) × (i < 12)). inl f.1) (leb_tells 12 i))

  flags_at : byte (shown_special x) 12 ≡ shown_flags (byte x 12)
  flags_at = byte-splice_below one 14 (0 ∷ 0 ∷ []) 12 (omega (arith, one_size)) (omega arith) ∙ byte-splice_in x 12 (shown_flags (byte x 12) ∷ []) 12 (omega (arith, size)) (omega arith) (omega arith)

  cycle_at : (i : ℕ) → 14 ≤ i → i < 16 → byte (shown_special x) i ≡ byte (0 ∷ 0 ∷ []) (i - 14)
  cycle_at i le lt = byte-splice_in one 14 (0 ∷ 0 ∷ []) i (omega (arith, one_size)) le lt

-- two special spaces that look the same
pub record SameSpecial (x y : List ℕ) : Type 0 where
  pub plain : (i : ℕ) → i < 14 → i ≢ 12 → byte x i ≡ byte y i
  pub flags : shown_flags (byte x 12) ≡ shown_flags (byte y 12)

pub same_special : (x y : List ℕ) → length x ≡ 16 → length y ≡ 16 → shown_special x ≡ shown_special y → SameSpecial x y
same_special x y size_x size_y same = record {
  plain = λ i lt ne. sym (plain_at x size_x i lt ne) ∙ ap (λ l. byte l i) same ∙ plain_at y size_y i lt ne;
  flags = sym (flags_at x size_x) ∙ ap (λ l. byte l 12) same ∙ flags_at y size_y;
}

pub special_same : (x y : List ℕ) → length x ≡ 16 → length y ≡ 16 → SameSpecial x y → shown_special x ≡ shown_special y
special_same x y size_x size_y s = ext_get_or 0 (shown_special x) (shown_special y) (shown_size x size_x ∙ sym (shown_size y size_y)) (λ i lt. each i (omega (arith, lt, shown_size x size_x)))
  where
    each : (i : ℕ) → i < 16 → byte (shown_special x) i ≡ byte (shown_special y) i
    each i lt = ⊎_elim
        (λ (t : (nat_le 14 i ≡ true) × (14 ≤ i)). cycle_at x size_x i t.1 lt ∙ sym (cycle_at y size_y i t.1 lt))
        (λ (f : (nat_le 14 i ≡ false) × (i < 14)). ⊎_elim
        (λ (t : ((i == 12) ≡ true) × (i ≡ 12)). subst (λ j. byte (shown_special x) j ≡ byte (shown_special y) j) (sym t.1) (flags_at x size_x ∙ s.flags ∙ sym (flags_at y size_y)))
        (λ (n : ((i == 12) ≡ false) × (i ≢ 12)). plain_at x size_x i f.1 n.1 ∙ s.plain i f.1 n.1 ∙ sym (plain_at y size_y i f.1 n.1))
        (eqb_tells i 12))
        (leb_tells 14 i)

-- one page
module _ (change : List ℕ → List ℕ) (c : SpecialChange change) (p : List ℕ) (h : BtreePage p) where
  abbrev x : List ℕ
  x = cut p 8176 16

  abbrev new : List ℕ
  new = with_special change p

  x_size : length x ≡ 16
  x_size = length-cut p 8176 16 (omega (arith, h.page.size))

  new_size : length (change x) ≡ 16
  new_size = c.size x x_size

  x_at : (i : ℕ) → i < 16 → byte x i ≡ byte p (8176 + i)
  x_at i lt = byte-cut p 8176 16 i lt

  fits : 8176 + length (change x) ≤ length p
  fits = omega (arith, new_size, h.page.size)

  below : (i : ℕ) → i < 8176 → byte new i ≡ byte p i
  below i lt = byte-splice_below p 8176 (change x) i fits lt

  at : (i : ℕ) → i < 16 → byte new (8176 + i) ≡ byte (change x) i
  at i lt = let back : 8176 + i - 8176 ≡ i = omega arith in byte-splice_in p 8176 (change x) (8176 + i) fits (omega arith) (omega (arith, new_size, lt)) ∙ ap (byte (change x)) back

  front : SameFront p new
  front = record { head = λ i le lt. below i (omega (arith, lt)); lines = λ i le lt. below i (omega (arith, lt, h.page.head.mid, h.page.head.high, h.page.special)) }

  pub special_page : BtreePage new
  special_page = record {
    page = record {
      size = length-splice p 8176 (change x) fits ∙ h.page.size;
      head = Front.head_stays p new h.page.head front;
      lines = rw (Front.count_same p new h.page.head front) (Front.lines_fit_same p new h.page.head front (count p) (omega arith) ∙ h.page.lines);
      special = Front.special_same p new h.page.head front ∙ h.page.special;
    };
    cycle = omega (arith, at 14 (omega arith), at 15 (omega arith), c.cycle x x_size (omega (arith, x_at 14 (omega arith), x_at 15 (omega arith), h.cycle)));
  }

-- two pages
module _ (change : List ℕ → List ℕ) (c : SpecialChange change) (p q : List ℕ) (hp : BtreePage p) (hq : BtreePage q) (a : BtreeAlike p q) where
  abbrev xp : List ℕ
  xp = cut p 8176 16

  abbrev xq : List ℕ
  xq = cut q 8176 16

  size_p : length xp ≡ 16
  size_p = x_size change c p hp

  size_q : length xq ≡ 16
  size_q = x_size change c q hq

  upper_low : pd_upper p ≤ 8176
  upper_low = omega (arith, hp.page.head.high, hp.page.special)

  link : (i : ℕ) → i < 12 → byte xp i ≡ byte xq i
  link i lt = x_at change c p hp i (omega (arith, lt)) ∙ a.items (8176 + i) (omega (arith, upper_low)) (omega (arith, lt)) ∙ sym (x_at change c q hq i (omega (arith, lt)))

  plain : (i : ℕ) → i < 14 → i ≢ 12 → byte xp i ≡ byte xq i
  plain i lt ne = ⊎_elim
      (λ (t : (nat_le 12 i ≡ true) × (12 ≤ i)). let here : i ≡ 13 = omega (arith, t.1, lt, ne) in subst (λ j. byte xp j ≡ byte xq j) (sym here) (x_at change c p hp 13 (omega arith) ∙ a.last ∙ sym (x_at change c q hq 13 (omega arith))))
      (λ (f : (nat_le 12 i ≡ false) × (i < 12)). link i f.1)
      (leb_tells 12 i)

  flags : shown_flags (byte xp 12) ≡ shown_flags (byte xq 12)
  flags = ap shown_flags (x_at change c p hp 12 (omega arith)) ∙ a.flags ∙ ap shown_flags (sym (x_at change c q hq 12 (omega arith)))

  shown : shown_special xp ≡ shown_special xq
  shown = special_same xp xq size_p size_q (record { plain = plain; flags = flags })

  abbrev new_p : List ℕ
  new_p = with_special change p

  abbrev new_q : List ℕ
  new_q = with_special change q

  after : SameSpecial (change xp) (change xq)
  after = same_special (change xp) (change xq) (c.size xp size_p) (c.size xq size_q) (c.shown xp xq size_p size_q shown)

  plain_after : (i : ℕ) → i < 14 → i ≢ 12 → byte new_p (8176 + i) ≡ byte new_q (8176 + i)
  plain_after i lt ne = at change c p hp i (omega (arith, lt)) ∙ after.plain i lt ne ∙ sym (at change c q hq i (omega (arith, lt)))

  low : (i : ℕ) → i < 8176 → (byte p i ≡ byte q i) → byte new_p i ≡ byte new_q i
  low i lt e = below change c p hp i lt ∙ e ∙ sym (below change c q hq i lt)

  lower_p : pd_lower new_p ≡ pd_lower p
  lower_p = Front.lower_same p new_p hp.page.head (front change c p hp)

  upper_p : pd_upper new_p ≡ pd_upper p
  upper_p = Front.upper_same p new_p hp.page.head (front change c p hp)

  -- lines of a page that isn't a leaf look alike on a leaf too
  lines : StaysLeaf change ⊎ (count p ≡ 0) → (i : ℕ) → 24 ≤ i → i < pd_lower p → shown_line (is_leaf new_p) i (byte p i) ≡ shown_line (is_leaf new_p) i (byte q i)
  lines (inr none) i le lt = absurd (omega (arith, none, le, lt, hp.page.head.low, hp.page.head.by4))
  lines (inl leaf) i le lt = pick (byte p 8188 % 2 == 1) refl (a.lines i le lt)
    where
      pick : (l : Bool) → (byte p 8188 % 2 == 1) ≡ l → shown_line l i (byte p i) ≡ shown_line l i (byte q i) → shown_line (is_leaf new_p) i (byte p i) ≡ shown_line (is_leaf new_p) i (byte q i)
      pick false e same = ap (shown_line (is_leaf new_p) i) same
      pick true e same =
          let odd : byte p 8188 % 2 ≡ 1 = grind (arith, nat_tests, e) in
          let new_odd : byte new_p 8188 % 2 ≡ 1 = ap (λ b. b % 2) (at change c p hp 12 (omega arith)) ∙ leaf xp size_p (ap (λ b. b % 2) (x_at change c p hp 12 (omega arith)) ∙ odd) in
          rw new_odd same

  special_alike : StaysLeaf change ⊎ (count p ≡ 0) → BtreeAlike new_p new_q
  special_alike either = record {
    ten = (λ t. below change c p hp 10 (omega arith) t / 8 * 8) ∙ a.ten ∙ (λ t. sym (below change c q hq 10 (omega arith)) t / 8 * 8);
    head = λ i le lt. low i (omega (arith, lt)) (a.head i le lt);
    lines = λ i le lt. let small : i < 8176 = omega (arith, lt, lower_p, hp.page.head.mid, upper_low) in
        ap (shown_line (is_leaf new_p) i) (below change c p hp i small) ∙ lines either i le (omega (arith, lt, lower_p)) ∙ ap (shown_line (is_leaf new_p) i) (sym (below change c q hq i small));
    items = λ i le lt. ⊎_elim
        (λ (t : (nat_le 8176 i ≡ true) × (8176 ≤ i)). let back : 8176 + (i - 8176) ≡ i = omega (arith, t.1) in subst (λ j. byte new_p j ≡ byte new_q j) back (plain_after (i - 8176) (omega (arith, lt, t.1)) (λ (e : i - 8176 ≡ 12). omega (arith, e, lt))))
        (λ (f : (nat_le 8176 i ≡ false) × (i < 8176)). low i f.1 (a.items i (omega (arith, le, upper_p)) lt))
        (leb_tells 8176 i);
    flags = ap shown_flags (at change c p hp 12 (omega arith)) ∙ after.flags ∙ ap shown_flags (sym (at change c q hq 12 (omega arith)));
    last = plain_after 13 (omega arith) (λ (e : 13 ≡ 12). omega (arith, e));
  }

pub special_respects : (block : ℕ) (change : List ℕ → List ℕ) (p q : List ℕ) → SpecialChange change → BtreePage p → BtreePage q → StaysLeaf change ⊎ (count p ≡ 0) → mask block p ≡ mask block q
    → mask block (with_special change p) ≡ mask block (with_special change q)
special_respects block change p q c hp hq either same =
    btree_masks block (with_special change p) (with_special change q) (special_page change c p hp) (special_page change c q hq) (special_alike change c p q hp hq (btree_alike block p q hp hq same) either)

pub special_keeps : (change : List ℕ → List ℕ) (p : List ℕ) → SpecialChange change → BtreePage p → BtreePage (with_special change p)
special_keeps change p c h = special_page change c p h
