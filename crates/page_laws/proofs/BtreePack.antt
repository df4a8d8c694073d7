-- Packing B-tree pages that look alike, whatever lies between their items.
use Rattle.std.proofs.Common.{◌≡◌, ℕ, ◌+◌, ◌-◌, ◌*◌, ◌/◌, ◌%◌, ◌<◌, ◌≤◌, ◌==◌, ◌⊎◌, inl, inr, ⊎_elim, List, ◌++◌, true, false, length, sym, ◌∙◌, ap, subst, arith}
use Rattle.std.specs.Prelude.{nat_le, replicate}
use Rattle.std.proofs.lemmas.Bool.Decides.{leb_tells}
use Rattle.page_layout.specs.Bytes.{byte, u16_bytes, up8}
use Rattle.page_layout.specs.Page.{pd_lower, pd_special, count, lp_len, item, IsFormed}
use Rattle.page_layout.specs.Pack.{total, has_room, packed_off, packed}
use Rattle.page_masks.specs.Mask.{is_leaf, shown_line, shown_flags}
use Rattle.page_laws.specs.Btree.{BtreePage}
use Rattle.page_laws.proofs.BtreeAdd.{btree_formed, btree_page}
use Rattle.page_laws.proofs.BtreeAlike.{BtreeAlike, lower_same, count_same}
use Rattle.page_laws.proofs.BtreeShown.{same_len, same_item}
use Rattle.page_laws.proofs.PackLaw as Pack
use Rattle.page_laws.proofs.PackLaw.{Covered, covered, packed_low, packed_top, packed_here, packed_rest, packed_lower, packed_upper, packed_special, packed_formed, lines_packed, rooms_alike, uppers_alike, places_alike}

-- the special space stays
packed_end : (p : List ℕ) → BtreePage p → (room : pd_lower p + total p (count p) ≤ pd_special p) → (i : ℕ) → 8176 ≤ i → byte (packed p) i ≡ byte p i
packed_end p h room i le = packed_rest p (btree_formed p h) room i (omega (arith, le, h.page.special))

pub packed_page : (p : List ℕ) → BtreePage p → pd_lower p + total p (count p) ≤ pd_special p → BtreePage (packed p)
packed_page p h room = btree_page p (packed p) h (packed_formed p (btree_formed p h) room) (packed_special p (btree_formed p h) room) (packed_end p h room)

module _ (p q : List ℕ) (hp : BtreePage p) (hq : BtreePage q) (a : BtreeAlike p q) where
  fp : IsFormed p
  fp = btree_formed p hp

  fq : IsFormed q
  fq = btree_formed q hq

  lowers : pd_lower p ≡ pd_lower q
  lowers = lower_same p q a

  specials : pd_special p ≡ pd_special q
  specials = hp.page.special ∙ sym hq.page.special

  pub same_room : has_room p ≡ has_room q
  same_room = rooms_alike (is_leaf p) p q fp fq lowers specials a.lines

  module _ (room : pd_lower p + total p (count p) ≤ pd_special p) where
    room_q : pd_lower q + total q (count q) ≤ pd_special q
    room_q = Pack.room_alike (is_leaf p) p q fp fq lowers specials a.lines room

    low : (i : ℕ) → (i < 14) ⊎ (16 ≤ i) → 11 ≤ i → i < 20 → byte (packed p) i ≡ byte (packed q) i
    low i out le lt = packed_low p fp room i out (omega (arith, lt)) ∙ a.head i le lt ∙ sym (packed_low q fq room_q i out (omega (arith, lt)))

    end_p : (i : ℕ) → 8176 ≤ i → byte (packed p) i ≡ byte p i
    end_p i le = packed_end p hp room i le

    end_q : (i : ℕ) → 8176 ≤ i → byte (packed q) i ≡ byte q i
    end_q i le = packed_end q hq room_q i le

    -- each byte between upper and the special space is of an item
    held : (i : ℕ) → pd_special p - total p (count p) ≤ i → i < pd_special p → byte (packed p) i ≡ byte (packed q) i
    held i le lt = subst (λ j. byte (packed p) j ≡ byte (packed q) j) back
        (packed_here p fp room c.k o c.below c.some small ∙ (λ t. byte (same t ++ replicate (up8 (length (same t)) - length (same t)) 0) o)
        ∙ sym (packed_here q fq room_q c.k o (omega (arith, c.below, count_same p q a)) (omega (arith, c.some, len)) (omega (arith, small, len))) ∙ ap (λ n. byte (packed q) (n + o)) (sym (places_alike (is_leaf p) p q fp fq lowers specials a.lines c.k c.below)))
      where
        c : Covered p (count p) i
        c = covered p (count p) i le lt (omega (arith, room))

        o : ℕ
        o = i - packed_off p c.k

        small : o < up8 (lp_len p c.k)
        small = omega (arith, c.from, c.to)

        back : packed_off p c.k + o ≡ i
        back = omega (arith, c.from)

        len : lp_len p c.k ≡ lp_len q c.k
        len = same_len p q hp hq a c.k c.below

        same : item p c.k ≡ item q c.k
        same = same_item p q hp hq a c.k c.below c.some

    pub packed_alike : BtreeAlike (packed p) (packed q)
    packed_alike = record {
      ten = (λ t. packed_low p fp room 10 (inl (omega arith)) (omega arith) t / 8 * 8) ∙ a.ten ∙ (λ t. sym (packed_low q fq room_q 10 (inl (omega arith)) (omega arith)) t / 8 * 8);
      head = λ i le lt. ⊎_elim
          (λ (x : (nat_le 16 i ≡ true) × (16 ≤ i)). low i (inr x.1) le lt)
          (λ (f : (nat_le 16 i ≡ false) × (i < 16)). ⊎_elim
          (λ (x : (nat_le 14 i ≡ true) × (14 ≤ i)). packed_top p fp room i x.1 f.1 ∙ ap (λ u. byte (u16_bytes u) (i - 14)) (uppers_alike (is_leaf p) p q fp fq lowers specials a.lines) ∙ sym (packed_top q fq room_q i x.1 f.1))
          (λ (g : (nat_le 14 i ≡ false) × (i < 14)). low i (inl g.1) le lt)
          (leb_tells 14 i))
          (leb_tells 16 i);
      lines = λ i le lt. ap (λ n. shown_line (n % 2 == 1) i (byte (packed p) i)) (end_p 8188 (omega arith))
          ∙ lines_packed (is_leaf p) p q fp fq lowers specials a.lines room i le (omega (arith, lt, packed_lower p fp room))
          ∙ ap (λ n. shown_line (n % 2 == 1) i (byte (packed q) i)) (sym (end_p 8188 (omega arith)));
      items = λ i le lt. ⊎_elim
          (λ (x : (nat_le 8176 i ≡ true) × (8176 ≤ i)). end_p i x.1 ∙ a.items i (omega (arith, x.1, hp.page.special, hp.page.head.high)) lt ∙ sym (end_q i x.1))
          (λ (f : (nat_le 8176 i ≡ false) × (i < 8176)). held i (omega (arith, le, packed_upper p fp room)) (omega (arith, f.1, hp.page.special)))
          (leb_tells 8176 i);
      flags = ap shown_flags (end_p 8188 (omega arith)) ∙ a.flags ∙ ap shown_flags (sym (end_q 8188 (omega arith)));
      last = end_p 8189 (omega arith) ∙ a.last ∙ sym (end_q 8189 (omega arith));
    }
