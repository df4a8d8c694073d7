-- Adding an item, over an unused line or at the end, can't tell heap pages that the mask can't.
use Rattle.std.proofs.Common.{◌≡◌, ◌≢◌, ℕ, zero, suc, ◌+◌, ◌*◌, ◌/◌, ◌<◌, ◌≤◌, ◌==◌, inl, inr, ⊎_elim, List, Bool, true, false, None, length, refl, sym, ◌∙◌, subst, arith}
use Rattle.std.specs.Prelude.{nat_le}
use Rattle.std.proofs.lemmas.Bool.Decides.{eqb_tells, leb_tells}
use Rattle.page_layout.specs.Bytes.{byte, up8}
use Rattle.page_layout.specs.Page.{pd_lower, pd_upper, count, lp_off, lp_flags, lp_len, item}
use Rattle.page_layout.specs.Apart.{Apart, AreApart}
use Rattle.page_layout.specs.Edits.{added_at}
use Rattle.page_layout.proofs.ShapeLemmas.{held_in}
use Rattle.page_masks.specs.Mask.{masked_item, holds, holder}
use Rattle.page_masks.proofs.Holders.{none_not, holds_in}
use Rattle.page_masks.proofs.HeapLaid.{open_holds, holds_none}
use Rattle.page_masks.proofs.Lines.{Outside, pointer_alike}
use Rattle.page_laws.proofs.PagesAlike.{PagesAlike, counts_same, len_alike}
use Rattle.page_laws.proofs.AddViews.{Adds, added_back, old_or_new, kept_off, kept_len, kept_flags, kept_item, lays}
use Rattle.page_laws.proofs.AddedBytes.{Lays, fits, small, added_head, added_line, added_upper_byte, added_lower, added_upper, added_off, added_len, added_flags, added_item}

pub holder_none : (p : List ℕ) (n i : ℕ) → ((j : ℕ) → j < n → holds p j i ≡ false) → holder p n i ≡ None
holder_none p zero i each = refl
holder_none p (suc n) i each = rw (each n (omega arith), holder_none p n i (λ j lt. each j (omega arith))) refl

module _ (block : ℕ) (p q bytes : List ℕ) (k lower upper : ℕ) (ap_p : Adds p bytes k lower upper) (ap_q : Adds q bytes k lower upper) (s : PagesAlike block p q) where
  abbrev new_p : List ℕ
  new_p = added_at p bytes k lower upper

  abbrev new_q : List ℕ
  new_q = added_at q bytes k lower upper

  lay_p : Lays p bytes k lower upper
  lay_p = lays p bytes k lower upper ap_p

  lay_q : Lays q bytes k lower upper
  lay_q = lays q bytes k lower upper ap_q

  counts : count p ≡ count q
  counts = counts_same block p q s.same ap_p.formed.head.low ap_p.formed.head.by4

  line : (i : ℕ) → 24 ≤ i → i < lower → byte new_p i ≡ byte new_q i
  line i le lt = added_line p bytes k lower upper lay_p i le high
      ∙ pointer_alike false lower p q k upper 1 1 (length bytes) (λ j from to out. s.same.lines j from (in_old j to out)) (fits p bytes k lower upper lay_p) (fits q bytes k lower upper lay_q) (small p bytes k lower upper lay_p) (omega arith) (omega arith) (λ e. refl) i le lt
      ∙ sym (added_line q bytes k lower upper lay_q i le high)
    where
      high : i < upper
      high = omega (arith, lt, ap_p.room)

      in_old : (j : ℕ) → j < lower → Outside k j → j < pd_lower p
      in_old j to out = ⊎_elim (λ (o : (k < count p) × (lower ≡ pd_lower p) × (lp_len p k ≡ 0)). omega (arith, to, o.1))
          (λ (n : (k ≡ count p) × (lower ≡ pd_lower p + 4)). ⊎_elim (λ (l : j < 24 + 4 * k). omega (arith, l, n.0, ap_p.formed.head.low, ap_p.formed.head.by4)) (λ (r : 28 + 4 * k ≤ j). omega (arith, r, to, n.0, n.1, ap_p.formed.head.low, ap_p.formed.head.by4)) out) ap_p.line

  some_old : (j : ℕ) → j < count new_p → j ≢ k → 0 < lp_len new_p j → 0 < lp_len p j
  some_old j lt ne some = omega (arith, some, kept_len p bytes k lower upper ap_p j ne (old_or_new p bytes k lower upper ap_p j lt ne))

  item_alike : (j : ℕ) → j < count new_p → 0 < lp_len new_p j → masked_item block (j + 1) (lp_flags new_p j) (item new_p j) ≡ masked_item block (j + 1) (lp_flags new_q j) (item new_q j)
  item_alike j lt some = ⊎_elim
      (λ (t : ((j == k) ≡ true) × (j ≡ k)). subst (λ x. masked_item block (x + 1) (lp_flags new_p x) (item new_p x) ≡ masked_item block (x + 1) (lp_flags new_q x) (item new_q x)) (sym t.1)
      (rw (added_flags p bytes k lower upper lay_p, added_flags q bytes k lower upper lay_q, added_item p bytes k lower upper lay_p, added_item q bytes k lower upper lay_q) refl))
      (λ (n : ((j == k) ≡ false) × (j ≢ k)).
      let lt_p = old_or_new p bytes k lower upper ap_p j lt n.1 in
      let lt_q : j < count q = omega (arith, lt_p, counts) in
      let some_p = some_old j lt n.1 some in
      let some_q : 0 < lp_len q j = omega (arith, some_p, len_alike block p q s.same ap_p.formed.head.low ap_p.formed.head.by4 j lt_p) in
      rw (kept_flags p bytes k lower upper ap_p j n.1 lt_p, kept_flags q bytes k lower upper ap_q j n.1 lt_q, kept_item p bytes k lower upper ap_p j n.1 lt_p some_p, kept_item q bytes k lower upper ap_q j n.1 lt_q some_q) (s.same.items j lt_p some_p))
      (eqb_tells j k)

  -- a byte that no line of the new page holds was held by none
  was_free : (i : ℕ) → holder new_p (count new_p) i ≡ None → holder p (count p) i ≡ None
  was_free i e = holder_none p (count p) i (λ j lt. ⊎_elim
      (λ (t : ((j == k) ≡ true) × (j ≡ k)). holds_none p j i (subst (λ x. lp_len p x ≡ 0) (sym t.1) (none (subst (λ x. x < count p) t.1 lt))))
      (λ (n : ((j == k) ≡ false) × (j ≢ k)). sym (same j n.1 lt) ∙ none_not new_p (count new_p) j i e (in_new j lt))
      (eqb_tells j k))
    where
      none : k < count p → lp_len p k ≡ 0
      none lt = ⊎_elim (λ (o : (k < count p) × (lower ≡ pd_lower p) × (lp_len p k ≡ 0)). o.2) (λ (n : (k ≡ count p) × (lower ≡ pd_lower p + 4)). absurd (omega (arith, lt, n.0))) ap_p.line

      same : (j : ℕ) → j ≢ k → j < count p → holds new_p j i ≡ holds p j i
      same j ne lt = open_holds new_p j i ∙ rw (kept_off p bytes k lower upper ap_p j ne lt, kept_len p bytes k lower upper ap_p j ne lt) refl ∙ sym (open_holds p j i)

      in_new : (j : ℕ) → j < count p → j < count new_p
      in_new j lt = ⊎_elim (λ (o : (k < count p) × (lower ≡ pd_lower p) × (lp_len p k ≡ 0)). omega (arith, lt, o.1, added_lower p bytes k lower upper lay_p)) (λ (n : (k ≡ count p) × (lower ≡ pd_lower p + 4)). omega (arith, lt, n.1, added_lower p bytes k lower upper lay_p)) ap_p.line

  new_there : k < count new_p
  new_there = ⊎_elim (λ (o : (k < count p) × (lower ≡ pd_lower p) × (lp_len p k ≡ 0)). omega (arith, o.0, o.1, added_lower p bytes k lower upper lay_p)) (λ (n : (k ≡ count p) × (lower ≡ pd_lower p + 4)). omega (arith, n.0, n.1, added_lower p bytes k lower upper lay_p, ap_p.formed.head.low, ap_p.formed.head.by4)) ap_p.line

  free_alike : (i : ℕ) → pd_upper new_p ≤ i → i < 8192 → holder new_p (count new_p) i ≡ None → byte new_p i ≡ byte new_q i
  free_alike i le lt e = ⊎_elim
      (λ (t : (nat_le (pd_upper p) i ≡ true) × (pd_upper p ≤ i)).
      added_back p bytes k lower upper ap_p i t.1 ∙ s.free i t.1 lt (was_free i e) ∙ sym (added_back q bytes k lower upper ap_q i (omega (arith, t.1, ap_p.upper_is, ap_q.upper_is))))
      (λ (n : (nat_le (pd_upper p) i ≡ false) × (i < pd_upper p)).
      let here = holds_in new_p k i (omega (arith, added_off p bytes k lower upper lay_p, added_upper p bytes k lower upper lay_p, le)) (omega (arith, added_off p bytes k lower upper lay_p, added_len p bytes k lower upper lay_p, ap_p.upper_is, n.1)) in
      let none = none_not new_p (count new_p) k i e new_there in
      absurd (off_on (holds new_p k i) here none))
      (leb_tells (pd_upper p) i)
    where
      off_on : (b : Bool) → b ≡ true → b ≡ false → ⊥
      off_on b x y = cc

  pub added_alike : PagesAlike block new_p new_q
  added_alike = record {
    same = record {
      lowers = added_lower p bytes k lower upper lay_p ∙ sym (added_lower q bytes k lower upper lay_q);
      ten = (λ t. added_head p bytes k lower upper lay_p 10 (inl (omega arith)) (omega arith) t / 8 * 8) ∙ s.same.ten ∙ (λ t. sym (added_head q bytes k lower upper lay_q 10 (inl (omega arith)) (omega arith)) t / 8 * 8);
      eleven = added_head p bytes k lower upper lay_p 11 (inl (omega arith)) (omega arith) ∙ s.same.eleven ∙ sym (added_head q bytes k lower upper lay_q 11 (inl (omega arith)) (omega arith));
      head = λ i le lt. added_head p bytes k lower upper lay_p i (inr le) (omega arith) ∙ s.same.head i le lt ∙ sym (added_head q bytes k lower upper lay_q i (inr le) (omega arith));
      lines = λ i le lt. line i le (omega (arith, lt, added_lower p bytes k lower upper lay_p));
      items = item_alike;
    };
    uppers = (
      added_upper_byte p bytes k lower upper lay_p 14 (omega arith) (omega arith) ∙ sym (added_upper_byte q bytes k lower upper lay_q 14 (omega arith) (omega arith)),
      added_upper_byte p bytes k lower upper lay_p 15 (omega arith) (omega arith) ∙ sym (added_upper_byte q bytes k lower upper lay_q 15 (omega arith) (omega arith)),
    );
    free = free_alike;
  }

  -- items stay apart
  pub added_apart : AreApart p → AreApart new_p
  added_apart apart = λ i j lt there some_i some_j.
      let lt_i : i < count new_p = omega (arith, lt, there) in
      ⊎_elim
      (λ (t : ((j == k) ≡ true) × (j ≡ k)).
      let ne : i ≢ k = λ (e : i ≡ k). omega (arith, e, t.1, lt) in
      subst (λ x. Apart new_p i x) (sym t.1) (inr (low_item i lt_i ne some_i)))
      (λ (n : ((j == k) ≡ false) × (j ≢ k)). ⊎_elim
      (λ (t : ((i == k) ≡ true) × (i ≡ k)). subst (λ x. Apart new_p x j) (sym t.1) (inl (low_item j there n.1 some_j)))
      (λ (m : ((i == k) ≡ false) × (i ≢ k)).
      let in_i = old_or_new p bytes k lower upper ap_p i lt_i m.1 in
      let in_j = old_or_new p bytes k lower upper ap_p j there n.1 in
      rw (kept_off p bytes k lower upper ap_p i m.1 in_i, kept_len p bytes k lower upper ap_p i m.1 in_i, kept_off p bytes k lower upper ap_p j n.1 in_j, kept_len p bytes k lower upper ap_p j n.1 in_j)
      (apart i j lt in_j (some_old i lt_i m.1 some_i) (some_old j there n.1 some_j)))
      (eqb_tells i k))
      (eqb_tells j k)
    where
      low_item : (i : ℕ) → i < count new_p → i ≢ k → 0 < lp_len new_p i → lp_off new_p k + up8 (lp_len new_p k) ≤ lp_off new_p i
      low_item i lt ne some =
          let in_p = old_or_new p bytes k lower upper ap_p i lt ne in
          let h = held_in p i ap_p.formed in_p (some_old i lt ne some) in
          omega (arith, added_off p bytes k lower upper lay_p, added_len p bytes k lower upper lay_p, kept_off p bytes k lower upper ap_p i ne in_p, h.from, ap_p.upper_is)
