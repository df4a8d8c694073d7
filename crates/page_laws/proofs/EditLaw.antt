-- An edit of one item can't tell heap pages with equal masks.
use Rattle.std.proofs.Common.{◌≡◌, ◌≢◌, ℕ, ◌+◌, ◌-◌, ◌*◌, ◌/◌, ◌%◌, ◌<◌, ◌≤◌, ◌==◌, ◌⊎◌, inl, inr, ⊎_elim, List, true, false, None, length, sym, ◌∙◌, ap, subst, arith}
use Rattle.std.specs.Prelude.{nat_le}
use Rattle.std.proofs.lemmas.Bool.Decides.{eqb_tells, leb_tells}
use Rattle.std.proofs.lemmas.List.{ext_get_or}
use Rattle.page_layout.specs.Bytes.{byte, cut, up8}
use Rattle.page_layout.specs.Page.{pd_lower, pd_upper, count, lp_off, lp_flags, lp_len, item, Head, ItemIn}
use Rattle.layout.proofs.SpliceLemmas.{length-splice, byte-splice_in, byte-splice_out, byte-splice_below}
use Rattle.page_layout.proofs.BytesLemmas.{length-cut, byte-cut}
use Rattle.page_layout.proofs.Front as Front
use Rattle.page_layout.proofs.Front.{SameFront}
use Rattle.page_masks.specs.Mask.{masked_item, holds, holder}
use Rattle.page_masks.specs.Shapes.{HeapPage}
use Rattle.page_layout.specs.Apart.{AreApart}
use Rattle.page_laws.specs.Change.{edited, ItemChange}
use Rattle.page_masks.proofs.Trimmed.{heap_stays}
use Rattle.page_masks.proofs.Holders.{fit_of, holder_same, none_not, holds_in}
use Rattle.page_laws.proofs.PagesAlike.{PagesAlike, counts_same, off_alike, len_alike, flags_alike}

-- items that don't overlap stay so with the same front
pub apart_stays : (p q : List ℕ) → Head p → SameFront p q → AreApart p → AreApart q
apart_stays p q h same apart = λ j k lt there some_j some_k.
    let n = Front.count_same p q h same in
    let lt_k : k < count p = omega (arith, n) in
    let lt_j : j < count p = omega (arith, n) in
    let oj = Front.off_same p q h same j lt_j in let lj = Front.len_same p q h same j lt_j in
    let ok = Front.off_same p q h same k lt_k in let lk = Front.len_same p q h same k lt_k in
    rw (oj, lj, ok, lk) (apart j k lt lt_k (omega (arith, lj)) (omega (arith, lk)))

pub record Editable (k : ℕ) (p : List ℕ) : Type 0 where
  pub page : HeapPage p
  pub apart : AreApart p
  pub there : k < count p
  pub long : 23 ≤ lp_len p k

module _ (block k : ℕ) (change : List ℕ → List ℕ) (law : ItemChange block (k + 1) change) where
  inside : (p : List ℕ) → Editable k p → ItemIn p k
  inside p e = fit_of p e.page k e.there (omega (arith, e.long))

  item_size : (p : List ℕ) → Editable k p → length (change (item p k)) ≡ lp_len p k
  item_size p e = let i = inside p e in (let n = length-cut p (lp_off p k) (lp_len p k) (omega (arith, i.to, e.page.head.top, e.page.size)) in law.size (item p k) (omega (arith, n, e.long)) ∙ n)

  room : (p : List ℕ) → Editable k p → lp_off p k + length (change (item p k)) ≤ length p
  room p e = let i = inside p e in omega (arith, item_size p e, i.to, e.page.head.top, e.page.size)

  front_stays : (p : List ℕ) (i : ℕ) → Editable k p → i < pd_upper p → byte (edited k change p) i ≡ byte p i
  front_stays p i e lt = let at = inside p e in byte-splice_below p (lp_off p k) (change (item p k)) i (room p e) (omega (arith, at.from))

  pub same_front : (p : List ℕ) → Editable k p → SameFront p (edited k change p)
  same_front p e = record {
    head = λ i le lt. front_stays p i e (omega (arith, e.page.head.low, e.page.head.mid));
    lines = λ i le lt. front_stays p i e (omega (arith, e.page.head.mid));
  }

  pub page_stays : (p : List ℕ) → Editable k p → HeapPage (edited k change p)
  page_stays p e = heap_stays p (edited k change p) e.page (length-splice p (lp_off p k) (change (item p k)) (room p e) ∙ e.page.size) (same_front p e)

  off : (p : List ℕ) (j : ℕ) → Editable k p → j < count p → lp_off (edited k change p) j ≡ lp_off p j
  off p j e lt = Front.off_same p (edited k change p) e.page.head (same_front p e) j lt

  len : (p : List ℕ) (j : ℕ) → Editable k p → j < count p → lp_len (edited k change p) j ≡ lp_len p j
  len p j e lt = Front.len_same p (edited k change p) e.page.head (same_front p e) j lt

  item_new : (p : List ℕ) → Editable k p → item (edited k change p) k ≡ change (item p k)
  item_new p e =
      let i = inside p e in
      let new = edited k change p in
      let whole = length-splice p (lp_off p k) (change (item p k)) (room p e) in
      rw (off p k e e.there, len p k e e.there)
      (ext_get_or 0 (cut new (lp_off p k) (lp_len p k)) (change (item p k))
      (length-cut new (lp_off p k) (lp_len p k) (omega (arith, whole, i.to, e.page.head.top, e.page.size)) ∙ sym (item_size p e))
      (λ o lt.
      let small : o < lp_len p k = omega (arith, length-cut new (lp_off p k) (lp_len p k) (omega (arith, whole, i.to, e.page.head.top, e.page.size))) in
      let back : lp_off p k + o - lp_off p k ≡ o = omega arith in
      byte-cut new (lp_off p k) (lp_len p k) o small ∙ byte-splice_in p (lp_off p k) (change (item p k)) (lp_off p k + o) (room p e) (omega arith) (omega (arith, item_size p e)) ∙ ap (byte (change (item p k))) back))

  item_other : (p : List ℕ) (j : ℕ) → Editable k p → j < count p → j ≢ k → 0 < lp_len p j → item (edited k change p) j ≡ item p j
  item_other p j e lt ne some =
      let i = fit_of p e.page j lt some in
      let new = edited k change p in
      let whole = length-splice p (lp_off p k) (change (item p k)) (room p e) in
      let fits : lp_off p j + lp_len p j ≤ 8192 = omega (arith, i.to, e.page.head.top) in
      rw (off p j e lt, len p j e lt)
      (ext_get_or 0 (cut new (lp_off p j) (lp_len p j)) (item p j)
      (length-cut new (lp_off p j) (lp_len p j) (omega (arith, whole, e.page.size)) ∙ sym (length-cut p (lp_off p j) (lp_len p j) (omega (arith, e.page.size))))
      (λ o small'.
      let small : o < lp_len p j = omega (arith, length-cut new (lp_off p j) (lp_len p j) (omega (arith, whole, e.page.size))) in
      byte-cut new (lp_off p j) (lp_len p j) o small
      ∙ byte-splice_out p (lp_off p k) (change (item p k)) (lp_off p j + o) (room p e) (outside o small)
      ∙ sym (byte-cut p (lp_off p j) (lp_len p j) o small)))
    where
      outside : (o : ℕ) → o < lp_len p j → (lp_off p j + o < lp_off p k) ⊎ (lp_off p k + length (change (item p k)) ≤ lp_off p j + o)
      outside o small = ⊎_elim
          (λ (t : (nat_le k j ≡ true) × (k ≤ j)). ⊎_elim (λ (a : lp_off p k + up8 (lp_len p k) ≤ lp_off p j). inr (omega (arith, a, item_size p e))) (λ (b : lp_off p j + up8 (lp_len p j) ≤ lp_off p k). inl (omega (arith, b, small)))
          (e.apart k j (omega (arith, t.1, ne)) lt (omega (arith, e.long)) some))
          (λ (f : (nat_le k j ≡ false) × (j < k)). ⊎_elim (λ (a : lp_off p j + up8 (lp_len p j) ≤ lp_off p k). inl (omega (arith, a, small))) (λ (b : lp_off p k + up8 (lp_len p k) ≤ lp_off p j). inr (omega (arith, b, item_size p e)))
          (e.apart j k f.1 e.there some (omega (arith, e.long))))
          (leb_tells k j)

  outside_held : (p : List ℕ) (i : ℕ) → Editable k p → holds p k i ≡ false → (i < lp_off p k) ⊎ (lp_off p k + length (change (item p k)) ≤ i)
  outside_held p i e misses =
      let n = item_size p e in
      ⊎_elim
      (λ (t : (nat_le (lp_off p k) i ≡ true) × (lp_off p k ≤ i)). ⊎_elim
      (λ (u : (nat_le (lp_off p k + lp_len p k) i ≡ true) × (lp_off p k + lp_len p k ≤ i)). inr (omega (arith, u.1, n)))
      (λ (w : (nat_le (lp_off p k + lp_len p k) i ≡ false) × (i < lp_off p k + lp_len p k)).
      let yes = holds_in p k i t.1 (omega (arith, w.1)) in cc)
      (leb_tells (lp_off p k + lp_len p k) i))
      (λ (f : (nat_le (lp_off p k) i ≡ false) × (i < lp_off p k)). inl f.1)
      (leb_tells (lp_off p k) i)

  pub edit_alike : (p q : List ℕ) → Editable k p → Editable k q → lp_flags p k ≡ 1 → PagesAlike block p q → PagesAlike block (edited k change p) (edited k change q)
  edit_alike p q ep eq normal a = record {
    same = record {
      lowers = Front.lower_same p new_p ep.page.head (same_front p ep) ∙ a.same.lowers ∙ sym (Front.lower_same q new_q eq.page.head (same_front q eq));
      ten = (λ t. front_p 10 (omega arith) t / 8 * 8) ∙ a.same.ten ∙ (λ t. sym (front_q 10 (omega arith)) t / 8 * 8);
      eleven = front_p 11 (omega arith) ∙ a.same.eleven ∙ sym (front_q 11 (omega arith));
      head = λ i le lt. front_p i (omega (arith, lt)) ∙ a.same.head i le lt ∙ sym (front_q i (omega (arith, lt)));
      lines = λ i le lt. let below : i < pd_lower p = omega (arith, lt, Front.lower_same p new_p ep.page.head (same_front p ep)) in
          front_stays p i ep (omega (arith, below, ep.page.head.mid)) ∙ a.same.lines i le below ∙ sym (front_stays q i eq (omega (arith, below, a.same.lowers, eq.page.head.mid)));
      items = λ j lt some. items j (in_p j lt) (omega (arith, some, len p j ep (in_p j lt)));
    };
    uppers = (front_p 14 (omega arith) ∙ a.uppers.0 ∙ sym (front_q 14 (omega arith)), front_p 15 (omega arith) ∙ a.uppers.1 ∙ sym (front_q 15 (omega arith)));
    free = λ i le lt none.
        let le_p : pd_upper p ≤ i = omega (arith, le, Front.upper_same p new_p ep.page.head (same_front p ep)) in
        let old : holder p (count p) i ≡ None = sym (ap (λ n. holder new_p n i) n_p ∙ holder_same new_p p (count p) i (λ j l. off p j ep l) (λ j l. len p j ep l)) ∙ none in
        let old_q : holder q (count q) i ≡ None = sym (holder_same p q (count p) i (λ j l. off_alike block p q a.same low by4 j l) lens ∙ ap (λ n. holder q n i) counts) ∙ old in
        byte-splice_out p (lp_off p k) (change (item p k)) i (room p ep) (outside_held p i ep (none_not p (count p) k i old ep.there))
        ∙ a.free i le_p lt old
        ∙ sym (byte-splice_out q (lp_off q k) (change (item q k)) i (room q eq) (outside_held q i eq (none_not q (count q) k i old_q eq.there)));
  }
    where
      new_p : List ℕ
      new_p = edited k change p

      new_q : List ℕ
      new_q = edited k change q

      low : 24 ≤ pd_lower p
      low = ep.page.head.low

      by4 : pd_lower p % 4 ≡ 0
      by4 = ep.page.head.by4

      counts : count p ≡ count q
      counts = counts_same block p q a.same low by4

      lens : (j : ℕ) → j < count p → lp_len p j ≡ lp_len q j
      lens j lt = len_alike block p q a.same low by4 j lt

      front_p : (i : ℕ) → i < 24 → byte (edited k change p) i ≡ byte p i
      front_p i lt = front_stays p i ep (omega (arith, lt, ep.page.head.low, ep.page.head.mid))

      front_q : (i : ℕ) → i < 24 → byte (edited k change q) i ≡ byte q i
      front_q i lt = front_stays q i eq (omega (arith, lt, eq.page.head.low, eq.page.head.mid))

      n_p : count (edited k change p) ≡ count p
      n_p = Front.count_same p (edited k change p) ep.page.head (same_front p ep)

      in_p : (j : ℕ) → j < count (edited k change p) → j < count p
      in_p j lt = omega (arith, lt, n_p)

      flag : (r : List ℕ) (j : ℕ) → Editable k r → j < count r → lp_flags (edited k change r) j ≡ lp_flags r j
      flag r j e lt = Front.flags_same r (edited k change r) e.page.head (same_front r e) j lt

      sizes : length (item p k) ≡ length (item q k)
      sizes = let ip = inside p ep in let iq = inside q eq in length-cut p (lp_off p k) (lp_len p k) (omega (arith, ip.to, ep.page.head.top, ep.page.size)) ∙ lens k ep.there ∙ sym (length-cut q (lp_off q k) (lp_len q k) (omega (arith, iq.to, eq.page.head.top, eq.page.size)))

      long : 23 ≤ length (item p k)
      long = let ip = inside p ep in omega (arith, length-cut p (lp_off p k) (lp_len p k) (omega (arith, ip.to, ep.page.head.top, ep.page.size)), ep.long)

      at_k : masked_item block (k + 1) (lp_flags p k) (change (item p k)) ≡ masked_item block (k + 1) (lp_flags q k) (change (item q k))
      at_k =
          let normal_q : lp_flags q k ≡ 1 = sym (flags_alike block p q a.same low by4 k ep.there) ∙ normal in
          let old = rw (normal, normal_q) at (a.same.items k ep.there (omega (arith, ep.long))) in
          rw (normal, normal_q) (law.mask (item p k) (item q k) long sizes old)

      items : (j : ℕ) → j < count p → 0 < lp_len p j → masked_item block (j + 1) (lp_flags (edited k change p) j) (item (edited k change p) j) ≡ masked_item block (j + 1) (lp_flags (edited k change q) j) (item (edited k change q) j)
      items j lt some =
          let lt_q : j < count q = omega (arith, lt, counts) in
          let some_q : 0 < lp_len q j = omega (arith, some, lens j lt) in
          rw (flag p j ep lt, flag q j eq lt_q) (⊎_elim
          (λ (t : ((j == k) ≡ true) × (j ≡ k)). subst (λ x. masked_item block (x + 1) (lp_flags p x) (item (edited k change p) x) ≡ masked_item block (x + 1) (lp_flags q x) (item (edited k change q) x)) (sym t.1)
          (rw (item_new p ep, item_new q eq) at_k))
          (λ (f : ((j == k) ≡ false) × (j ≢ k)). rw (item_other p j ep lt f.1 some, item_other q j eq lt_q f.1 some_q) (a.same.items j lt some))
          (eqb_tells j k))
