-- A line that gets no item: pages with the same lines and alike items keep them so.
use Rattle.std.proofs.Common.{◌≡◌, ◌≢◌, ℕ, zero, suc, ◌+◌, ◌-◌, ◌*◌, ◌/◌, ◌<◌, ◌≤◌, ◌==◌, inl, inr, ⊎_elim, List, true, false, Some, length, refl, sym, ◌∙◌, ap, subst, arith}
use Rattle.std.specs.Prelude.{if◌then◌else◌}
use Rattle.std.proofs.lemmas.Bool.Decides.{eqb_tells}
use Rattle.std.proofs.lemmas.List.{ext_get_or}
use Rattle.page_layout.specs.Bytes.{byte, u16_at, cut}
use Rattle.page_layout.specs.Page.{pd_lower, pd_upper, pd_special, count, lp_off, lp_flags, lp_len, item, line_fits, IsFormed}
use Rattle.page_layout.specs.Edits.{with_pointer}
use Rattle.page_layout.proofs.BytesLemmas.{length-cut, byte-cut}
use Rattle.page_layout.proofs.LineViews.{len_is, off_other, len_other, flags_other, byte_other, pointer_size}
use Rattle.page_layout.proofs.ReadLemmas.{lower_u16, upper_u16, special_u16}
use Rattle.page_layout.proofs.ShapeLemmas.{lines_below, held_in}
use Rattle.page_layout.proofs.ItemsStay.{fits_in}
use Rattle.page_masks.specs.Mask.{holds, holder}
use Rattle.page_masks.proofs.HeapLaid.{open_holds, holds_none}
use Rattle.page_masks.proofs.Lines.{pointer_alike}
use Rattle.page_laws.proofs.PagesAlike.{SameLines, PagesAlike, counts_same, len_alike}

module _ (k off flags : ℕ) (small : off < 32768) (kind : flags < 4) where
  abbrev set : List ℕ → List ℕ
  set p = with_pointer p k off flags 0

  module _ (p : List ℕ) (f : IsFormed p) (there : k < count p) where
    fits : 28 + 4 * k ≤ length p
    fits = omega (arith, f.size, f.head.low, f.head.by4, f.head.mid, f.head.high, f.head.top)

    room : 28 + 4 * k ≤ pd_lower p
    room = omega (arith, f.head.low, f.head.by4)

    front : (i : ℕ) → i < 24 → byte (set p) i ≡ byte p i
    front i lt = byte_other p k off flags 0 fits small kind i (inl (omega arith))

    pub set_back : (i : ℕ) → pd_lower p ≤ i → byte (set p) i ≡ byte p i
    set_back i le = byte_other p k off flags 0 fits small kind i (inr (omega (arith, room)))

    front_u16 : (i : ℕ) → i < 23 → u16_at (set p) i ≡ u16_at p i
    front_u16 i lt = λ t. front i (omega arith) t + 256 * front (i + 1) (omega arith) t

    pub set_lower : pd_lower (set p) ≡ pd_lower p
    set_lower = lower_u16 (set p) ∙ front_u16 12 (omega arith) ∙ sym (lower_u16 p)

    pub set_upper : pd_upper (set p) ≡ pd_upper p
    set_upper = upper_u16 (set p) ∙ front_u16 14 (omega arith) ∙ sym (upper_u16 p)

    pub set_special : pd_special (set p) ≡ pd_special p
    set_special = special_u16 (set p) ∙ front_u16 16 (omega arith) ∙ sym (special_u16 p)

    pub set_count : count (set p) ≡ count p
    set_count = ap (λ n. (n - 24) / 4) set_lower

    pub set_none : lp_len (set p) k ≡ 0
    set_none = len_is p k off flags 0 fits small kind

    pub set_len : (j : ℕ) → j ≢ k → lp_len (set p) j ≡ lp_len p j
    set_len j ne = len_other p k off flags 0 fits small kind j ne

    pub set_off : (j : ℕ) → j ≢ k → lp_off (set p) j ≡ lp_off p j
    set_off j ne = off_other p k off flags 0 fits small kind j ne

    pub set_flags : (j : ℕ) → j ≢ k → lp_flags (set p) j ≡ lp_flags p j
    set_flags j ne = flags_other p k off flags 0 fits small kind j ne

    pub not_k : (j : ℕ) → 0 < lp_len (set p) j → j ≢ k
    not_k j some e = let z : lp_len (set p) j ≡ 0 = ap (lp_len (set p)) e ∙ set_none in omega (arith, some, z)

    pub set_item : (j : ℕ) → j < count p → 0 < lp_len (set p) j → item (set p) j ≡ item p j
    set_item j lt some =
        let ne = not_k j some in
        let i = held_in p j f lt (omega (arith, some, set_len j ne)) in
        let fits_j : lp_off p j + lp_len p j ≤ 8192 = omega (arith, i.to, f.head.top) in
        let whole = pointer_size p k off flags 0 fits small kind in
        rw (set_off j ne, set_len j ne) (ext_get_or 0 (cut (set p) (lp_off p j) (lp_len p j)) (item p j)
        (length-cut (set p) (lp_off p j) (lp_len p j) (omega (arith, whole, f.size)) ∙ sym (length-cut p (lp_off p j) (lp_len p j) (omega (arith, f.size))))
        (λ o lt_o.
        let small_o : o < lp_len p j = omega (arith, lt_o, length-cut (set p) (lp_off p j) (lp_len p j) (omega (arith, whole, f.size))) in
        byte-cut (set p) (lp_off p j) (lp_len p j) o small_o ∙ set_back (lp_off p j + o) (omega (arith, i.from, f.head.mid)) ∙ sym (byte-cut p (lp_off p j) (lp_len p j) o small_o)))

    line_stays : (j : ℕ) → j < count p → line_fits (set p) j ≡ true
    line_stays j lt = fits_in (set p) j (λ some.
        let ne = not_k j some in
        let i = held_in p j f lt (omega (arith, some, set_len j ne)) in
        (omega (arith, set_upper, set_off j ne, i.from), omega (arith, set_off j ne, set_len j ne, set_special, i.to), rw (set_off j ne) i.by8))

    pub set_formed : IsFormed (set p)
    set_formed = record {
      size = pointer_size p k off flags 0 fits small kind ∙ f.size;
      head = record {
        low = rw set_lower f.head.low;
        mid = rw (set_lower, set_upper) f.head.mid;
        high = rw (set_upper, set_special) f.head.high;
        top = rw set_special f.head.top;
        by4 = rw set_lower f.head.by4;
        by8 = rw set_upper f.head.by8;
        special8 = rw set_special f.head.special8;
        layout = front_u16 18 (omega arith) ∙ f.head.layout;
      };
      lines = lines_below (set p) (count (set p)) (λ j lt. line_stays j (omega (arith, lt, set_count)));
    }

  pub set_same : (block : ℕ) (p q : List ℕ) → IsFormed p → IsFormed q → k < count p → SameLines block p q → SameLines block (set p) (set q)
  set_same block p q fp fq there s =
      let there_q : k < count q = omega (arith, there, counts_same block p q s fp.head.low fp.head.by4) in
      record {
        lowers = set_lower p fp there ∙ s.lowers ∙ sym (set_lower q fq there_q);
        ten = (λ t. front p fp there 10 (omega arith) t / 8 * 8) ∙ s.ten ∙ (λ t. sym (front q fq there_q 10 (omega arith)) t / 8 * 8);
        eleven = front p fp there 11 (omega arith) ∙ s.eleven ∙ sym (front q fq there_q 11 (omega arith));
        head = λ i le lt. front p fp there i (omega arith) ∙ s.head i le lt ∙ sym (front q fq there_q i (omega arith));
        lines = λ i le lt. pointer_alike false (pd_lower p) p q k off flags flags 0 (λ j from to out. s.lines j from to) (fits p fp there) (fits q fq there_q) small kind kind (λ e. refl) i le (omega (arith, lt, set_lower p fp there));
        items = λ j lt some.
            let lt_p : j < count p = omega (arith, lt, set_count p fp there) in
            let ne = not_k p fp there j some in
            let some_p : 0 < lp_len p j = omega (arith, some, set_len p fp there j ne) in
            let len_q = len_alike block p q s fp.head.low fp.head.by4 j lt_p in
            let lt_q : j < count q = omega (arith, lt_p, counts_same block p q s fp.head.low fp.head.by4) in
            let some_q : 0 < lp_len (set q) j = omega (arith, some_p, len_q, set_len q fq there_q j ne) in
            rw (set_flags p fp there j ne, set_flags q fq there_q j ne, set_item p fp there j lt_p some, set_item q fq there_q j lt_q some_q) (s.items j lt_p some_p);
      }

  -- a line that had no item before either uncovers nothing
  pub set_alike : (block : ℕ) (p q : List ℕ) → IsFormed p → IsFormed q → k < count p → lp_len p k ≡ 0 → PagesAlike block p q → PagesAlike block (set p) (set q)
  set_alike block p q fp fq there none a =
      let there_q : k < count q = omega (arith, there, counts_same block p q a.same fp.head.low fp.head.by4) in
      record {
        same = set_same block p q fp fq there a.same;
        uppers = (front p fp there 14 (omega arith) ∙ a.uppers.0 ∙ sym (front q fq there_q 14 (omega arith)), front p fp there 15 (omega arith) ∙ a.uppers.1 ∙ sym (front q fq there_q 15 (omega arith)));
        free = λ i le lt e.
            let le_p : pd_upper p ≤ i = omega (arith, le, set_upper p fp there) in
            let in_p : pd_lower p ≤ i = omega (arith, le_p, fp.head.mid) in
            let in_q : pd_lower q ≤ i = omega (arith, in_p, a.same.lowers) in
            set_back p fp there i in_p ∙ a.free i le_p lt (sym (holders i) ∙ e) ∙ sym (set_back q fq there_q i in_q);
      }
    where
      lens : (j : ℕ) → lp_len (set p) j ≡ lp_len p j
      lens j = ⊎_elim
          (λ (t : ((j == k) ≡ true) × (j ≡ k)). subst (λ x. lp_len (set p) x ≡ lp_len p x) (sym t.1) (set_none p fp there ∙ sym none))
          (λ (n : ((j == k) ≡ false) × (j ≢ k)). set_len p fp there j n.1)
          (eqb_tells j k)

      holders : (i : ℕ) → holder (set p) (count (set p)) i ≡ holder p (count p) i
      holders i = ap (λ n. holder (set p) n i) (set_count p fp there) ∙ below (count p)
        where
          line : (n : ℕ) → holds (set p) n i ≡ holds p n i
          line n = ⊎_elim
              (λ (t : ((n == k) ≡ true) × (n ≡ k)). subst (λ x. holds (set p) x i ≡ holds p x i) (sym t.1) (holds_none (set p) k i (set_none p fp there) ∙ sym (holds_none p k i none)))
              (λ (d : ((n == k) ≡ false) × (n ≢ k)). open_holds (set p) n i ∙ rw (set_off p fp there n d.1, lens n) refl ∙ sym (open_holds p n i))
              (eqb_tells n k)

          below : (n : ℕ) → holder (set p) n i ≡ holder p n i
          below zero = refl
          below (suc n) = λ s. if (line n s) then Some n else below n s
