-- The bytes below an item moved up, and the lines that point there: on B-tree pages that look alike.
use Rattle.std.proofs.Common.{◌≡◌, ◌≢◌, ℕ, zero, suc, ◌+◌, ◌-◌, ◌*◌, ◌/◌, ◌%◌, ◌<◌, ◌≤◌, ◌==◌, ◌&&◌, inl, ⊎_elim, List, Bool, true, false, length, refl, sym, ◌∙◌, ap, subst, arith}
use Rattle.std.specs.Prelude.{if◌then◌else◌, nat_lt, nat_le}
use Rattle.std.proofs.lemmas.Bool.Decides.{nat_tests, eqb_tells, leb_tells}
use Rattle.page_layout.specs.Bytes.{byte, u16_bytes, up8}
use Rattle.page_layout.specs.Page.{pd_lower, pd_upper, count, lp_off, lp_flags, lp_len}
use Rattle.page_layout.specs.Edits.{with_pointer}
use Rattle.page_layout.specs.Deletes.{raised, moved_line, moved_lines, closed_up}
use Rattle.page_layout.proofs.ShapeLemmas.{held_in, flags_small}
use Rattle.page_layout.proofs.ClosedUp.{Raised, raised_is, moved_lines_are, Shifted, shifted_is}
use Rattle.page_masks.specs.Mask.{is_leaf, shown_line, shown_flags}
use Rattle.page_masks.proofs.Lines.{LinesAlike, alike_off, alike_len, alike_flags, pointer_alike}
use Rattle.page_laws.specs.Btree.{BtreePage}
use Rattle.page_laws.proofs.BtreeAdd.{btree_formed}
use Rattle.page_laws.proofs.BtreeAlike.{BtreeAlike, lower_same, upper_same, count_same}
use Rattle.page_laws.proofs.BtreeShown.{same_off, same_len}

-- one line, moved or not
module _ (at size n : ℕ) (fits : at + size ≤ 8192) (room : 28 + 4 * n ≤ 8192) where
  moved_alike : (leaf : Bool) (lower : ℕ) (a b : List ℕ) → length a ≡ 8192 → length b ≡ 8192 → 28 + 4 * n ≤ lower → LinesAlike leaf lower a b → LinesAlike leaf lower (moved_line at size n a) (moved_line at size n b)
  moved_alike leaf lower a b size_a size_b there s = by_case (nat_lt 0 (lp_len a n) && nat_lt (lp_off a n) at) refl
    where
      off : lp_off a n ≡ lp_off b n
      off = alike_off leaf lower a b s n there

      len : lp_len a n ≡ lp_len b n
      len = alike_len leaf lower a b s n there

      by_case : (c : Bool) → (nat_lt 0 (lp_len a n) && nat_lt (lp_off a n) at) ≡ c → LinesAlike leaf lower (if c then with_pointer a n (lp_off a n + size) (lp_flags a n) (lp_len a n) else a) (moved_line at size n b)
      by_case true e =
          let lt : lp_off a n < at = grind (arith, nat_tests, e) in
          let e_b : (nat_lt 0 (lp_len b n) && nat_lt (lp_off b n) at) ≡ true = rw (← len, ← off) e in
          let is_b : moved_line at size n b ≡ with_pointer b n (lp_off a n + size) (lp_flags b n) (lp_len a n) = rw e_b (λ t. with_pointer b n (sym off t + size) (lp_flags b n) (sym len t)) in
          subst (LinesAlike leaf lower (with_pointer a n (lp_off a n + size) (lp_flags a n) (lp_len a n))) (sym is_b)
          (pointer_alike leaf lower a b n (lp_off a n + size) (lp_flags a n) (lp_flags b n) (lp_len a n) (λ i from to out. s i from to) (omega (arith, size_a, room)) (omega (arith, size_b, room)) (omega (arith, lt, fits)) (flags_small a n) (flags_small b n) (alike_flags leaf lower a b s n there))
      by_case false e =
          let e_b : (nat_lt 0 (lp_len b n) && nat_lt (lp_off b n) at) ≡ false = rw (← len, ← off) e in
          let is_b : moved_line at size n b ≡ b = rw e_b refl in
          subst (LinesAlike leaf lower a) (sym is_b) s

-- the first n lines
all_alike : (at size : ℕ) → at + size ≤ 8192 → (leaf : Bool) (lower : ℕ) (a b : List ℕ) → length a ≡ 8192 → length b ≡ 8192 → lower ≤ 8192 → LinesAlike leaf lower a b
    → (n : ℕ) → 24 + 4 * n ≤ lower → LinesAlike leaf lower (moved_lines a at size n) (moved_lines b at size n)
all_alike at size fits leaf lower a b size_a size_b top s zero le = s
all_alike at size fits leaf lower a b size_a size_b top s (suc n) le =
    moved_alike at size n fits (omega (arith, le, top)) leaf lower (moved_lines a at size n) (moved_lines b at size n)
    (moved_lines_are a at size n size_a (omega (arith, fits)) (omega (arith, le, top))).size8 (moved_lines_are b at size n size_b (omega (arith, fits)) (omega (arith, le, top))).size8 (omega (arith, le))
    (all_alike at size fits leaf lower a b size_a size_b top s n (omega (arith, le)))

-- a page once the bytes from upper up to `at` moved up by d, and the lines whose items lie below `to`
module _ (p : List ℕ) (h : BtreePage p) (at to d : ℕ) (from : pd_upper p ≤ at) (fits : at + d ≤ 8176) (far : to + d ≤ 8192) where
  abbrev r : List ℕ
  r = raised p at d

  low : 24 ≤ pd_upper p
  low = omega (arith, h.page.head.low, h.page.head.mid)

  raised_here : Raised p at d r
  raised_here = raised_is p at d h.page.size low from (omega (arith, fits))

  r_size : length r ≡ 8192
  r_size = raised_here.size8

  r_front : (i : ℕ) → 24 ≤ i → i < pd_lower p → byte r i ≡ byte p i
  r_front i le lt = raised_here.front i (omega (arith, le)) (omega (arith, lt, h.page.head.mid))

  abbrev shifted : List ℕ
  shifted = moved_lines r to d (count p)

  shifted_top : (i : ℕ) → 14 ≤ i → i < 16 → byte shifted i ≡ byte (u16_bytes (pd_upper p + d)) (i - 14)
  shifted_top i le lt = (moved_lines_are r to d (count p) r_size (omega (arith, far)) (omega (arith, h.page.head.low, h.page.head.by4, h.page.head.mid, h.page.head.high, h.page.head.top))).outside i (inl (omega (arith, lt)))
      ∙ raised_here.top i le lt

  pub shifted_here : Shifted p at to d (moved_lines (raised p at d) to d (count p))
  shifted_here = shifted_is p at to d (btree_formed p h) from (omega (arith, fits)) (omega (arith, far))

module _ (p q : List ℕ) (hp : BtreePage p) (hq : BtreePage q) (a : BtreeAlike p q) (at to d : ℕ) (from : pd_upper p ≤ at) (fits : at + d ≤ 8176) (far : to + d ≤ 8192) where
  lowers : pd_lower p ≡ pd_lower q
  lowers = lower_same p q a

  uppers : pd_upper p ≡ pd_upper q
  uppers = upper_same p q a

  from_q : pd_upper q ≤ at
  from_q = omega (arith, uppers, from)

  abbrev sp : List ℕ
  sp = moved_lines (raised p at d) to d (count p)

  abbrev sq : List ℕ
  sq = moved_lines (raised q at d) to d (count q)

  cp : Shifted p at to d sp
  cp = shifted_here p hp at to d from fits far

  cq : Shifted q at to d sq
  cq = shifted_here q hq at to d from_q fits far

  end_p : (i : ℕ) → 8188 ≤ i → byte sp i ≡ byte p i
  end_p i le = cp.above i (omega (arith, le, fits))

  end_q : (i : ℕ) → 8188 ≤ i → byte sq i ≡ byte q i
  end_q i le = cq.above i (omega (arith, le, fits))

  lines : LinesAlike (is_leaf p) (pd_lower p) sp sq
  lines =
      let s : LinesAlike (is_leaf p) (pd_lower p) (raised p at d) (raised q at d) =
      λ i le lt. ap (shown_line (is_leaf p) i) (r_front p hp at to d from fits far i le lt) ∙ a.lines i le lt ∙ ap (shown_line (is_leaf p) i) (sym (r_front q hq at to d from_q fits far i le (omega (arith, lt, lowers)))) in
      let top : pd_lower p ≤ 8192 = omega (arith, hp.page.head.mid, hp.page.head.high, hp.page.head.top) in
      subst (λ n. LinesAlike (is_leaf p) (pd_lower p) sp (moved_lines (raised q at d) to d n)) (count_same p q a)
      (all_alike to d far (is_leaf p) (pd_lower p) (raised p at d) (raised q at d) (r_size p hp at to d from fits far) (r_size q hq at to d from_q fits far) top s (count p) (omega (arith, hp.page.head.low, hp.page.head.by4)))

  pub shifted_alike : BtreeAlike (moved_lines (raised p at d) to d (count p)) (moved_lines (raised q at d) to d (count q))
  shifted_alike = record {
    ten = (λ t. cp.low 10 (omega arith) t / 8 * 8) ∙ a.ten ∙ (λ t. sym (cq.low 10 (omega arith)) t / 8 * 8);
    head = λ i le lt. ⊎_elim
        (λ (x : (nat_le 16 i ≡ true) × (16 ≤ i)). cp.head i x.1 (omega (arith, lt)) ∙ a.head i le lt ∙ sym (cq.head i x.1 (omega (arith, lt))))
        (λ (f : (nat_le 16 i ≡ false) × (i < 16)). ⊎_elim
        (λ (x : (nat_le 14 i ≡ true) × (14 ≤ i)). shifted_top p hp at to d from fits far i x.1 f.1 ∙ (λ t. byte (u16_bytes (uppers t + d)) (i - 14)) ∙ sym (shifted_top q hq at to d from_q fits far i x.1 f.1))
        (λ (g : (nat_le 14 i ≡ false) × (i < 14)). cp.low i g.1 ∙ a.head i le lt ∙ sym (cq.low i g.1))
        (leb_tells 14 i))
        (leb_tells 16 i);
    lines = λ i le lt. ap (λ n. shown_line (n % 2 == 1) i (byte sp i)) (end_p 8188 (omega arith)) ∙ lines i le (omega (arith, lt, cp.lower)) ∙ ap (λ n. shown_line (n % 2 == 1) i (byte sq i)) (sym (end_p 8188 (omega arith)));
    items = λ i le lt. ⊎_elim
        (λ (x : (nat_le (at + d) i ≡ true) × (at + d ≤ i)). cp.above i x.1 ∙ a.items i (omega (arith, le, cp.upper)) lt ∙ sym (cq.above i x.1))
        (λ (f : (nat_le (at + d) i ≡ false) × (i < at + d)). cp.moved i (omega (arith, le, cp.upper)) f.1 ∙ a.items (i - d) (omega (arith, le, cp.upper)) (omega (arith, lt)) ∙ sym (cq.moved i (omega (arith, le, cp.upper, uppers)) f.1))
        (leb_tells (at + d) i);
    flags = ap shown_flags (end_p 8188 (omega arith)) ∙ a.flags ∙ ap shown_flags (sym (end_q 8188 (omega arith)));
    last = end_p 8189 (omega arith) ∙ a.last ∙ sym (end_q 8189 (omega arith));
  }

-- an item closed up
module _ (p q : List ℕ) (hp : BtreePage p) (hq : BtreePage q) (k : ℕ) (there : k < count p) (a : BtreeAlike p q) where
  off : lp_off p k ≡ lp_off q k
  off = same_off p q hp hq a k there

  len : lp_len p k ≡ lp_len q k
  len = same_len p q hp hq a k there

  with_some : 0 < lp_len p k → BtreeAlike (closed_up p k) (closed_up q k)
  with_some some =
      let i = held_in p k (btree_formed p hp) there some in
      let sure : nat_lt 0 (lp_len p k) ≡ true = grind (arith, nat_tests, some) in
      let sure_q : nat_lt 0 (lp_len q k) ≡ true = grind (arith, nat_tests, some, len) in
      let fits : lp_off p k + up8 (lp_len p k) ≤ 8176 = omega (arith, i.held, hp.page.special) in
      let is_q : closed_up q k ≡ moved_lines (raised q (lp_off p k) (up8 (lp_len p k))) (lp_off p k) (up8 (lp_len p k)) (count q) =
      rw sure_q (λ t. moved_lines (raised q (sym off t) (up8 (sym len t))) (sym off t) (up8 (sym len t)) (count q)) in
      rw sure (subst (BtreeAlike (moved_lines (raised p (lp_off p k) (up8 (lp_len p k))) (lp_off p k) (up8 (lp_len p k)) (count p))) (sym is_q)
      (shifted_alike p q hp hq a (lp_off p k) (lp_off p k) (up8 (lp_len p k)) i.from fits (omega (arith, fits))))

  pub closed_alike : BtreeAlike (closed_up p k) (closed_up q k)
  closed_alike = ⊎_elim
      (λ (t : ((lp_len p k == 0) ≡ true) × (lp_len p k ≡ 0)).
      let no : nat_lt 0 (lp_len p k) ≡ false = grind (arith, nat_tests, t.1) in
      let no_q : nat_lt 0 (lp_len q k) ≡ false = grind (arith, nat_tests, t.1, len) in
      rw (no, no_q) a)
      (λ (n : ((lp_len p k == 0) ≡ false) × (lp_len p k ≢ 0)). with_some (omega (arith, n.1)))
      (eqb_tells (lp_len p k) 0)
