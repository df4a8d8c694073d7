-- What is taken out of a page whose items don't overlap leaves the other items as they were.
use Rattle.std.proofs.Common.{◌≡◌, ◌≢◌, ℕ, ◌+◌, ◌%◌, ◌<◌, ◌≤◌, ◌==◌, ◌&&◌, ◌⊎◌, inl, inr, ⊎_elim, List, Bool, true, false, refl, arith}
use Rattle.std.specs.Prelude.{nat_lt, nat_le, if◌then◌else◌}
use Rattle.std.proofs.lemmas.Bool.Decides.{leb_tells, eqb_tells, nat_tests}
use Rattle.page_layout.specs.Bytes.{up8}
use Rattle.page_layout.specs.Page.{pd_upper, pd_special, count, lp_off, lp_len, line_fits, IsFormed}
use Rattle.page_layout.specs.Apart.{Apart, AreApart}
use Rattle.page_layout.specs.Deletes.{without_item}
use Rattle.page_layout.proofs.ShapeLemmas.{lines_below, held_in}
use Rattle.page_layout.proofs.ClosedUp.{moved_off}
use Rattle.page_layout.proofs.LineOut.{skip, skip_below}
use Rattle.page_layout.proofs.ItemOut.{ItemOut, item_out}

-- a line that points nowhere, or into the page's items
pub fits_in : (p : List ℕ) (k : ℕ) → (0 < lp_len p k → (pd_upper p ≤ lp_off p k) × (lp_off p k + lp_len p k ≤ pd_special p) × (lp_off p k % 8 ≡ 0)) → line_fits p k ≡ true
unfolding line_fits
fits_in p k h = ⊎_elim
    (λ (t : ((lp_len p k == 0) ≡ true) × (lp_len p k ≡ 0)). rw t.0 refl)
    (λ (n : ((lp_len p k == 0) ≡ false) × (lp_len p k ≢ 0)). let i = h (omega (arith, n.1)) in grind (arith, nat_tests, i.0, i.1, i.2))
    (eqb_tells (lp_len p k) 0)

skip_not : (k j : ℕ) → skip k j ≢ k
skip_not k j e = grind (arith, nat_tests)

skip_rises : (k i j : ℕ) → i < j → skip k i < skip k j
skip_rises k i j lt = grind (arith, nat_tests)

-- the numbers of one item beside the one that goes: from upper u, `size` bytes at `at`
record Beside (u at size top off len : ℕ) : Type 0 where
  from : u ≤ off
  held : off + up8 len ≤ top
  by8 : off % 8 ≡ 0
  apart : (size ≡ 0) ⊎ ((u ≤ at) × (at + size ≤ top) × ((off + up8 len ≤ at) ⊎ (at + size ≤ off)))

record Placed (u at size top off len : ℕ) (moved : Bool) (new : ℕ) : Type 0 where
  from : u + size ≤ new
  to : new + up8 len ≤ top
  by8 : size % 8 ≡ 0 → new % 8 ≡ 0

placed : (u at size top off len : ℕ) (b : Bool) → (nat_lt 0 len && nat_lt off at) ≡ b → 0 < len → Beside u at size top off len → Placed u at size top off len b (if b then off + size else off)
placed u at size top off len true e some s =
    let lt : off < at = grind (arith, nat_tests) in
    record {
      from = omega (arith, s.from);
      to = ⊎_elim (λ (z : size ≡ 0). omega (arith, z, s.held)) (λ (a : (u ≤ at) × (at + size ≤ top) × ((off + up8 len ≤ at) ⊎ (at + size ≤ off))).
          ⊎_elim (λ (x : off + up8 len ≤ at). omega (arith, x, a.1)) (λ (y : at + size ≤ off). omega (arith, y, lt, a.1)) a.2) s.apart;
      by8 = λ m. omega (arith, m, s.by8);
    }
placed u at size top off len false e some s =
    let ge : at ≤ off = grind (arith, nat_tests) in
    record {
      from = ⊎_elim (λ (z : size ≡ 0). omega (arith, z, s.from)) (λ (a : (u ≤ at) × (at + size ≤ top) × ((off + up8 len ≤ at) ⊎ (at + size ≤ off))).
          ⊎_elim (λ (x : off + up8 len ≤ at). omega (arith, x, ge, some)) (λ (y : at + size ≤ off). omega (arith, y, a.0)) a.2) s.apart;
      to = s.held;
      by8 = λ m. s.by8;
    }

-- one that moves and one that doesn't
one_moves : (u at size top off len off2 len2 : ℕ) → (nat_lt 0 len && nat_lt off at) ≡ true → (nat_lt 0 len2 && nat_lt off2 at) ≡ false → 0 < len → 0 < len2
    → Beside u at size top off len → Beside u at size top off2 len2 → (off + up8 len ≤ off2) ⊎ (off2 + up8 len2 ≤ off) → off + size + up8 len ≤ off2
one_moves u at size top off len off2 len2 ea eb s1 s2 x y either =
    let lt : off < at = grind (arith, nat_tests) in
    let ge : at ≤ off2 = grind (arith, nat_tests) in
    let still : size ≡ 0 → off + size + up8 len ≤ off2 = λ z. ⊎_elim (λ (l : off + up8 len ≤ off2). omega (arith, l, z)) (λ (r : off2 + up8 len2 ≤ off). omega (arith, r, lt, ge, s2)) either in
    ⊎_elim still
    (λ (a : (u ≤ at) × (at + size ≤ top) × ((off2 + up8 len2 ≤ at) ⊎ (at + size ≤ off2))).
    ⊎_elim (λ (l : off2 + up8 len2 ≤ at). omega (arith, l, ge, s2)) (λ (far : at + size ≤ off2).
    ⊎_elim still
    (λ (c : (u ≤ at) × (at + size ≤ top) × ((off + up8 len ≤ at) ⊎ (at + size ≤ off))). ⊎_elim (λ (l : off + up8 len ≤ at). omega (arith, l, far)) (λ (r : at + size ≤ off). omega (arith, r, lt)) c.2) x.apart) a.2) y.apart

turned : (a b c d : ℕ) → (a ≤ b) ⊎ (c ≤ d) → (c ≤ d) ⊎ (a ≤ b)
turned a b c d o = ⊎_elim (λ l. inr l) (λ r. inl r) o

-- two of them stay apart
still_apart : (u at size top off len off2 len2 : ℕ) (a b : Bool) → (nat_lt 0 len && nat_lt off at) ≡ a → (nat_lt 0 len2 && nat_lt off2 at) ≡ b → 0 < len → 0 < len2
    → Beside u at size top off len → Beside u at size top off2 len2 → (off + up8 len ≤ off2) ⊎ (off2 + up8 len2 ≤ off)
    → ((if a then off + size else off) + up8 len ≤ (if b then off2 + size else off2)) ⊎ ((if b then off2 + size else off2) + up8 len2 ≤ (if a then off + size else off))
still_apart u at size top off len off2 len2 true true ea eb s1 s2 x y either = ⊎_elim (λ (l : off + up8 len ≤ off2). inl (omega (arith, l))) (λ (r : off2 + up8 len2 ≤ off). inr (omega (arith, r))) either
still_apart u at size top off len off2 len2 false false ea eb s1 s2 x y either = either
still_apart u at size top off len off2 len2 true false ea eb s1 s2 x y either = inl (one_moves u at size top off len off2 len2 ea eb s1 s2 x y either)
still_apart u at size top off len off2 len2 false true ea eb s1 s2 x y either = inr (one_moves u at size top off2 len2 off len eb ea s2 s1 y x (turned (off + up8 len) off2 (off2 + up8 len2) off either))

module _ (p : List ℕ) (k : ℕ) (f : IsFormed p) (there : k < count p) (apart : AreApart p) where
  abbrev q : List ℕ
  q = without_item p k

  abbrev size : ℕ
  size = up8 (lp_len p k)

  o : ItemOut p k q
  o = item_out p k f there

  old : (j : ℕ) → j < count q → skip k j < count p
  old j lt = skip_below k j (count p) (omega (arith, lt, o.lines))

  either : (j : ℕ) → j < count p → j ≢ k → 0 < lp_len p j → 0 < lp_len p k → Apart p j k
  either j lt ne some some_k = ⊎_elim
      (λ (t : (nat_le k j ≡ true) × (k ≤ j)). let a = apart k j (omega (arith, t.1, ne)) lt some_k some in ⊎_elim (λ l. inr l) (λ r. inl r) a)
      (λ (b : (nat_le k j ≡ false) × (j < k)). apart j k b.1 there some some_k)
      (leb_tells k j)

  beside : (j : ℕ) → j < count p → j ≢ k → 0 < lp_len p j → Beside (pd_upper p) (lp_off p k) size (pd_special p) (lp_off p j) (lp_len p j)
  beside j lt ne some =
      let i = held_in p j f lt some in
      record {
        from = i.from;
        held = i.held;
        by8 = i.by8;
        apart = ⊎_elim
            (λ (t : ((lp_len p k == 0) ≡ true) × (lp_len p k ≡ 0)). inl (omega (arith, t.1)))
            (λ (n : ((lp_len p k == 0) ≡ false) × (lp_len p k ≢ 0)). let some_k : 0 < lp_len p k = omega (arith, n.1) in let h = held_in p k f there some_k in inr (h.from, h.held, either j lt ne some some_k))
            (eqb_tells (lp_len p k) 0);
      }

  new : (j : ℕ) → j < count q → 0 < lp_len q j → Placed (pd_upper p) (lp_off p k) size (pd_special p) (lp_off p (skip k j)) (lp_len p (skip k j)) (nat_lt 0 (lp_len p (skip k j)) && nat_lt (lp_off p (skip k j)) (lp_off p k)) (moved_off (lp_off p k) size p (skip k j))
  new j lt some =
      let some_j : 0 < lp_len p (skip k j) = omega (arith, o.len j lt) in
      placed (pd_upper p) (lp_off p k) size (pd_special p) (lp_off p (skip k j)) (lp_len p (skip k j)) (nat_lt 0 (lp_len p (skip k j)) && nat_lt (lp_off p (skip k j)) (lp_off p k)) refl some_j (beside (skip k j) (old j lt) (skip_not k j) some_j)

  by8 : size % 8 ≡ 0
  by8 = omega arith

  pub formed_without : IsFormed q
  formed_without = record {
    size = o.size;
    head = o.head;
    lines = lines_below q (count q) (λ j lt. fits_in q j (λ some.
        let n = new j lt some in
        (omega (arith, o.upper, o.off j lt, n.from), omega (arith, o.special, o.off j lt, o.len j lt, n.to), rw (o.off j lt) (n.by8 by8))));
  }

  pub apart_without : AreApart q
  apart_without = λ i j lt there_j some_i some_j.
      let there_i : i < count q = omega (arith, lt, there_j) in
      let a : 0 < lp_len p (skip k i) = omega (arith, o.len i there_i) in
      let b : 0 < lp_len p (skip k j) = omega (arith, o.len j there_j) in
      rw (o.off i there_i, o.off j there_j, o.len i there_i, o.len j there_j)
      (still_apart (pd_upper p) (lp_off p k) size (pd_special p) (lp_off p (skip k i)) (lp_len p (skip k i)) (lp_off p (skip k j)) (lp_len p (skip k j))
      (nat_lt 0 (lp_len p (skip k i)) && nat_lt (lp_off p (skip k i)) (lp_off p k)) (nat_lt 0 (lp_len p (skip k j)) && nat_lt (lp_off p (skip k j)) (lp_off p k)) refl refl a b
      (beside (skip k i) (old i there_i) (skip_not k i) a) (beside (skip k j) (old j there_j) (skip_not k j) b)
      (apart (skip k i) (skip k j) (skip_rises k i j lt) (old j there_j) a b))
