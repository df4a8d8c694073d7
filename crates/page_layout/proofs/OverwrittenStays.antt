-- An item laid over a line's on a page whose items don't overlap leaves such a page.
use Rattle.std.proofs.Common.{◌≡◌, ◌≢◌, ℕ, ◌+◌, ◌-◌, ◌*◌, ◌/◌, ◌<◌, ◌≤◌, ◌==◌, ◌&&◌, ◌⊎◌, inl, inr, ⊎_elim, List, true, false, length, refl, sym, ◌∙◌, subst, ap, arith}
use Rattle.std.specs.Prelude.{nat_lt, nat_le}
use Rattle.std.proofs.lemmas.Bool.Decides.{leb_tells, eqb_tells, nat_tests}
use Rattle.page_layout.specs.Apart.{Apart, AreApart}
use Rattle.page_layout.specs.Bytes.{up8}
use Rattle.page_layout.specs.Page.{count, lp_off, lp_len, line_fits, Head, ItemIn, IsFormed}
use Rattle.page_layout.specs.Overwrite.{overwritten_at, room_left, overwritten}
use Rattle.page_layout.proofs.ItemsStay.{fits_in}
use Rattle.page_layout.proofs.Overwritten.{Overwritten, overwritten_is}
use Rattle.page_layout.proofs.ShapeLemmas.{lines_below, held_in}

-- an item of `size` bytes beside the old one, of `old` bytes at `at`: below it, and d further up now, or above it
abbrev Beside : ℕ → ℕ → ℕ → ℕ → ℕ → ℕ → Type 0
Beside at old d off size new = ((off + size ≤ at) × (new ≡ off + d)) ⊎ ((at + old ≤ off) × (new ≡ off))

-- two of them stay apart
both_apart : (at old d off size new off2 size2 new2 : ℕ) → d ≤ old → 0 < size → 0 < size2 → Beside at old d off size new → Beside at old d off2 size2 new2
    → (off + size ≤ off2) ⊎ (off2 + size2 ≤ off) → (new + size ≤ new2) ⊎ (new2 + size2 ≤ new)
both_apart at old d off size new off2 size2 new2 small some some2 x y either = ⊎_elim
    (λ (l : off + size ≤ off2). inl (⊎_elim
    (λ (a : (off + size ≤ at) × (new ≡ off + d)). ⊎_elim (λ (b : (off2 + size2 ≤ at) × (new2 ≡ off2 + d)). omega (arith, a.1, b.1, l)) (λ (b : (at + old ≤ off2) × (new2 ≡ off2)). omega (arith, a.0, a.1, b.0, b.1, small)) y)
    (λ (a : (at + old ≤ off) × (new ≡ off)). ⊎_elim (λ (b : (off2 + size2 ≤ at) × (new2 ≡ off2 + d)). absurd (omega (arith, a.0, b.0, l, some2))) (λ (b : (at + old ≤ off2) × (new2 ≡ off2)). omega (arith, a.1, b.1, l)) y)
    x))
    (λ (r : off2 + size2 ≤ off). inr (⊎_elim
    (λ (a : (off + size ≤ at) × (new ≡ off + d)). ⊎_elim (λ (b : (off2 + size2 ≤ at) × (new2 ≡ off2 + d)). omega (arith, a.1, b.1, r)) (λ (b : (at + old ≤ off2) × (new2 ≡ off2)). absurd (omega (arith, a.0, b.0, r, some))) y)
    (λ (a : (at + old ≤ off) × (new ≡ off)). ⊎_elim (λ (b : (off2 + size2 ≤ at) × (new2 ≡ off2 + d)). omega (arith, a.0, a.1, b.0, b.1, small)) (λ (b : (at + old ≤ off2) × (new2 ≡ off2)). omega (arith, a.1, b.1, r)) y)
    x))
    either

-- and each stays apart from the new one
own_apart : (at old d off size new own : ℕ) → d + own ≡ old → Beside at old d off size new → (new + size ≤ at + d) ⊎ (at + d + own ≤ new)
own_apart at old d off size new own e x = ⊎_elim
    (λ (a : (off + size ≤ at) × (new ≡ off + d)). inl (omega (arith, a.0, a.1)))
    (λ (a : (at + old ≤ off) × (new ≡ off)). inr (omega (arith, a.0, a.1, e)))
    x

turned : (a b c d : ℕ) → (a ≤ b) ⊎ (c ≤ d) → (c ≤ d) ⊎ (a ≤ b)
turned a b c d o = ⊎_elim (λ l. inr l) (λ r. inl r) o

module _ (p : List ℕ) (k : ℕ) (bytes : List ℕ) (d : ℕ) (f : IsFormed p) (there : k < count p) (some : 0 < lp_len p k) (room : d + up8 (length bytes) ≡ up8 (lp_len p k)) (apart : AreApart p) where
  abbrev q : List ℕ
  q = overwritten_at p k bytes d

  abbrev at : ℕ
  at = lp_off p k

  abbrev old : ℕ
  old = up8 (lp_len p k)

  o : Overwritten p k bytes d q
  o = overwritten_is p k bytes d f there some room

  i_k : ItemIn p k
  i_k = held_in p k f there some

  counts : count q ≡ count p
  counts = ap (λ n. (n - 24) / 4) o.lower

  either : (j : ℕ) → j < count p → j ≢ k → 0 < lp_len p j → Apart p j k
  either j lt ne some_j = ⊎_elim
      (λ (t : (nat_le k j ≡ true) × (k ≤ j)). turned (at + old) (lp_off p j) (lp_off p j + up8 (lp_len p j)) at (apart k j (omega (arith, t.1, ne)) lt some some_j))
      (λ (b : (nat_le k j ≡ false) × (j < k)). apart j k b.1 there some_j some)
      (leb_tells k j)

  beside : (j : ℕ) → j < count p → j ≢ k → 0 < lp_len p j → Beside at old d (lp_off p j) (up8 (lp_len p j)) (lp_off q j)
  beside j lt ne some_j = ⊎_elim
      (λ (l : lp_off p j + up8 (lp_len p j) ≤ at). let below : (nat_lt 0 (lp_len p j) && nat_lt (lp_off p j) (at + 1)) ≡ true = grind (arith, nat_tests, l, some_j) in inl (l, o.off j lt ne ∙ rw below refl))
      (λ (r : at + old ≤ lp_off p j). let above : (nat_lt 0 (lp_len p j) && nat_lt (lp_off p j) (at + 1)) ≡ false = grind (arith, nat_tests, r, some, some_j) in inr (r, o.off j lt ne ∙ rw above refl))
      (either j lt ne some_j)

  head : Head q
  head = record {
    low = rw o.lower f.head.low;
    mid = omega (arith, o.lower, o.upper, f.head.mid);
    high = omega (arith, o.upper, o.special, i_k.from, i_k.held, room);
    top = rw o.special f.head.top;
    by4 = rw o.lower f.head.by4;
    by8 = omega (arith, o.upper, f.head.by8, room);
    special8 = rw o.special f.head.special8;
    layout = (λ t. o.rest 18 (omega arith) (omega arith) t + 256 * o.rest 19 (omega arith) (omega arith) t) ∙ f.head.layout;
  }

  own_fits : line_fits q k ≡ true
  own_fits = fits_in q k (λ some_q. (omega (arith, o.upper, o.own_off, i_k.from), omega (arith, o.special, o.own_off, o.own_len, room, i_k.held), omega (arith, o.own_off, room, i_k.by8)))

  other_fits : (j : ℕ) → j < count p → j ≢ k → line_fits q j ≡ true
  other_fits j lt ne = fits_in q j (λ some_q.
      let some_j : 0 < lp_len p j = omega (arith, some_q, o.len j lt ne) in
      let i = held_in p j f lt some_j in
      ⊎_elim
      (λ (a : (lp_off p j + up8 (lp_len p j) ≤ at) × (lp_off q j ≡ lp_off p j + d)).
      (omega (arith, o.upper, a.1, i.from), omega (arith, o.special, o.len j lt ne, a.0, a.1, room, i_k.held), omega (arith, a.1, i.by8, room)))
      (λ (b : (at + old ≤ lp_off p j) × (lp_off q j ≡ lp_off p j)).
      (omega (arith, o.upper, b.0, b.1, i_k.from, room), omega (arith, o.special, o.len j lt ne, b.1, i.to), omega (arith, b.1, i.by8)))
      (beside j lt ne some_j))

  formed_overwritten : IsFormed (overwritten_at p k bytes d)
  formed_overwritten = record {
    size = o.size;
    head = head;
    lines = lines_below q (count q) (λ j lt. ⊎_elim
        (λ (t : ((j == k) ≡ true) × (j ≡ k)). subst (λ x. line_fits q x ≡ true) (sym t.1) own_fits)
        (λ (n : ((j == k) ≡ false) × (j ≢ k)). other_fits j (omega (arith, lt, counts)) n.1)
        (eqb_tells j k));
  }

  -- line j's item and the new one
  from_own : (j : ℕ) → j < count p → j ≢ k → 0 < lp_len q j → Apart q j k
  from_own j lt ne some_q =
      let some_j : 0 < lp_len p j = omega (arith, some_q, o.len j lt ne) in
      rw (o.own_off, o.own_len, o.len j lt ne) (own_apart at old d (lp_off p j) (up8 (lp_len p j)) (lp_off q j) (up8 (length bytes)) room (beside j lt ne some_j))

  from_other : (i j : ℕ) → i < j → i < count p → j < count p → i ≢ k → j ≢ k → 0 < lp_len q i → 0 < lp_len q j → Apart q i j
  from_other i j lt lt_i lt_j ne_i ne_j some_qi some_qj =
      let some_i : 0 < lp_len p i = omega (arith, some_qi, o.len i lt_i ne_i) in
      let some_j : 0 < lp_len p j = omega (arith, some_qj, o.len j lt_j ne_j) in
      rw (o.len i lt_i ne_i, o.len j lt_j ne_j) (both_apart at old d (lp_off p i) (up8 (lp_len p i)) (lp_off q i) (lp_off p j) (up8 (lp_len p j)) (lp_off q j) (omega (arith, room)) (omega (arith, some_i)) (omega (arith, some_j))
      (beside i lt_i ne_i some_i) (beside j lt_j ne_j some_j) (apart i j lt lt_j some_i some_j))

  apart_overwritten : AreApart (overwritten_at p k bytes d)
  apart_overwritten = λ i j lt there_j some_i some_j.
      let lt_j : j < count p = omega (arith, there_j, counts) in
      let lt_i : i < count p = omega (arith, lt, lt_j) in
      ⊎_elim
      (λ (t : ((i == k) ≡ true) × (i ≡ k)).
      let ne : j ≢ k = (λ e. absurd (omega (arith, e, t.1, lt))) in
      subst (λ x. Apart q x j) (sym t.1) (turned (lp_off q j + up8 (lp_len q j)) (lp_off q k) (lp_off q k + up8 (lp_len q k)) (lp_off q j) (from_own j lt_j ne some_j)))
      (λ (n : ((i == k) ≡ false) × (i ≢ k)). ⊎_elim
      (λ (t : ((j == k) ≡ true) × (j ≡ k)). subst (λ x. Apart q i x) (sym t.1) (from_own i lt_i n.1 some_i))
      (λ (m : ((j == k) ≡ false) × (j ≢ k)). from_other i j lt lt_i lt_j n.1 m.1 some_i some_j)
      (eqb_tells j k))
      (eqb_tells i k)

pub overwritten_formed : (p : List ℕ) (k : ℕ) (bytes : List ℕ) → IsFormed p → k < count p → 0 < lp_len p k → up8 (length bytes) ≤ up8 (lp_len p k) → AreApart p → IsFormed (overwritten p k bytes)
overwritten_formed p k bytes f there some room apart = formed_overwritten p k bytes (room_left p k (length bytes)) f there some (omega (arith, room)) apart

pub overwritten_apart : (p : List ℕ) (k : ℕ) (bytes : List ℕ) → IsFormed p → k < count p → 0 < lp_len p k → up8 (length bytes) ≤ up8 (lp_len p k) → AreApart p → AreApart (overwritten p k bytes)
overwritten_apart p k bytes f there some room apart = apart_overwritten p k bytes (room_left p k (length bytes)) f there some (omega (arith, room)) apart
