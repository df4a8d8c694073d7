-- A page after an item was added to it, over an old line or past the last.
use Rattle.std.proofs.Common.{◌≡◌, ◌≢◌, ℕ, ◌+◌, ◌*◌, ◌%◌, ◌<◌, ◌≤◌, ◌==◌, ◌⊎◌, inl, inr, ⊎_elim, List, true, false, length, sym, ◌∙◌, subst, arith}
use Rattle.std.specs.Prelude.{nat_le}
use Rattle.std.proofs.lemmas.Bool.Decides.{eqb_tells, leb_tells}
use Rattle.std.proofs.lemmas.List.{ext_get_or}
use Rattle.page_layout.specs.Bytes.{byte, u16_at, up8, cut}
use Rattle.page_layout.specs.Page.{pd_lower, pd_upper, pd_special, count, lp_off, lp_flags, lp_len, item, line_fits, IsFormed}
use Rattle.page_layout.specs.Edits.{added_at}
use Rattle.page_layout.proofs.BytesLemmas.{length-cut, byte-cut}
use Rattle.page_layout.proofs.ReadLemmas.{off_same, len_same, flags_same}
use Rattle.page_layout.proofs.ShapeLemmas.{lines_below, held_in}
use Rattle.page_layout.proofs.ItemsStay.{fits_in}
use Rattle.page_laws.proofs.AddedBytes as Added
use Rattle.page_laws.proofs.AddedBytes.{Lays, added_size, added_head, added_other_line, added_lower, added_upper, added_special, added_off, added_len}

-- an old line without an item, or one past the last
pub record Adds (p bytes : List ℕ) (k lower upper : ℕ) : Type 0 where
  pub formed : IsFormed p
  pub line : ((k < count p) × (lower ≡ pd_lower p) × (lp_len p k ≡ 0)) ⊎ ((k ≡ count p) × (lower ≡ pd_lower p + 4))
  pub room : lower ≤ upper
  pub upper_is : upper + up8 (length bytes) ≡ pd_upper p

module _ (p bytes : List ℕ) (k lower upper : ℕ) (a : Adds p bytes k lower upper) where
  abbrev f : IsFormed p
  f = a.formed

  abbrev new : List ℕ
  new = added_at p bytes k lower upper

  line_room : 28 + 4 * k ≤ lower
  line_room = ⊎_elim (λ (o : (k < count p) × (lower ≡ pd_lower p) × (lp_len p k ≡ 0)). omega (arith, o.0, o.1, f.head.low, f.head.by4)) (λ (n : (k ≡ count p) × (lower ≡ pd_lower p + 4)). omega (arith, n.0, n.1, f.head.low, f.head.by4)) a.line

  old_lower : pd_lower p ≤ lower
  old_lower = ⊎_elim (λ (o : (k < count p) × (lower ≡ pd_lower p) × (lp_len p k ≡ 0)). omega (arith, o.1)) (λ (n : (k ≡ count p) × (lower ≡ pd_lower p + 4)). omega (arith, n.1)) a.line

  top : pd_upper p ≤ 8192
  top = omega (arith, f.head.high, f.head.top)

  pub lays : Lays p bytes k lower upper
  lays = record { size = f.size; line = line_room; room = a.room; top = omega (arith, a.upper_is, top) }

  pub added_back : (i : ℕ) → pd_upper p ≤ i → byte new i ≡ byte p i
  added_back i le = Added.added_back p bytes k lower upper lays i (omega (arith, le, a.upper_is))

  pub old_or_new : (j : ℕ) → j < count new → j ≢ k → j < count p
  old_or_new j lt ne = ⊎_elim (λ (o : (k < count p) × (lower ≡ pd_lower p) × (lp_len p k ≡ 0)). omega (arith, lt, added_lower p bytes k lower upper lays, o.1)) (λ (n : (k ≡ count p) × (lower ≡ pd_lower p + 4)). omega (arith, lt, added_lower p bytes k lower upper lays, n.0, n.1, ne, f.head.low, f.head.by4)) a.line

  other_u16 : (j e : ℕ) → e ≤ 2 → j ≢ k → j < count p → u16_at new (24 + e + 4 * j) ≡ u16_at p (24 + e + 4 * j)
  other_u16 j e le ne lt =
      let room : 28 + 4 * j ≤ upper = omega (arith, lt, f.head.low, f.head.by4, old_lower, a.room) in
      let out : (28 + 4 * j ≤ 24 + 4 * k) ⊎ (28 + 4 * k ≤ 24 + 4 * j) = ⊎_elim (λ (t : (nat_le k j ≡ true) × (k ≤ j)). inr (omega (arith, t.1, ne))) (λ (u : (nat_le k j ≡ false) × (j < k)). inl (omega (arith, u.1))) (leb_tells k j) in
      λ t. added_other_line p bytes k lower upper lays (24 + e + 4 * j) (omega arith) (omega (arith, room, le)) (⊎_elim (λ (l : 28 + 4 * j ≤ 24 + 4 * k). inl (omega (arith, l, le))) (λ (r : 28 + 4 * k ≤ 24 + 4 * j). inr (omega (arith, r))) out) t
      + 256 * added_other_line p bytes k lower upper lays (24 + e + 4 * j + 1) (omega arith) (omega (arith, room, le)) (⊎_elim (λ (l : 28 + 4 * j ≤ 24 + 4 * k). inl (omega (arith, l, le))) (λ (r : 28 + 4 * k ≤ 24 + 4 * j). inr (omega (arith, r))) out) t

  pub kept_off : (j : ℕ) → j ≢ k → j < count p → lp_off new j ≡ lp_off p j
  kept_off j ne lt = off_same new p j j (other_u16 j 0 (omega arith) ne lt)

  pub kept_len : (j : ℕ) → j ≢ k → j < count p → lp_len new j ≡ lp_len p j
  kept_len j ne lt = len_same new p j j (other_u16 j 2 (omega arith) ne lt)

  pub kept_flags : (j : ℕ) → j ≢ k → j < count p → lp_flags new j ≡ lp_flags p j
  kept_flags j ne lt = flags_same new p j j (other_u16 j 0 (omega arith) ne lt) (other_u16 j 2 (omega arith) ne lt)

  pub kept_item : (j : ℕ) → j ≢ k → j < count p → 0 < lp_len p j → item new j ≡ item p j
  kept_item j ne lt some =
      let i = held_in p j f lt some in
      let whole : lp_off p j + lp_len p j ≤ 8192 = omega (arith, i.to, f.head.top) in
      rw (kept_off j ne lt, kept_len j ne lt) (ext_get_or 0 (cut new (lp_off p j) (lp_len p j)) (item p j)
      (length-cut new (lp_off p j) (lp_len p j) (omega (arith, added_size p bytes k lower upper lays, whole)) ∙ sym (length-cut p (lp_off p j) (lp_len p j) (omega (arith, f.size, whole))))
      (λ o lt_o.
      let small_o : o < lp_len p j = omega (arith, lt_o, length-cut new (lp_off p j) (lp_len p j) (omega (arith, added_size p bytes k lower upper lays, whole))) in
      byte-cut new (lp_off p j) (lp_len p j) o small_o ∙ added_back (lp_off p j + o) (omega (arith, i.from)) ∙ sym (byte-cut p (lp_off p j) (lp_len p j) o small_o)))

  line_stays : (j : ℕ) → j < count new → line_fits new j ≡ true
  line_stays j lt = fits_in new j (λ some. ⊎_elim
      (λ (t : ((j == k) ≡ true) × (j ≡ k)).
      subst (λ x. (pd_upper new ≤ lp_off new x) × (lp_off new x + lp_len new x ≤ pd_special new) × (lp_off new x % 8 ≡ 0)) (sym t.1)
      (omega (arith, added_upper p bytes k lower upper lays, added_off p bytes k lower upper lays), omega (arith, added_off p bytes k lower upper lays, added_len p bytes k lower upper lays, added_special p bytes k lower upper lays, a.upper_is, f.head.high), omega (arith, added_off p bytes k lower upper lays, a.upper_is, f.head.by8)))
      (λ (n : ((j == k) ≡ false) × (j ≢ k)).
      let lt_p = old_or_new j lt n.1 in
      let i = held_in p j f lt_p (omega (arith, some, kept_len j n.1 lt_p)) in
      (omega (arith, added_upper p bytes k lower upper lays, kept_off j n.1 lt_p, i.from, a.upper_is), omega (arith, kept_off j n.1 lt_p, kept_len j n.1 lt_p, added_special p bytes k lower upper lays, i.to), rw (kept_off j n.1 lt_p) i.by8))
      (eqb_tells j k))

  pub added_formed : IsFormed new
  added_formed = record {
    size = added_size p bytes k lower upper lays;
    head = record {
      low = omega (arith, added_lower p bytes k lower upper lays, line_room);
      mid = omega (arith, added_lower p bytes k lower upper lays, added_upper p bytes k lower upper lays, a.room);
      high = omega (arith, added_upper p bytes k lower upper lays, added_special p bytes k lower upper lays, a.upper_is, f.head.high);
      top = rw (added_special p bytes k lower upper lays) f.head.top;
      by4 = ⊎_elim (λ (o : (k < count p) × (lower ≡ pd_lower p) × (lp_len p k ≡ 0)). omega (arith, added_lower p bytes k lower upper lays, o.1, f.head.by4)) (λ (n : (k ≡ count p) × (lower ≡ pd_lower p + 4)). omega (arith, added_lower p bytes k lower upper lays, n.1, f.head.by4)) a.line;
      by8 = omega (arith, added_upper p bytes k lower upper lays, a.upper_is, f.head.by8);
      special8 = rw (added_special p bytes k lower upper lays) f.head.special8;
      layout = (λ t. added_head p bytes k lower upper lays 18 (inr (omega arith)) (omega arith) t + 256 * added_head p bytes k lower upper lays 19 (inr (omega arith)) (omega arith) t) ∙ f.head.layout;
    };
    lines = lines_below new (count new) line_stays;
  }
