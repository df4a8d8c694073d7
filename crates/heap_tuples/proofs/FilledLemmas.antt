-- A page with unused lines added behind its lines.
use Rattle.std.proofs.Common.{◌≡◌, ℕ, ◌+◌, ◌-◌, ◌*◌, ◌/◌, ◌<◌, ◌≤◌, ◌⊎◌, inl, inr, ⊎_elim, List, true, false, length, sym, ◌∙◌, ap, arith}
use Rattle.std.specs.Prelude.{replicate, nat_le}
use Rattle.std.proofs.lemmas.Bool.Decides.{leb_tells}
use Rattle.std.proofs.lemmas.List.{ext_get_or, length-replicate}
use Rattle.layout.specs.Splice.{splice}
use Rattle.layout.proofs.SpliceLemmas.{length-splice, byte-splice_in, byte-splice_out}
use Rattle.page_layout.specs.Bytes.{byte, u16_at, u16_bytes, cut}
use Rattle.page_layout.specs.Page.{pd_lower, pd_upper, pd_special, count, lp_off, lp_flags, lp_len, item, IsFormed}
use Rattle.page_layout.specs.Apart.{AreApart}
use Rattle.page_layout.proofs.BytesLemmas.{length-cut, byte-cut, byte-zeros}
use Rattle.page_layout.proofs.LineViews.{u16_at-with_u16}
use Rattle.page_layout.proofs.ReadLemmas.{lower_u16, upper_u16, special_u16, off_same, len_same, flags_same, len_u16}
use Rattle.page_layout.proofs.ShapeLemmas.{lines_below, held_in}
use Rattle.page_layout.proofs.ItemsStay.{fits_in}
use Rattle.heap_tuples.specs.Put.{extended}

-- so many lines fit below the items
pub record Extends (p : List ℕ) (n : ℕ) : Type 0 where
  pub formed : IsFormed p
  pub more : count p ≤ n
  pub fits : 24 + 4 * n ≤ pd_upper p

module _ (p : List ℕ) (n : ℕ) (e : Extends p n) where
  abbrev f : IsFormed p
  f = e.formed

  abbrev zeros : List ℕ
  zeros = replicate (4 * (n - count p)) 0

  abbrev mid : List ℕ
  mid = splice p (pd_lower p) zeros

  abbrev new : List ℕ
  new = extended p n

  lower_is : pd_lower p ≡ 24 + 4 * count p
  lower_is = omega (arith, f.head.low, f.head.by4)

  zeros_size : length zeros ≡ 4 * (n - count p)
  zeros_size = length-replicate {A = ℕ} (4 * (n - count p)) 0

  end : pd_lower p + length zeros ≡ 24 + 4 * n
  end = omega (arith, zeros_size, lower_is, e.more)

  top : pd_upper p ≤ 8192
  top = omega (arith, f.head.high, f.head.top)

  fits_mid : pd_lower p + length zeros ≤ length p
  fits_mid = omega (arith, end, e.fits, top, f.size)

  size_mid : length mid ≡ 8192
  size_mid = length-splice p (pd_lower p) zeros fits_mid ∙ f.size

  pub ext_size : length new ≡ 8192
  ext_size = length-splice mid 12 (u16_bytes (24 + 4 * n)) (omega (arith, size_mid)) ∙ size_mid

  other : (i : ℕ) → (i < 12) ⊎ (14 ≤ i) → byte new i ≡ byte mid i
  other i out = byte-splice_out mid 12 (u16_bytes (24 + 4 * n)) i (omega (arith, size_mid)) out

  -- a byte that isn't of the new lines
  pub ext_byte : (i : ℕ) → (i < 12) ⊎ (14 ≤ i) → (i < pd_lower p) ⊎ (24 + 4 * n ≤ i) → byte new i ≡ byte p i
  ext_byte i out away = other i out ∙ byte-splice_out p (pd_lower p) zeros i fits_mid (⊎_elim (λ (l : i < pd_lower p). inl l) (λ (r : 24 + 4 * n ≤ i). inr (omega (arith, r, end))) away)

  -- one that is
  pub ext_zero : (i : ℕ) → pd_lower p ≤ i → i < 24 + 4 * n → byte new i ≡ 0
  ext_zero i le lt = other i (inr (omega (arith, le, f.head.low))) ∙ byte-splice_in p (pd_lower p) zeros i fits_mid le (omega (arith, lt, end)) ∙ byte-zeros (4 * (n - count p)) (i - pd_lower p)

  pub ext_lower : pd_lower new ≡ 24 + 4 * n
  ext_lower = lower_u16 new ∙ u16_at-with_u16 mid 12 (24 + 4 * n) (omega (arith, size_mid))

  head_u16 : (i : ℕ) → 14 ≤ i → i < 23 → u16_at new i ≡ u16_at p i
  head_u16 i le lt = λ t. ext_byte i (inr le) (inl (omega (arith, lt, f.head.low))) t + 256 * ext_byte (i + 1) (inr (omega (arith, le))) (inl (omega (arith, lt, f.head.low))) t

  pub ext_upper : pd_upper new ≡ pd_upper p
  ext_upper = upper_u16 new ∙ head_u16 14 (omega arith) (omega arith) ∙ sym (upper_u16 p)

  pub ext_special : pd_special new ≡ pd_special p
  ext_special = special_u16 new ∙ head_u16 16 (omega arith) (omega arith) ∙ sym (special_u16 p)

  pub ext_count : count new ≡ n
  ext_count = omega (arith, ext_lower)

  old_u16 : (i : ℕ) → 24 ≤ i → i + 1 < pd_lower p → u16_at new i ≡ u16_at p i
  old_u16 i le lt = λ t. ext_byte i (inr (omega (arith, le))) (inl (omega (arith, lt))) t + 256 * ext_byte (i + 1) (inr (omega (arith, le))) (inl lt) t

  in_lines : (k : ℕ) → k < count p → 28 + 4 * k ≤ pd_lower p
  in_lines k lt = omega (arith, lt, lower_is)

  pub ext_off : (k : ℕ) → k < count p → lp_off new k ≡ lp_off p k
  ext_off k lt = let room = in_lines k lt in off_same new p k k (old_u16 (24 + 4 * k) (omega arith) (omega arith))

  pub ext_len : (k : ℕ) → k < count p → lp_len new k ≡ lp_len p k
  ext_len k lt = let room = in_lines k lt in len_same new p k k (old_u16 (26 + 4 * k) (omega arith) (omega arith))

  pub ext_flags : (k : ℕ) → k < count p → lp_flags new k ≡ lp_flags p k
  ext_flags k lt = let room = in_lines k lt in flags_same new p k k (old_u16 (24 + 4 * k) (omega arith) (omega arith)) (old_u16 (26 + 4 * k) (omega arith) (omega arith))

  new_u16 : (i : ℕ) → pd_lower p ≤ i → i + 1 < 24 + 4 * n → u16_at new i ≡ 0
  new_u16 i le lt = λ t. ext_zero i le (omega (arith, lt)) t + 256 * ext_zero (i + 1) (omega (arith, le)) lt t

  ext_none : (k : ℕ) → count p ≤ k → k < n → lp_len new k ≡ 0
  ext_none k le lt = len_u16 new k ∙ ap (λ w. w / 2) (new_u16 (26 + 4 * k) (omega (arith, le, lower_is)) (omega (arith, lt)))

  -- a line with an item is an old one
  pub ext_some : (k : ℕ) → k < count new → 0 < lp_len new k → k < count p
  ext_some k lt some = ⊎_elim
      (λ (t : (nat_le (count p) k ≡ true) × (count p ≤ k)). absurd (omega (arith, some, ext_none k t.1 (omega (arith, lt, ext_count)))))
      (λ (u : (nat_le (count p) k ≡ false) × (k < count p)). u.1)
      (leb_tells (count p) k)

  pub ext_item : (k : ℕ) → k < count p → 0 < lp_len p k → item new k ≡ item p k
  ext_item k lt some =
      let i = held_in p k f lt some in
      let fits : lp_off p k + lp_len p k ≤ 8192 = omega (arith, i.to, f.head.top) in
      rw (ext_off k lt, ext_len k lt) (ext_get_or 0 (cut new (lp_off p k) (lp_len p k)) (item p k)
      (length-cut new (lp_off p k) (lp_len p k) (omega (arith, ext_size, fits)) ∙ sym (length-cut p (lp_off p k) (lp_len p k) (omega (arith, f.size, fits))))
      (λ o lt_o.
      let small : o < lp_len p k = omega (arith, lt_o, length-cut new (lp_off p k) (lp_len p k) (omega (arith, ext_size, fits))) in
      byte-cut new (lp_off p k) (lp_len p k) o small ∙ ext_byte (lp_off p k + o) (inr (omega (arith, i.from, e.fits))) (inr (omega (arith, i.from, e.fits))) ∙ sym (byte-cut p (lp_off p k) (lp_len p k) o small)))

  pub ext_formed : IsFormed new
  ext_formed = record {
    size = ext_size;
    head = record {
      low = omega (arith, ext_lower);
      mid = omega (arith, ext_lower, ext_upper, e.fits);
      high = omega (arith, ext_upper, ext_special, f.head.high);
      top = rw ext_special f.head.top;
      by4 = omega (arith, ext_lower);
      by8 = rw ext_upper f.head.by8;
      special8 = rw ext_special f.head.special8;
      layout = head_u16 18 (omega arith) (omega arith) ∙ f.head.layout;
    };
    lines = lines_below new (count new) (λ k lt. fits_in new k (λ some.
        let lt_p = ext_some k lt some in
        let i = held_in p k f lt_p (omega (arith, some, ext_len k lt_p)) in
        (omega (arith, ext_upper, ext_off k lt_p, i.from), omega (arith, ext_off k lt_p, ext_len k lt_p, ext_special, i.to), rw (ext_off k lt_p) i.by8)));
  }

  pub ext_apart : AreApart p → AreApart new
  ext_apart apart = λ j k lt there some_j some_k.
      let k_p = ext_some k there some_k in
      let j_p : j < count p = omega (arith, lt, k_p) in
      rw (ext_off j j_p, ext_len j j_p, ext_off k k_p, ext_len k k_p) (apart j k lt k_p (omega (arith, some_j, ext_len j j_p)) (omega (arith, some_k, ext_len k k_p)))
