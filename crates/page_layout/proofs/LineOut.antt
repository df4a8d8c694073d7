-- A page after a line is taken out.
use Rattle.std.proofs.Common.{◌≡◌, ℕ, ◌+◌, ◌-◌, ◌*◌, ◌/◌, ◌%◌, ◌<◌, ◌≤◌, ◌⊎◌, inl, inr, ⊎_elim, List, true, false, length, refl, ◌∙◌, ap, arith}
use Rattle.std.specs.Prelude.{nat_lt, nat_le, if◌then◌else◌}
use Rattle.std.proofs.lemmas.Bool.Decides.{leb_tells, nat_tests}
use Rattle.layout.specs.Splice.{splice}
use Rattle.page_layout.specs.Bytes.{byte, u16_at, u16_bytes, cut}
use Rattle.page_layout.specs.Page.{pd_lower, pd_upper, pd_special, count, lp_off, lp_flags, lp_len, line_fits, lines_fit, Head, IsFormed}
use Rattle.page_layout.specs.Deletes.{without_line}
use Rattle.layout.proofs.SpliceLemmas.{length-splice, byte-splice_in, byte-splice_out, byte-splice_below, byte-splice_above}
use Rattle.page_layout.proofs.BytesLemmas.{length-cut, byte-cut}
use Rattle.page_layout.proofs.LineViews.{u16_at-with_u16}
use Rattle.page_layout.proofs.ShapeLemmas.{lines_below, line_fits_at}

-- the old index of line j once line k is out
abbrev pub skip : ℕ → ℕ → ℕ
skip k j = if nat_lt j k then j else j + 1

pub skip_below : (k j n : ℕ) → j < n - 1 → skip k j < n
skip_below k j n lt = grind (arith, nat_tests)

-- what stands where
pub record LineOut (p : List ℕ) (k : ℕ) (q : List ℕ) : Type 0 where
  pub size : length q ≡ 8192
  pub lower : pd_lower q ≡ pd_lower p - 4
  pub low : (i : ℕ) → i < 12 → byte q i ≡ byte p i
  pub head : (i : ℕ) → 14 ≤ i → i < 24 → byte q i ≡ byte p i
  pub before : (i : ℕ) → 24 ≤ i → i < 24 + 4 * k → byte q i ≡ byte p i
  pub after : (i : ℕ) → 24 + 4 * k ≤ i → i < pd_lower p - 4 → byte q i ≡ byte p (i + 4)
  pub rest : (i : ℕ) → pd_lower p - 4 ≤ i → byte q i ≡ byte p i

module _ (p : List ℕ) (k : ℕ) (size : length p ≡ 8192) (h : Head p) (there : k < count p) where
  room : 28 + 4 * k ≤ pd_lower p
  room = omega (arith, h.low, h.by4)

  abbrev tail : List ℕ
  tail = cut p (28 + 4 * k) (pd_lower p - (28 + 4 * k))

  abbrev closed : List ℕ
  closed = splice p (24 + 4 * k) tail

  tail_size : length tail ≡ pd_lower p - (28 + 4 * k)
  tail_size = length-cut p (28 + 4 * k) (pd_lower p - (28 + 4 * k)) (omega (arith, room, size, h.mid, h.high, h.top))

  fits : 24 + 4 * k + length tail ≤ length p
  fits = omega (arith, tail_size, room, size, h.mid, h.high, h.top)

  closed_size : length closed ≡ 8192
  closed_size = length-splice p (24 + 4 * k) tail fits ∙ size

  abbrev q : List ℕ
  q = without_line p k

  other : (i : ℕ) → (i < 12) ⊎ (14 ≤ i) → byte q i ≡ byte closed i
  other i out = byte-splice_out closed 12 (u16_bytes (pd_lower p - 4)) i (omega (arith, closed_size)) out

  lower_is : pd_lower q ≡ pd_lower p - 4
  unfolding pd_lower
  lower_is = u16_at-with_u16 closed 12 (u16_at p 12 - 4) (omega (arith, closed_size))

  pub line_out : LineOut p k q
  line_out = record {
    size = length-splice closed 12 (u16_bytes (pd_lower p - 4)) (omega (arith, closed_size)) ∙ closed_size;
    lower = lower_is;
    low = λ i lt. other i (inl lt) ∙ byte-splice_below p (24 + 4 * k) tail i fits (omega arith);
    head = λ i le lt. other i (inr le) ∙ byte-splice_below p (24 + 4 * k) tail i fits (omega arith);
    before = λ i le lt. other i (inr (omega arith)) ∙ byte-splice_below p (24 + 4 * k) tail i fits lt;
    after = λ i le lt.
        let there : 28 + 4 * k + (i - (24 + 4 * k)) ≡ i + 4 = omega arith in
        other i (inr (omega arith)) ∙ byte-splice_in p (24 + 4 * k) tail i fits le (omega (arith, tail_size, lt, room))
        ∙ byte-cut p (28 + 4 * k) (pd_lower p - (28 + 4 * k)) (i - (24 + 4 * k)) (omega (arith, lt, le)) ∙ ap (byte p) there;
    rest = λ i le. other i (inr (omega (arith, room))) ∙ byte-splice_above p (24 + 4 * k) tail i fits (omega (arith, tail_size, room));
  }

module _ (p : List ℕ) (k : ℕ) (q : List ℕ) (h : Head p) (there : k < count p) (o : LineOut p k q) where
  pub upper_out : pd_upper q ≡ pd_upper p
  unfolding pd_upper
  upper_out = λ t. o.head 14 (omega arith) (omega arith) t + 256 * o.head 15 (omega arith) (omega arith) t

  pub special_out : pd_special q ≡ pd_special p
  unfolding pd_special
  special_out = λ t. o.head 16 (omega arith) (omega arith) t + 256 * o.head 17 (omega arith) (omega arith) t

  pub count_out : count q ≡ count p - 1
  count_out = omega (arith, o.lower)

  line_u16 : (j e : ℕ) → e ≤ 2 → j < count q → u16_at q (24 + e + 4 * j) ≡ u16_at p (24 + e + 4 * skip k j)
  line_u16 j e small lt = ⊎_elim
      (λ (t : (nat_le (k) j ≡ true) × (k ≤ j)).
      let no : nat_lt j k ≡ false = grind (arith, nat_tests, t.1) in
      let a : 24 + e + 4 * j + 4 ≡ 24 + e + 4 * (j + 1) = omega arith in
      let b : 24 + e + 4 * j + 1 + 4 ≡ 24 + e + 4 * (j + 1) + 1 = omega arith in
      let x = o.after (24 + e + 4 * j) (omega (arith, t.1)) (omega (arith, lt, o.lower, h.low, h.by4, small)) ∙ ap (byte p) a in
      let y = o.after (24 + e + 4 * j + 1) (omega (arith, t.1)) (omega (arith, lt, o.lower, h.low, h.by4, small)) ∙ ap (byte p) b in
      rw no (λ t. x t + 256 * y t))
      (λ (f : (nat_le (k) j ≡ false) × (j < k)).
      let sure : nat_lt j k ≡ true = grind (arith, nat_tests, f.1) in
      let x = o.before (24 + e + 4 * j) (omega arith) (omega (arith, f.1, small)) in
      let y = o.before (24 + e + 4 * j + 1) (omega arith) (omega (arith, f.1, small)) in
      rw sure (λ t. x t + 256 * y t))
      (leb_tells k j)

  pub off_out : (j : ℕ) → j < count q → lp_off q j ≡ lp_off p (skip k j)
  unfolding lp_off
  off_out j lt = ap (λ w. w % 32768) (line_u16 j 0 (omega arith) lt)

  pub len_out : (j : ℕ) → j < count q → lp_len q j ≡ lp_len p (skip k j)
  unfolding lp_len
  len_out j lt = ap (λ w. w / 2) (line_u16 j 2 (omega arith) lt)

  pub flags_out : (j : ℕ) → j < count q → lp_flags q j ≡ lp_flags p (skip k j)
  unfolding lp_flags
  flags_out j lt = λ t. line_u16 j 0 (omega arith) lt t / 32768 % 2 + 2 * (line_u16 j 2 (omega arith) lt t % 2)

  pub head_out : Head q
  head_out =
      let l = o.lower in let u = upper_out in let s = special_out in
      record {
        low = omega (arith, l, h.low, h.by4, there);
        mid = omega (arith, l, u, h.mid);
        high = rw (u, s) h.high;
        top = rw s h.top;
        by4 = omega (arith, l, h.low, h.by4, there);
        by8 = rw u h.by8;
        special8 = rw s h.special8;
        layout = (λ t. o.head 18 (omega arith) (omega arith) t + 256 * o.head 19 (omega arith) (omega arith) t) ∙ h.layout;
      }

  line_out_fits : (j : ℕ) → j < count q → line_fits q j ≡ line_fits p (skip k j)
  unfolding line_fits
  line_out_fits j lt = rw (len_out j lt, off_out j lt, upper_out, special_out) refl

  pub lines_out : lines_fit p (count p) ≡ true → lines_fit q (count q) ≡ true
  lines_out lines = lines_below q (count q) (λ j lt. line_out_fits j lt ∙ line_fits_at p (count p) (skip k j) lines (skip_below k j (count p) (omega (arith, lt, count_out))))

-- a line taken out of a well formed page leaves one
pub formed_out : (p : List ℕ) (k : ℕ) → IsFormed p → k < count p → IsFormed (without_line p k)
formed_out p k f there =
    let o = line_out p k f.size f.head there in
    record { size = o.size; head = head_out p k (without_line p k) f.head there o; lines = lines_out p k (without_line p k) f.head there o f.lines }
