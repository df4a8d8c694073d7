-- Lines of pages that look alike: on a leaf their kinds don't show.
use Rattle.std.proofs.Common.{◌≡◌, ℕ, zero, suc, ◌+◌, ◌-◌, ◌*◌, ◌/◌, ◌%◌, ◌<◌, ◌≤◌, ◌==◌, ◌&&◌, ◌⊎◌, inl, inr, ⊎_elim, List, Bool, true, false, length, refl, sym, ◌∙◌, ap, arith}
use Rattle.std.specs.Prelude.{if◌then◌else◌, nat_le}
use Rattle.std.proofs.lemmas.Bool.Decides.{leb_tells}
use Rattle.page_layout.specs.Bytes.{byte}
use Rattle.page_layout.specs.Edits.{with_pointer}
use Rattle.page_layout.specs.Page.{lp_off, lp_flags, lp_len}
use Rattle.page_layout.proofs.LineViews.{line_bytes, pointer_in, byte_other}
use Rattle.page_layout.proofs.ReadLemmas.{off_u16, len_u16, flags_same}
use Rattle.page_masks.specs.Mask.{shown_line}

-- lines up to `lower` that look alike
abbrev pub LinesAlike : Bool → ℕ → List ℕ → List ℕ → Type 0
LinesAlike leaf lower p q = (i : ℕ) → 24 ≤ i → i < lower → shown_line leaf i (byte p i) ≡ shown_line leaf i (byte q i)

-- the four bytes of a line
shown_0 : (leaf : Bool) (i b : ℕ) → i % 4 ≡ 0 → shown_line leaf i b ≡ b
shown_0 true i b e = rw e refl
shown_0 false i b e = refl

shown_1 : (leaf : Bool) (i b : ℕ) → i % 4 ≡ 1 → shown_line leaf i b ≡ (if leaf then b % 128 else b)
shown_1 true i b e = rw e refl
shown_1 false i b e = refl

shown_2 : (leaf : Bool) (i b : ℕ) → i % 4 ≡ 2 → shown_line leaf i b ≡ (if leaf then b / 2 * 2 else b)
shown_2 true i b e = rw e refl
shown_2 false i b e = refl

shown_3 : (leaf : Bool) (i b : ℕ) → i % 4 ≡ 3 → shown_line leaf i b ≡ b
shown_3 true i b e = rw e refl
shown_3 false i b e = refl

pub shown_twice : (leaf : Bool) (i b : ℕ) → shown_line leaf i (shown_line leaf i b) ≡ shown_line leaf i b
shown_twice leaf i b = twice (leaf && i % 4 == 1) (leaf && i % 4 == 2)
  where
    twice : (u v : Bool) → (if u then (if u then b % 128 else if v then b / 2 * 2 else b) % 128 else if v then (if u then b % 128 else if v then b / 2 * 2 else b) / 2 * 2 else if u then b % 128 else if v then b / 2 * 2 else b)
        ≡ (if u then b % 128 else if v then b / 2 * 2 else b)
    twice true v = omega arith
    twice false true = omega arith
    twice false false = refl

module _ (leaf : Bool) (lower : ℕ) (p q : List ℕ) (s : LinesAlike leaf lower p q) (k : ℕ) (room : 28 + 4 * k ≤ lower) where
  pub alike_off : lp_off p k ≡ lp_off q k
  alike_off =
      let four : (24 + 4 * k) % 4 ≡ 0 = omega arith in
      let five : (24 + 4 * k + 1) % 4 ≡ 1 = omega arith in
      let a : byte p (24 + 4 * k) ≡ byte q (24 + 4 * k) = sym (shown_0 leaf (24 + 4 * k) (byte p (24 + 4 * k)) four) ∙ s (24 + 4 * k) (omega arith) (omega arith) ∙ shown_0 leaf (24 + 4 * k) (byte q (24 + 4 * k)) four in
      let b = sym (shown_1 leaf (24 + 4 * k + 1) (byte p (24 + 4 * k + 1)) five) ∙ s (24 + 4 * k + 1) (omega arith) (omega arith) ∙ shown_1 leaf (24 + 4 * k + 1) (byte q (24 + 4 * k + 1)) five in
      off_u16 p k ∙ pick leaf (byte p (24 + 4 * k)) (byte q (24 + 4 * k)) (byte p (24 + 4 * k + 1)) (byte q (24 + 4 * k + 1)) a b ∙ sym (off_u16 q k)
    where
      pick : (l : Bool) (x y u v : ℕ) → x ≡ y → (if l then u % 128 else u) ≡ (if l then v % 128 else v) → (x + 256 * u) % 32768 ≡ (y + 256 * v) % 32768
      pick true x y u v e f = omega (arith, e, f)
      pick false x y u v e f = omega (arith, e, f)

  pub alike_len : lp_len p k ≡ lp_len q k
  alike_len =
      let six : (26 + 4 * k) % 4 ≡ 2 = omega arith in
      let seven : (26 + 4 * k + 1) % 4 ≡ 3 = omega arith in
      let a = sym (shown_2 leaf (26 + 4 * k) (byte p (26 + 4 * k)) six) ∙ s (26 + 4 * k) (omega arith) (omega arith) ∙ shown_2 leaf (26 + 4 * k) (byte q (26 + 4 * k)) six in
      let b : byte p (26 + 4 * k + 1) ≡ byte q (26 + 4 * k + 1) = sym (shown_3 leaf (26 + 4 * k + 1) (byte p (26 + 4 * k + 1)) seven) ∙ s (26 + 4 * k + 1) (omega arith) (omega arith) ∙ shown_3 leaf (26 + 4 * k + 1) (byte q (26 + 4 * k + 1)) seven in
      len_u16 p k ∙ pick leaf (byte p (26 + 4 * k)) (byte q (26 + 4 * k)) (byte p (26 + 4 * k + 1)) (byte q (26 + 4 * k + 1)) a b ∙ sym (len_u16 q k)
    where
      pick : (l : Bool) (x y u v : ℕ) → (if l then x / 2 * 2 else x) ≡ (if l then y / 2 * 2 else y) → u ≡ v → (x + 256 * u) / 2 ≡ (y + 256 * v) / 2
      pick true x y u v e f = omega (arith, e, f)
      pick false x y u v e f = omega (arith, e, f)

  -- on a page that isn't a leaf the kinds show
  pub alike_flags : leaf ≡ false → lp_flags p k ≡ lp_flags q k
  alike_flags = pick leaf s
    where
      pick : (l : Bool) → LinesAlike l lower p q → l ≡ false → lp_flags p k ≡ lp_flags q k
      pick true t e = cc e
      pick false t e = flags_same p q k k
          (λ x. t (24 + 4 * k) (omega arith) (omega arith) x + 256 * t (24 + 4 * k + 1) (omega arith) (omega arith) x)
          (λ x. t (26 + 4 * k) (omega arith) (omega arith) x + 256 * t (26 + 4 * k + 1) (omega arith) (omega arith) x)

-- lines with the same place and length, and on other pages than leaves of the same kind
pub lines_same : (leaf : Bool) (off fa fb len i o : ℕ) → fa < 4 → fb < 4 → (leaf ≡ false → fa ≡ fb) → o < 4 → i % 4 ≡ o → shown_line leaf i (byte (line_bytes off fa len) o) ≡ shown_line leaf i (byte (line_bytes off fb len) o)
lines_same false off fa fb len i o kind_a kind_b kinds lt e = ap (λ f. byte (line_bytes off f len) o) (kinds refl)
lines_same true off fa fb len i zero kind_a kind_b kinds lt e = shown_0 true i _ e ∙ low off (fa % 2) (fb % 2) ∙ sym (shown_0 true i _ e)
  where
    low : (o x y : ℕ) → (o + 32768 * x) % 256 ≡ (o + 32768 * y) % 256
    low o x y = omega arith
lines_same true off fa fb len i (suc zero) kind_a kind_b kinds lt e = shown_1 true i _ e ∙ high off (fa % 2) (fb % 2) ∙ sym (shown_1 true i _ e)
  where
    high : (o x y : ℕ) → (o + 32768 * x) / 256 % 128 ≡ (o + 32768 * y) / 256 % 128
    high o x y = omega arith
lines_same true off fa fb len i (suc (suc zero)) kind_a kind_b kinds lt e = shown_2 true i _ e ∙ low len (fa / 2) (fb / 2) (omega (arith, kind_a)) (omega (arith, kind_b)) ∙ sym (shown_2 true i _ e)
  where
    low : (n x y : ℕ) → x < 2 → y < 2 → (x + 2 * n) % 256 / 2 * 2 ≡ (y + 2 * n) % 256 / 2 * 2
    low n x y u v = omega arith
lines_same true off fa fb len i (suc (suc (suc zero))) kind_a kind_b kinds lt e = shown_3 true i _ e ∙ high len (fa / 2) (fb / 2) (omega (arith, kind_a)) (omega (arith, kind_b)) ∙ sym (shown_3 true i _ e)
  where
    high : (n x y : ℕ) → x < 2 → y < 2 → (x + 2 * n) / 256 ≡ (y + 2 * n) / 256
    high n x y u v = omega arith
lines_same true off fa fb len i (suc (suc (suc (suc o)))) kind_a kind_b kinds lt e = absurd (omega (arith, lt))

-- bytes outside of line k
abbrev pub Outside : ℕ → ℕ → Type 0
Outside k i = (i < 24 + 4 * k) ⊎ (28 + 4 * k ≤ i)

pub beside : (k i : ℕ) (P : Type 0) → (Outside k i → P) → (24 + 4 * k ≤ i → i < 28 + 4 * k → P) → P
beside k i P out here = ⊎_elim
    (λ (x : (nat_le (24 + 4 * k) i ≡ true) × (24 + 4 * k ≤ i)). ⊎_elim
    (λ (y : (nat_le (28 + 4 * k) i ≡ true) × (28 + 4 * k ≤ i)). out (inr y.1))
    (λ (z : (nat_le (28 + 4 * k) i ≡ false) × (i < 28 + 4 * k)). here x.1 z.1)
    (leb_tells (28 + 4 * k) i))
    (λ (y : (nat_le (24 + 4 * k) i ≡ false) × (i < 24 + 4 * k)). out (inl y.1))
    (leb_tells (24 + 4 * k) i)

-- lines that look alike but for line k do so once it is written
module _ (leaf : Bool) (lower : ℕ) (a b : List ℕ) (k off fa fb len : ℕ) (s : (i : ℕ) → 24 ≤ i → i < lower → Outside k i → shown_line leaf i (byte a i) ≡ shown_line leaf i (byte b i))
    (fits_a : 28 + 4 * k ≤ length a) (fits_b : 28 + 4 * k ≤ length b) (small : off < 32768) (kind_a : fa < 4) (kind_b : fb < 4) (kinds : leaf ≡ false → fa ≡ fb) where
  pub pointer_alike : LinesAlike leaf lower (with_pointer a k off fa len) (with_pointer b k off fb len)
  pointer_alike = λ i le lt. beside k i (shown_line leaf i (byte (with_pointer a k off fa len) i) ≡ shown_line leaf i (byte (with_pointer b k off fb len) i))
      (λ out. ap (shown_line leaf i) (byte_other a k off fa len fits_a small kind_a i out) ∙ s i le lt out ∙ ap (shown_line leaf i) (sym (byte_other b k off fb len fits_b small kind_b i out)))
      (λ x y. ap (shown_line leaf i) (pointer_in a k off fa len i fits_a x y) ∙ lines_same leaf off fa fb len i (i - (24 + 4 * k)) kind_a kind_b kinds (omega (arith, y)) (omega (arith, x, y)) ∙ ap (shown_line leaf i) (sym (pointer_in b k off fb len i fits_b x y)))
