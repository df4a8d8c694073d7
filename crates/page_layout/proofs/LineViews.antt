-- The lines of a page after one is written.
use Rattle.std.proofs.Common.{◌≡◌, ◌≢◌, ℕ, ◌+◌, ◌-◌, ◌*◌, ◌/◌, ◌%◌, ◌<◌, ◌≤◌, ◌⊎◌, inl, inr, ⊎_elim, List, ◌++◌, length, ◌∙◌, ap, arith}
use Rattle.std.proofs.lemmas.Bool.Decides.{leb_tells}
use Rattle.page_layout.specs.Bytes.{byte, u16_at, with_u16, u16_bytes}
use Rattle.page_layout.specs.Page.{lp_off, lp_flags, lp_len}
use Rattle.page_layout.specs.Edits.{with_pointer}
use Rattle.layout.proofs.SpliceLemmas.{length-splice, byte-splice_in, byte-splice_out, splice-splice}

pub u16_at-with_u16 : (p : List ℕ) (at n : ℕ) → at + 2 ≤ length p → u16_at (with_u16 p at n) at ≡ n
u16_at-with_u16 p at n fits =
    let zero_off : at - at ≡ 0 = omega arith in
    let one_off : at + 1 - at ≡ 1 = omega arith in
    let a : byte (with_u16 p at n) at ≡ n % 256 = byte-splice_in p at (u16_bytes n) at fits (omega arith) (omega arith) ∙ ap (byte (u16_bytes n)) zero_off in
    let b : byte (with_u16 p at n) (at + 1) ≡ n / 256 = byte-splice_in p at (u16_bytes n) (at + 1) fits (omega arith) (omega arith) ∙ ap (byte (u16_bytes n)) one_off in
    (λ t. a t + 256 * b t) ∙ whole n
  where
    whole : (n : ℕ) → n % 256 + 256 * (n / 256) ≡ n
    whole n = omega arith

pub u16_at-with_u16_out : (p : List ℕ) (at n i : ℕ) → at + 2 ≤ length p → (i + 1 < at) ⊎ (at + 2 ≤ i) → u16_at (with_u16 p at n) i ≡ u16_at p i
u16_at-with_u16_out p at n i fits out = λ t. byte-splice_out p at (u16_bytes n) i fits (first out) t + 256 * byte-splice_out p at (u16_bytes n) (i + 1) fits (second out) t
  where
    first : (i + 1 < at) ⊎ (at + 2 ≤ i) → (i < at) ⊎ (at + 2 ≤ i)
    first o = ⊎_elim (λ (l : i + 1 < at). inl (omega (arith, l))) (λ r. inr r) o

    second : (i + 1 < at) ⊎ (at + 2 ≤ i) → (i + 1 < at) ⊎ (at + 2 ≤ i + 1)
    second o = ⊎_elim (λ l. inl l) (λ (r : at + 2 ≤ i). inr (omega (arith, r))) o

-- a line as its four bytes
abbrev pub line_bytes : ℕ → ℕ → ℕ → List ℕ
line_bytes off flags len = u16_bytes (off + 32768 * (flags % 2)) ++ u16_bytes (flags / 2 + 2 * len)

pub pointer_in : (p : List ℕ) (k off flags len i : ℕ) → 28 + 4 * k ≤ length p → 24 + 4 * k ≤ i → i < 28 + 4 * k → byte (with_pointer p k off flags len) i ≡ byte (line_bytes off flags len) (i - (24 + 4 * k))
pointer_in p k off flags len i fits le lt =
    ap (λ x. byte x i) (splice-splice p (24 + 4 * k) (u16_bytes (off + 32768 * (flags % 2))) (u16_bytes (flags / 2 + 2 * len)) (26 + 4 * k) (omega arith) (omega (arith, fits)))
    ∙ byte-splice_in p (24 + 4 * k) (line_bytes off flags len) i (omega (arith, fits)) le (omega (arith, lt))

module _ (p : List ℕ) (k off flags len : ℕ) (fits : 28 + 4 * k ≤ length p) (small : off < 32768) (kind : flags < 4) where
  abbrev low : List ℕ
  low = with_u16 p (24 + 4 * k) (off + 32768 * (flags % 2))

  low_size : length low ≡ length p
  low_size = length-splice p (24 + 4 * k) (u16_bytes (off + 32768 * (flags % 2))) (omega arith)

  low_is : u16_at (with_pointer p k off flags len) (24 + 4 * k) ≡ off + 32768 * (flags % 2)
  low_is = u16_at-with_u16_out low (26 + 4 * k) (flags / 2 + 2 * len) (24 + 4 * k) (omega (arith, low_size)) (inl (omega arith)) ∙ u16_at-with_u16 p (24 + 4 * k) (off + 32768 * (flags % 2)) (omega arith)

  high_is : u16_at (with_pointer p k off flags len) (26 + 4 * k) ≡ flags / 2 + 2 * len
  high_is = u16_at-with_u16 low (26 + 4 * k) (flags / 2 + 2 * len) (omega (arith, low_size))

  pub off_is : lp_off (with_pointer p k off flags len) k ≡ off
  unfolding lp_off
  off_is = ap (λ w. w % 32768) low_is ∙ omega arith

  pub len_is : lp_len (with_pointer p k off flags len) k ≡ len
  unfolding lp_len
  len_is = ap (λ w. w / 2) high_is ∙ omega arith

  pub flags_is : lp_flags (with_pointer p k off flags len) k ≡ flags
  unfolding lp_flags
  flags_is = (λ t. low_is t / 32768 % 2 + 2 * (high_is t % 2)) ∙ omega arith

  -- every number outside the line
  pub u16_other : (i : ℕ) → (i + 1 < 24 + 4 * k) ⊎ (28 + 4 * k ≤ i) → u16_at (with_pointer p k off flags len) i ≡ u16_at p i
  u16_other i out =
      u16_at-with_u16_out low (26 + 4 * k) (flags / 2 + 2 * len) i (omega (arith, low_size)) (⊎_elim (λ (l : i + 1 < 24 + 4 * k). inl (omega (arith, l))) (λ (r : 28 + 4 * k ≤ i). inr (omega (arith, r))) out)
      ∙ u16_at-with_u16_out p (24 + 4 * k) (off + 32768 * (flags % 2)) i (omega arith) (⊎_elim (λ l. inl l) (λ (r : 28 + 4 * k ≤ i). inr (omega (arith, r))) out)

  -- every byte outside the line
  pub byte_other : (i : ℕ) → (i < 24 + 4 * k) ⊎ (28 + 4 * k ≤ i) → byte (with_pointer p k off flags len) i ≡ byte p i
  byte_other i out =
      byte-splice_out low (26 + 4 * k) (u16_bytes (flags / 2 + 2 * len)) i (omega (arith, low_size)) (⊎_elim (λ (l : i < 24 + 4 * k). inl (omega (arith, l))) (λ (r : 28 + 4 * k ≤ i). inr (omega (arith, r))) out)
      ∙ byte-splice_out p (24 + 4 * k) (u16_bytes (off + 32768 * (flags % 2))) i (omega arith) (⊎_elim (λ l. inl l) (λ (r : 28 + 4 * k ≤ i). inr (omega (arith, r))) out)

  pub pointer_size : length (with_pointer p k off flags len) ≡ length p
  pointer_size = length-splice low (26 + 4 * k) (u16_bytes (flags / 2 + 2 * len)) (omega (arith, low_size)) ∙ low_size

  low_u16 : (j : ℕ) → j ≢ k → u16_at (with_pointer p k off flags len) (24 + 4 * j) ≡ u16_at p (24 + 4 * j)
  low_u16 j ne = u16_other (24 + 4 * j) (⊎_elim (λ t. inr (omega (arith, t.1, ne))) (λ f. inl (omega (arith, f.1))) (leb_tells k j))

  high_u16 : (j : ℕ) → j ≢ k → u16_at (with_pointer p k off flags len) (26 + 4 * j) ≡ u16_at p (26 + 4 * j)
  high_u16 j ne = u16_other (26 + 4 * j) (⊎_elim (λ t. inr (omega (arith, t.1, ne))) (λ f. inl (omega (arith, f.1))) (leb_tells k j))

  -- every other line
  pub off_other : (j : ℕ) → j ≢ k → lp_off (with_pointer p k off flags len) j ≡ lp_off p j
  unfolding lp_off
  off_other j ne = ap (λ w. w % 32768) (low_u16 j ne)

  pub len_other : (j : ℕ) → j ≢ k → lp_len (with_pointer p k off flags len) j ≡ lp_len p j
  unfolding lp_len
  len_other j ne = ap (λ w. w / 2) (high_u16 j ne)

  pub flags_other : (j : ℕ) → j ≢ k → lp_flags (with_pointer p k off flags len) j ≡ lp_flags p j
  unfolding lp_flags
  flags_other j ne = λ t. low_u16 j ne t / 32768 % 2 + 2 * (high_u16 j ne t % 2)
