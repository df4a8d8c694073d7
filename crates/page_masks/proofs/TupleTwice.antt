-- A tuple whose bytes were masked, here by its own line and there by another's, is masked once for all.
use Rattle.std.proofs.Common.{◌≡◌, ◌≢◌, ℕ, ◌+◌, ◌-◌, ◌*◌, ◌/◌, ◌%◌, ◌<◌, ◌≤◌, ◌==◌, ⊎_elim, List, Bool, true, false, length, refl, sym, ◌∙◌, ap, subst, arith}
use Rattle.std.specs.Prelude.{if◌then◌else◌, nat_le}
use Rattle.std.proofs.lemmas.Bool.Decides.{nat_tests, leb_tells}
use Rattle.page_layout.specs.Bytes.{byte, u16_at, u16_bytes}
use Rattle.page_masks.specs.Mask.{masked_tuple, masked_infomask, tid_bytes}
use Rattle.page_masks.proofs.TupleBytes.{low_shows, zero_shows, tid_shows, mid_shows, bits_show, rest_shows}

pub infomask_twice : (bits : ℕ) → masked_infomask (masked_infomask bits) ≡ masked_infomask bits
infomask_twice bits = by_case (bits / 256 % 4 == 3) refl
  where
    by_case : (b : Bool) → (bits / 256 % 4 == 3) ≡ b → masked_infomask (if b then bits / 4096 * 4096 + bits % 1024 else bits % 16) ≡ (if b then bits / 4096 * 4096 + bits % 1024 else bits % 16)
    by_case true e =
        let three : bits / 256 % 4 ≡ 3 = grind (arith, nat_tests) in
        let same : ((bits / 4096 * 4096 + bits % 1024) / 256 % 4 == 3) ≡ true = let s : (bits / 4096 * 4096 + bits % 1024) / 256 % 4 ≡ 3 = omega (arith, three) in grind (arith, nat_tests, s) in
        rw same (omega arith)
    by_case false e =
        let other : (bits % 16 / 256 % 4 == 3) ≡ false = let s : bits % 16 / 256 % 4 ≡ 0 = omega arith in grind (arith, nat_tests, s) in
        rw other (omega arith)

half_u16 : (n : ℕ) → n % 256 + 256 * (n / 256) ≡ n
half_u16 n = omega arith

module _ (block place : ℕ) (x m : List ℕ) (long : 23 ≤ length x) (size : length m ≡ length x) (small : place < 65534) where
  abbrev w : List ℕ
  w = masked_tuple block place x

  long_m : 23 ≤ length m
  long_m = omega (arith, size)

  -- the address that shows isn't marked
  unmarked : u16_at w 16 ≢ 0xFFFE
  unmarked e = by_case (u16_at x 16 == 0xFFFE) refl
    where
      at : (b : Bool) → (u16_at x 16 == 0xFFFE) ≡ b → u16_at w 16 ≡ (if b then place else u16_at x 16)
      at true t =
          let a : byte w 16 ≡ place % 256 = tid_shows block place x 4 long (omega arith) ∙ rw t refl in
          let b : byte w 17 ≡ place / 256 = tid_shows block place x 5 long (omega arith) ∙ rw t refl in
          (λ s. a s + 256 * b s) ∙ half_u16 place
      at false f =
          let a : byte w 16 ≡ byte x 16 = tid_shows block place x 4 long (omega arith) ∙ rw f refl in
          let b : byte w 17 ≡ byte x 17 = tid_shows block place x 5 long (omega arith) ∙ rw f refl in
          λ s. a s + 256 * b s

      by_case : (b : Bool) → (u16_at x 16 == 0xFFFE) ≡ b → ⊥
      by_case true t = omega (arith, at true t, e, small)
      by_case false f = let no : u16_at x 16 ≢ 0xFFFE = grind (arith, nat_tests) in no (sym (at false f) ∙ e)

  bits_w : u16_at w 20 ≡ masked_infomask (u16_at x 20)
  bits_w = (λ s. bits_show block place x 20 long (omega arith) (omega arith) s + 256 * bits_show block place x 21 long (omega arith) (omega arith) s) ∙ half_u16 (masked_infomask (u16_at x 20))

  -- bytes of m in the chunk of o are those of w, and a mark in m was one in x
  pub twice_at : (o : ℕ) → o < length x → ((j : ℕ) → j < length x → j / 8 ≡ o / 8 → byte m j ≡ byte w j) → (u16_at m 16 ≡ 0xFFFE → u16_at x 16 ≡ 0xFFFE) → byte (masked_tuple block place m) o ≡ byte w o
  twice_at o lt chunk mark = ⊎_elim
      (λ (t22 : (nat_le 22 o ≡ true) × (22 ≤ o)). rest_shows block place m o long_m t22.1 ∙ here)
      (λ (f22 : (nat_le 22 o ≡ false) × (o < 22)). ⊎_elim
      (λ (t20 : (nat_le 20 o ≡ true) × (20 ≤ o)). bits_show block place m o long_m t20.1 f22.1 ∙ ap (λ n. byte (u16_bytes n) (o - 20)) (ap masked_infomask (bits_m (omega (arith, t20.1, f22.1))) ∙ infomask_twice (u16_at x 20)) ∙ sym (bits_show block place x o long t20.1 f22.1))
      (λ (f20 : (nat_le 20 o ≡ false) × (o < 20)). ⊎_elim
      (λ (t18 : (nat_le 18 o ≡ true) × (18 ≤ o)). mid_shows block place m o long_m t18.1 f20.1 ∙ here)
      (λ (f18 : (nat_le 18 o ≡ false) × (o < 18)). ⊎_elim
      (λ (t12 : (nat_le 12 o ≡ true) × (12 ≤ o)).
      let back : 12 + (o - 12) ≡ o = omega (arith, t12.1) in
      subst (λ n. byte (masked_tuple block place m) n ≡ byte w n) back (tid_shows block place m (o - 12) long_m (omega (arith, f18.1, t12.1)) ∙ address t12.1 f18.1 back (u16_at m 16 == 0xFFFE) refl))
      (λ (f12 : (nat_le 12 o ≡ false) × (o < 12)). ⊎_elim
      (λ (t8 : (nat_le 8 o ≡ true) × (8 ≤ o)). zero_shows block place m o long_m t8.1 f12.1 ∙ sym (zero_shows block place x o long t8.1 f12.1))
      (λ (f8 : (nat_le 8 o ≡ false) × (o < 8)). low_shows block place m o long_m f8.1 ∙ here)
      (leb_tells 8 o))
      (leb_tells 12 o))
      (leb_tells 18 o))
      (leb_tells 20 o))
      (leb_tells 22 o)
    where
      here : byte m o ≡ byte w o
      here = chunk o lt refl

      bits_m : 2 ≡ o / 8 → u16_at m 20 ≡ masked_infomask (u16_at x 20)
      bits_m two = (λ s. chunk 20 (omega arith) (omega (arith, two)) s + 256 * chunk 21 (omega arith) (omega (arith, two)) s) ∙ bits_w

      -- a mark that isn't seen leaves the byte, one that is seen was there before
      address : 12 ≤ o → o < 18 → 12 + (o - 12) ≡ o → (b : Bool) → (u16_at m 16 == 0xFFFE) ≡ b → (if b then byte (tid_bytes block place) (o - 12) else byte m (12 + (o - 12))) ≡ byte w (12 + (o - 12))
      address le lt18 back false e = ap (byte m) back ∙ here ∙ ap (byte w) (sym back)
      address le lt18 back true e =
          let is : u16_at m 16 ≡ 0xFFFE = grind (arith, nat_tests) in
          ⊎_elim
          (λ (t16 : (nat_le 16 o ≡ true) × (16 ≤ o)). absurd (unmarked ((λ s. sym (chunk 16 (omega arith) (omega (arith, t16.1))) s + 256 * sym (chunk 17 (omega arith) (omega (arith, t16.1))) s) ∙ is)))
          (λ (f16 : (nat_le 16 o ≡ false) × (o < 16)).
          let old : (u16_at x 16 == 0xFFFE) ≡ true = grind (arith, nat_tests, mark is) in
          sym (tid_shows block place x (o - 12) long (omega arith) ∙ rw old refl))
          (leb_tells 16 o)
