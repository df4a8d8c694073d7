-- The bytes of a masked tuple.
use Rattle.std.proofs.Common.{◌≡◌, ℕ, ◌+◌, ◌-◌, ◌<◌, ◌≤◌, ◌==◌, ◌⊎◌, inl, inr, List, [], ◌∷◌, Bool, true, false, length, refl, ◌∙◌, ap, arith}
use Rattle.std.specs.Prelude.{if◌then◌else◌, nat_le}
use Rattle.std.proofs.lemmas.Bool.Decides.{nat_tests}
use Rattle.layout.specs.Splice.{splice}
use Rattle.page_layout.specs.Bytes.{byte, u16_at, u16_bytes}
use Rattle.layout.proofs.SpliceLemmas.{length-splice, byte-splice_in, byte-splice_out, byte-splice_below, byte-splice_above}
use Rattle.page_masks.specs.Mask.{masked_item, masked_tuple, masked_infomask, tid_bytes}

-- byte o of the address that shows
abbrev pub tid_byte : ℕ → ℕ → List ℕ → ℕ → ℕ
tid_byte block place t o = if u16_at t 16 == 0xFFFE then byte (tid_bytes block place) o else byte t (12 + o)

abbrev pub zeros : List ℕ
zeros = 0 ∷ 0 ∷ 0 ∷ 0 ∷ []

module _ (block place : ℕ) where
  abbrev addressed : List ℕ → List ℕ
  addressed t = if u16_at t 16 == 0xFFFE then splice t 12 (tid_bytes block place) else t

  long_addressed : (t : List ℕ) → 23 ≤ length t → length (addressed t) ≡ length t
  long_addressed t h = by_case (u16_at t 16 == 0xFFFE)
    where
      by_case : (b : Bool) → length (if b then splice t 12 (tid_bytes block place) else t) ≡ length t
      by_case true = length-splice t 12 (tid_bytes block place) (omega arith)
      by_case false = refl

  addressed_in : (t : List ℕ) (o : ℕ) → 23 ≤ length t → o < 6 → byte (addressed t) (12 + o) ≡ tid_byte block place t o
  addressed_in t o h lt = by_case (u16_at t 16 == 0xFFFE)
    where
      by_case : (b : Bool) → byte (if b then splice t 12 (tid_bytes block place) else t) (12 + o) ≡ (if b then byte (tid_bytes block place) o else byte t (12 + o))
      by_case true = let back : 12 + o - 12 ≡ o = omega arith in byte-splice_in t 12 (tid_bytes block place) (12 + o) (omega arith) (omega arith) (omega arith) ∙ ap (byte (tid_bytes block place)) back
      by_case false = refl

  addressed_out : (t : List ℕ) (o : ℕ) → 23 ≤ length t → (o < 12) ⊎ (18 ≤ o) → byte (addressed t) o ≡ byte t o
  addressed_out t o h out = by_case (u16_at t 16 == 0xFFFE)
    where
      by_case : (b : Bool) → byte (if b then splice t 12 (tid_bytes block place) else t) o ≡ byte t o
      by_case true = byte-splice_out t 12 (tid_bytes block place) o (omega arith) out
      by_case false = refl

  -- the bytes of a masked tuple
  pub low_shows : (t : List ℕ) (o : ℕ) → 23 ≤ length t → o < 8 → byte (masked_tuple block place t) o ≡ byte t o
  low_shows t o h lt =
      let a = long_addressed t h in let b = length-splice (addressed t) 8 zeros (omega arith) in
      byte-splice_below (splice (addressed t) 8 zeros) 20 (u16_bytes (masked_infomask (u16_at t 20))) o (omega (arith, a, b)) (omega arith)
      ∙ byte-splice_below (addressed t) 8 zeros o (omega (arith, a)) lt ∙ addressed_out t o h (inl (omega arith))

  pub zero_shows : (t : List ℕ) (o : ℕ) → 23 ≤ length t → 8 ≤ o → o < 12 → byte (masked_tuple block place t) o ≡ byte zeros (o - 8)
  zero_shows t o h le lt =
      let a = long_addressed t h in let b = length-splice (addressed t) 8 zeros (omega arith) in
      byte-splice_below (splice (addressed t) 8 zeros) 20 (u16_bytes (masked_infomask (u16_at t 20))) o (omega (arith, a, b)) (omega arith)
      ∙ byte-splice_in (addressed t) 8 zeros o (omega (arith, a)) le lt

  pub tid_shows : (t : List ℕ) (o : ℕ) → 23 ≤ length t → o < 6 → byte (masked_tuple block place t) (12 + o) ≡ tid_byte block place t o
  tid_shows t o h lt =
      let a = long_addressed t h in let b = length-splice (addressed t) 8 zeros (omega arith) in
      byte-splice_below (splice (addressed t) 8 zeros) 20 (u16_bytes (masked_infomask (u16_at t 20))) (12 + o) (omega (arith, a, b)) (omega arith)
      ∙ byte-splice_above (addressed t) 8 zeros (12 + o) (omega (arith, a)) (omega arith) ∙ addressed_in t o h lt

  pub mid_shows : (t : List ℕ) (o : ℕ) → 23 ≤ length t → 18 ≤ o → o < 20 → byte (masked_tuple block place t) o ≡ byte t o
  mid_shows t o h le lt =
      let a = long_addressed t h in let b = length-splice (addressed t) 8 zeros (omega arith) in
      byte-splice_below (splice (addressed t) 8 zeros) 20 (u16_bytes (masked_infomask (u16_at t 20))) o (omega (arith, a, b)) lt
      ∙ byte-splice_above (addressed t) 8 zeros o (omega (arith, a)) (omega arith) ∙ addressed_out t o h (inr le)

  pub bits_show : (t : List ℕ) (o : ℕ) → 23 ≤ length t → 20 ≤ o → o < 22 → byte (masked_tuple block place t) o ≡ byte (u16_bytes (masked_infomask (u16_at t 20))) (o - 20)
  bits_show t o h le lt =
      let a = long_addressed t h in let b = length-splice (addressed t) 8 zeros (omega arith) in
      byte-splice_in (splice (addressed t) 8 zeros) 20 (u16_bytes (masked_infomask (u16_at t 20))) o (omega (arith, a, b)) le lt

  pub rest_shows : (t : List ℕ) (o : ℕ) → 23 ≤ length t → 22 ≤ o → byte (masked_tuple block place t) o ≡ byte t o
  rest_shows t o h le =
      let a = long_addressed t h in let b = length-splice (addressed t) 8 zeros (omega arith) in
      byte-splice_above (splice (addressed t) 8 zeros) 20 (u16_bytes (masked_infomask (u16_at t 20))) o (omega (arith, a, b)) le
      ∙ byte-splice_above (addressed t) 8 zeros o (omega (arith, a)) (omega arith) ∙ addressed_out t o h (inr (omega arith))

  pub tuple_is : (t : List ℕ) → 23 ≤ length t → masked_item block place 1 t ≡ masked_tuple block place t
  unfolding masked_item
  tuple_is t h = let e : nat_le 23 (length t) ≡ true = grind (arith, nat_tests) in rw e refl
