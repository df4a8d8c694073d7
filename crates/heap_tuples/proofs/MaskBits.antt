-- Changes of an infomask that what shows of it determines.
use Rattle.std.proofs.Common.{◌≡◌, ◌≢◌, ℕ, ◌+◌, ◌*◌, ◌/◌, ◌%◌, ◌<◌, ◌≤◌, ◌==◌, ⊎_elim, true, false, refl, sym, ◌∙◌, arith}
use Rattle.std.proofs.lemmas.Bool.Decides.{nat_tests, eqb_tells}
use Rattle.page_masks.specs.Mask.{masked_infomask}
use Rattle.redo_steps.specs.Bits.{bit, told_xmax_bits, told_infomask, without_combo}

-- what shows of a frozen tuple's infomask
abbrev pub frozen_part : ℕ → ℕ
frozen_part v = v / 4096 * 4096 + v % 1024

masked_three : (v : ℕ) → v / 256 % 4 ≡ 3 → masked_infomask v ≡ frozen_part v
masked_three v e = let t : (v / 256 % 4 == 3) ≡ true = grind (arith, nat_tests) in rw t refl

masked_other : (v : ℕ) → v / 256 % 4 ≢ 3 → masked_infomask v ≡ v % 16
masked_other v e = let t : (v / 256 % 4 == 3) ≡ false = grind (arith, nat_tests) in rw t refl

not_cross : (v w : ℕ) → v / 256 % 4 ≡ 3 → frozen_part v ≡ w % 16 → ⊥
not_cross v w e f = omega arith

-- a change of the infomask that leaves what tells a frozen tuple, and the low four bits
record KeepsMask (g : ℕ → ℕ) : Type 0 where
  top : (v : ℕ) → g v / 256 % 4 ≡ v / 256 % 4
  low : (v : ℕ) → g v % 16 ≡ v % 16
  shown : (v w : ℕ) → frozen_part v ≡ frozen_part w → frozen_part (g v) ≡ frozen_part (g w)

abbrev pub Determined : (ℕ → ℕ) → Type 0
Determined g = (v w : ℕ) → masked_infomask v ≡ masked_infomask w → masked_infomask (g v) ≡ masked_infomask (g w)

determined : (g : ℕ → ℕ) → KeepsMask g → Determined g
determined g k = λ v w e. ⊎_elim
    (λ (a : ((v / 256 % 4 == 3) ≡ true) × (v / 256 % 4 ≡ 3)). ⊎_elim
    (λ (b : ((w / 256 % 4 == 3) ≡ true) × (w / 256 % 4 ≡ 3)).
    masked_three (g v) (k.top v ∙ a.1) ∙ k.shown v w (sym (masked_three v a.1) ∙ e ∙ masked_three w b.1) ∙ sym (masked_three (g w) (k.top w ∙ b.1)))
    (λ (b : ((w / 256 % 4 == 3) ≡ false) × (w / 256 % 4 ≢ 3)). absurd (not_cross v w a.1 (sym (masked_three v a.1) ∙ e ∙ masked_other w b.1)))
    (eqb_tells (w / 256 % 4) 3))
    (λ (a : ((v / 256 % 4 == 3) ≡ false) × (v / 256 % 4 ≢ 3)). ⊎_elim
    (λ (b : ((w / 256 % 4 == 3) ≡ true) × (w / 256 % 4 ≡ 3)). absurd (not_cross w v b.1 (sym (masked_three w b.1) ∙ sym e ∙ masked_other v a.1)))
    (λ (b : ((w / 256 % 4 == 3) ≡ false) × (w / 256 % 4 ≢ 3)).
    masked_other (g v) (λ t. a.1 (sym (k.top v) ∙ t)) ∙ k.low v ∙ (sym (masked_other v a.1) ∙ e ∙ masked_other w b.1) ∙ sym (masked_other (g w) (λ t. b.1 (sym (k.top w) ∙ t)) ∙ k.low w))
    (eqb_tells (w / 256 % 4) 3))
    (eqb_tells (v / 256 % 4) 3)

record SameParts (v w : ℕ) : Type 0 where
  high : v / 4096 ≡ w / 4096
  rest : v % 1024 ≡ w % 1024

same_parts : (v w : ℕ) → frozen_part v ≡ frozen_part w → SameParts v w
same_parts v w e = record { high = omega arith; rest = omega arith }

-- the bits told of xmax
sum_top : (A B D C N : ℕ) → B < 4 → D < 2 → C < 16 → N % 4096 ≤ 208 → N % 16 ≡ 0 → (A * 8192 + B * 256 + D * 32 + C + N) / 256 % 4 ≡ B
sum_top A B D C N b d c n m = omega arith

sum_low : (A B D C N : ℕ) → C < 16 → N % 16 ≡ 0 → (A * 8192 + B * 256 + D * 32 + C + N) % 16 ≡ C
sum_low A B D C N c m = omega arith

told_small : (a b c d : ℕ) → b < 2 → c < 2 → d < 2 → (a * 4096 + b * 128 + c * 64 + d * 16) % 4096 ≤ 208
told_small a b c d lb lc ld = omega arith

told_by16 : (a b c d : ℕ) → (a * 4096 + b * 128 + c * 64 + d * 16) % 16 ≡ 0
told_by16 a b c d = omega arith

told_keeps : (infobits : ℕ) → KeepsMask (told_infomask infobits)
told_keeps infobits = record {
  top = λ v. sum_top (bit 0x2000 v) (v / 256 % 4) (bit 0x20 v) (v % 16) (told_xmax_bits infobits) (omega arith) (omega arith) (omega arith) small by16;
  low = λ v. sum_low (bit 0x2000 v) (v / 256 % 4) (bit 0x20 v) (v % 16) (told_xmax_bits infobits) (omega arith) by16;
  shown = λ v w e.
      let s = same_parts v w e in
      let a : v / 8192 % 2 ≡ w / 8192 % 2 = omega (arith, s.high) in
      let b : v / 256 % 4 ≡ w / 256 % 4 = omega (arith, s.rest) in
      let c : v / 32 % 2 ≡ w / 32 % 2 = omega (arith, s.rest) in
      let d : v % 16 ≡ w % 16 = omega (arith, s.rest) in
      rw (a, b, c, d) refl;
}
  where
    small : told_xmax_bits infobits % 4096 ≤ 208
    small = told_small (bit 1 infobits) (bit 2 infobits) (bit 4 infobits) (bit 8 infobits) (omega arith) (omega arith) (omega arith)

    by16 : told_xmax_bits infobits % 16 ≡ 0
    by16 = told_by16 (bit 1 infobits) (bit 2 infobits) (bit 4 infobits) (bit 8 infobits)

pub told_determined : (infobits : ℕ) → Determined (told_infomask infobits)
told_determined infobits = determined (told_infomask infobits) (told_keeps infobits)

-- the combo bit
combo_high : (v : ℕ) → (v / 64 * 64 + v % 32) / 4096 ≡ v / 4096
combo_high v = omega arith

combo_rest : (v : ℕ) → (v / 64 * 64 + v % 32) % 1024 ≡ v % 1024 / 64 * 64 + v % 1024 % 32
combo_rest v = omega arith

combo_keeps : KeepsMask without_combo
combo_keeps = record {
  top = λ v. omega arith;
  low = λ v. omega arith;
  shown = λ v w e. let s = same_parts v w e in rw (combo_high v, combo_high w, combo_rest v, combo_rest w, s.high, s.rest) refl;
}

pub combo_determined : Determined without_combo
combo_determined = determined without_combo combo_keeps
