-- The digits of a number in base 16: those of all but the last, and the last one.
use Rattle.std.proofs.Common.{◌≡◌, ◌∙◌, ℕ, zero, suc, ◌+◌, ◌/◌, ◌%◌, ◌^◌, ◌<◌, ◌≤◌, ◌==◌, Bool, true, false, cond, List, [], ◌∷◌, ◌++◌, length, refl, sym, ap, arith, pow-suc, append_assoc, length-append}
use Rattle.std.proofs.lemmas.Bool.Decides.{nat_tests}
use Rattle.std.specs.Fmt.{digits, digits_onto, digit_glyph}
use Rattle.wal_base.specs.Hex.{hex_text}
use Rattle.wal_base.proofs.GlyphLemmas.{digit_is}
use Rattle.wal_base.proofs.HexText.{short_digits}

abbrev spell : ℕ → ℕ → List ℕ → List ℕ
spell k n acc = digits_onto k 16 true n acc

abbrev glyph : ℕ → ℕ
glyph n = digit_glyph true (n % 16)

is_last : (n : ℕ) → n < 16 → (n / 16 == 0) ≡ true
is_last n h = by (n / 16 == 0) refl
  where
    by : (b : Bool) → (n / 16 == 0) ≡ b → b ≡ true
    by true e = refl
    by false e = grind (arith, nat_tests)

goes_on : (n : ℕ) → 16 ≤ n → (n / 16 == 0) ≡ false
goes_on n h = by (n / 16 == 0) refl
  where
    by : (b : Bool) → (n / 16 == 0) ≡ b → b ≡ false
    by true e = grind (arith, nat_tests)
    by false e = refl

spell_last : (k n : ℕ) (acc : List ℕ) → n < 16 → spell (suc k) n acc ≡ glyph n ∷ acc
spell_last k n acc h = ap (λ t. cond t (glyph n ∷ acc) (spell k (n / 16) (glyph n ∷ acc))) (is_last n h)

spell_next : (k n : ℕ) (acc : List ℕ) → 16 ≤ n → spell (suc k) n acc ≡ spell k (n / 16) (glyph n ∷ acc)
spell_next k n acc h = ap (λ t. cond t (glyph n ∷ acc) (spell k (n / 16) (glyph n ∷ acc))) (goes_on n h)

spell-append : (k n : ℕ) (acc : List ℕ) → spell k n acc ≡ spell k n [] ++ acc
spell-append zero n acc = refl
spell-append (suc k) n acc = by (n / 16 == 0) (spell-append k (n / 16) (glyph n ∷ acc)) (spell-append k (n / 16) (glyph n ∷ []))
  where
    by : (b : Bool) → spell k (n / 16) (glyph n ∷ acc) ≡ spell k (n / 16) [] ++ (glyph n ∷ acc) → spell k (n / 16) (glyph n ∷ []) ≡ spell k (n / 16) [] ++ (glyph n ∷ [])
        → cond b (glyph n ∷ acc) (spell k (n / 16) (glyph n ∷ acc)) ≡ cond b (glyph n ∷ []) (spell k (n / 16) (glyph n ∷ [])) ++ acc
    by true p q = refl
    by false p q = p ∙ sym (append_assoc (spell k (n / 16) []) (glyph n ∷ []) acc) ∙ ap (λ x. x ++ acc) (sym q)

-- the limit of digits does not matter once it is large enough
spell_enough : (j k n : ℕ) (acc : List ℕ) → n < 16 ^ suc j → n < 16 ^ suc k → spell (suc j) n acc ≡ spell (suc k) n acc
spell_enough zero k n acc p q = spell_last zero n acc (omega (arith, p)) ∙ sym (spell_last k n acc (omega (arith, p)))
spell_enough (suc j) zero n acc p q = spell_last (suc j) n acc (omega (arith, q)) ∙ sym (spell_last zero n acc (omega (arith, q)))
spell_enough (suc j) (suc k) n acc p q =
    by (n / 16 == 0) (spell_enough j k (n / 16) (glyph n ∷ acc) (omega (arith, pow-suc 16 (suc j), p)) (omega (arith, pow-suc 16 (suc k), q)))
  where
    by : (b : Bool) → spell (suc j) (n / 16) (glyph n ∷ acc) ≡ spell (suc k) (n / 16) (glyph n ∷ acc)
        → cond b (glyph n ∷ acc) (spell (suc j) (n / 16) (glyph n ∷ acc)) ≡ cond b (glyph n ∷ acc) (spell (suc k) (n / 16) (glyph n ∷ acc))
    by true h = refl
    by false h = h

pub hex_step : (n : ℕ) → 16 ≤ n → n < 2 ^ 32 → hex_text (n / 16) ++ hex_text (n % 16) ≡ hex_text n
unfolding digits
hex_step n h small =
    sym (spell_next 63 n [] h ∙ spell_enough 62 63 (n / 16) (glyph n ∷ []) (omega arith) (omega arith) ∙ spell-append 64 (n / 16) (glyph n ∷ [])
    ∙ ap (λ x. hex_text (n / 16) ++ x) (digit_is (n % 16) (glyph n) (omega arith) refl))

pub hex_short : (n : ℕ) → n < 2 ^ 32 → length (hex_text n) ≤ 8
hex_short n h = short_digits 8 n (omega arith) (omega (arith, h))

pub hex_length : (n : ℕ) → 16 ≤ n → n < 2 ^ 32 → length (hex_text n) ≡ length (hex_text (n / 16)) + length (hex_text (n % 16))
hex_length n h small = ap length (sym (hex_step n h small)) ∙ length-append (hex_text (n / 16)) (hex_text (n % 16))

pub ruleset hex_steps = (hex_step, hex_length)

pub ruleset short_steps = (hex_short)
