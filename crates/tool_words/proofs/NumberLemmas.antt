-- Numbers by their digits.
use Rattle.std.proofs.Common.{◌≡◌, ◌≢◌, ℕ, ◌<◌, ◌≤◌, ◌^◌, true, false, ◌&&◌, cond, ltb, nat_lt, length, List, [], ◌∷◌, get_or, Some, None, Result, Ok, Err, refl, subst, arith}
use Rattle.std.proofs.lemmas.Bool.Decides.{nat_tests}
use Rattle.std.proofs.lemmas.Str.{IsUtf8-from_ascii}
use Rattle.std.proofs.lemmas.Str.Ascii.{IsAscii-nil, IsAscii-cons}
use Rattle.std.proofs.lemmas.Str.Parse.{without_leading_plus_none}
use Rattle.std.specs.Char.{digit_value, is_digit}
use Rattle.std.specs.List.{list_all}
use Rattle.std.specs.Result.{OkIff, result_ok}
use Rattle.std.specs.Str.{IsAscii, IsUtf8}
use Rattle.std.specs.Str.Parse.{AllDigits, IsNumeral, ParsesUnsigned, digits_value, without_leading_plus}
use Rattle.wal_base.proofs.HexDigits.{and_parts}
use Rattle.tool_words.specs.Numbers.{is_numeral, numeral}

digit_below : (radix c : ℕ) → is_digit c radix ≡ true → digit_value c < radix
digit_below radix c h = grind (arith, nat_tests)

digit_ascii : (radix c : ℕ) → radix ≤ 16 → is_digit c radix ≡ true → c < 128
digit_ascii radix c small h = let below = digit_below radix c h in grind (arith, nat_tests)

-- each of the digits is one
are_digits : (radix : ℕ) (text : List ℕ) → list_all (λ c. is_digit c radix) text ≡ true → AllDigits radix text
are_digits radix [] h = tt
are_digits radix (c ∷ cs) h =
    let e = and_parts (is_digit c radix) (list_all (λ c. is_digit c radix) cs) h in
    (digit_below radix c e.0, are_digits radix cs e.1)

digits_ascii : (radix : ℕ) (text : List ℕ) → radix ≤ 16 → list_all (λ c. is_digit c radix) text ≡ true → IsAscii text
digits_ascii radix [] small h = IsAscii-nil
digits_ascii radix (c ∷ cs) small h =
    let e = and_parts (is_digit c radix) (list_all (λ c. is_digit c radix) cs) h in
    IsAscii-cons c cs (digit_ascii radix c small e.0) (digits_ascii radix cs small e.1)

-- at least one digit
numeral-parts : (radix : ℕ) (text : List ℕ) → is_numeral radix text ≡ true → (0 < length text) × (list_all (λ c. is_digit c radix) text ≡ true)
numeral-parts radix text h = grind (arith, nat_tests)

pub numeral-text : (radix : ℕ) (text : List ℕ) → radix ≤ 16 → is_numeral radix text ≡ true → IsUtf8 text
numeral-text radix text small h = IsUtf8-from_ascii text (digits_ascii radix text small (numeral-parts radix text h).1)

-- and no plus stands first
no_plus : (radix : ℕ) (text : List ℕ) → radix ≤ 16 → list_all (λ c. is_digit c radix) text ≡ true → get_or text 0 0 ≢ 43
no_plus radix [] small h is = absurd cc
no_plus radix (c ∷ cs) small h is =
    let e = and_parts (is_digit c radix) (list_all (λ c. is_digit c radix) cs) h in
    let below = digit_below radix c e.0 in
    absurd (grind (arith, nat_tests))

-- what is read of digits is their number
pub numeral-read : {E : Type 0} (radix : ℕ) (text : List ℕ) (r : Result ℕ E) → radix ≤ 16 → is_numeral radix text ≡ true → ParsesUnsigned 32 radix text r → result_ok r ≡ numeral radix text
unfolding numeral
numeral-read {E} radix text r small h parses = by r (subst (λ ds. OkIff r (IsNumeral radix ds × (digits_value radix ds < 2 ^ 32)) (digits_value radix ds)) plain parses)
  where
    parts : (0 < length text) × (list_all (λ c. is_digit c radix) text ≡ true)
    parts = numeral-parts radix text h

    plain : without_leading_plus text ≡ text
    plain = without_leading_plus_none text (no_plus radix text small parts.1)

    by : (r : Result ℕ E) → OkIff r (IsNumeral radix text × (digits_value radix text < 2 ^ 32)) (digits_value radix text) → result_ok r ≡ cond (is_numeral radix text && nat_lt (digits_value radix text) (2 ^ 32)) (Some (digits_value radix text)) None
    by (Ok n) is = rw (h, is.1) (below (digits_value radix text) (2 ^ 32) is.0.1)
      where
        below : (n m : ℕ) → n < m → Some n ≡ cond (ltb n m) (Some n) None
        below n m l = grind (arith, nat_tests)
    by (Err e) is = rw h (above (digits_value radix text) (2 ^ 32) (λ l. is ((parts.0, are_digits radix text parts.1), l)))
      where
        above : (n m : ℕ) → (n < m → ⊥) → None ≡ cond (ltb n m) (Some n) None
        above n m l = grind (arith, nat_tests)

pub no_numeral : (radix : ℕ) (text : List ℕ) → is_numeral radix text ≡ false → None ≡ numeral radix text
unfolding numeral
no_numeral radix text h = rw h refl
