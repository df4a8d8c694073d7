-- Decimal numbers, as `parse` reads them and as `{}` writes them.
use Rattle.std.proofs.Common.{◌≡◌, ℕ, ◌<◌, ◌≤◌, ◌^◌, Bool, true, false, cond, ltb, ◌&&◌, nat_lt, decimal, List, [], ◌∷◌, get_or, Some, None, Result, Ok, Err, length, refl, sym, subst, ap, ◌∙◌, inl, inr, arith, rules}
use Rattle.std.proofs.lemmas.Bool.{cases_lt}
use Rattle.std.proofs.lemmas.Bool.Decides.{nat_tests}
use Rattle.std.proofs.lemmas.Fmt.{decimal-digits_value, decimal_nonempty, digits_decimal, digits_value-decimal, first_decimal, decimal_digit}
use Rattle.std.proofs.lemmas.Str.{IsUtf8-from_ascii}
use Rattle.std.proofs.lemmas.Str.Ascii.{IsAscii-nil, IsAscii-cons}
use Rattle.std.proofs.lemmas.Str.Parse.{IsNumeralModel, numerals_by_value, parse_digits}
use Rattle.std.specs.Char.{is_ascii_digit}
use Rattle.std.specs.List.{list_all}
use Rattle.std.specs.Result.{OkIff, result_ok}
use Rattle.std.specs.Str.{IsAscii, IsUtf8}
use Rattle.std.specs.Str.Parse.{ParsesUnsigned, digits_value}
use Rattle.wal_base.specs.Decimal.{decimal_number, has_leading_zero, is_decimal}
use Rattle.wal_base.proofs.HexDigits.{and_parts}

digits : IsNumeralModel (λ text. list_all is_ascii_digit text ≡ true) (digits_value 10)
digits = numerals_by_value (λ text. list_all is_ascii_digit text ≡ true) (search rules)

pub all_digits : (text : List ℕ) → is_decimal text ≡ true → (0 < length text) × (list_all is_ascii_digit text ≡ true)
all_digits text h = grind (arith, nat_tests)

ascii_digit : (c : ℕ) → is_ascii_digit c ≡ true → c < 128
ascii_digit c h = grind (arith, nat_tests)

ascii_digits : (text : List ℕ) → list_all is_ascii_digit text ≡ true → IsAscii text
ascii_digits [] h = IsAscii-nil
ascii_digits (c ∷ cs) h =
    let e = and_parts (is_ascii_digit c) (list_all is_ascii_digit cs) h in
    IsAscii-cons c cs (ascii_digit c e.0) (ascii_digits cs e.1)

pub decimal_is_text : (text : List ℕ) → is_decimal text ≡ true → IsUtf8 text
decimal_is_text text h = IsUtf8-from_ascii text (ascii_digits text (all_digits text h).1)

-- ---- what `parse` reads

pub number_parsed : {E : Type 0} (k : ℕ) (text : List ℕ) (r : Result ℕ E) → is_decimal text ≡ true → ParsesUnsigned k 10 text r → result_ok r ≡ decimal_number (2 ^ k) text
unfolding decimal_number
number_parsed {E} k text r h parses = by r (parse_digits digits k text r parses (all_digits text h).1)
  where
    by : (r : Result ℕ E) → OkIff r ((0 < length text) × (digits_value 10 text < 2 ^ k)) (digits_value 10 text) → result_ok r ≡ decimal_number (2 ^ k) text
    by (Ok n) is = rw (h, is.1) (below (digits_value 10 text) (2 ^ k) is.0.1)
      where
        below : (n m : ℕ) → n < m → Some n ≡ cond (ltb n m) (Some n) None
        below n m l = grind (arith, nat_tests)
    by (Err e) is = rw h (above (digits_value 10 text) (2 ^ k) (λ l. is ((all_digits text h).0, l)))
      where
        above : (n m : ℕ) → (n < m → ⊥) → None ≡ cond (ltb n m) (Some n) None
        above n m l = grind (arith, nat_tests)

pub no_decimal : (limit : ℕ) (text : List ℕ) → is_decimal text ≡ false → None ≡ decimal_number limit text
unfolding decimal_number
no_decimal limit text h = rw h refl

-- ---- what a number is read from

module _ (limit n : ℕ) (text : List ℕ) where
  parts : decimal_number limit text ≡ Some n → (is_decimal text ≡ true) × (n < limit) × (digits_value 10 text ≡ n)
  unfolding decimal_number
  parts h = by (is_decimal text) (nat_lt (digits_value 10 text) limit) refl refl h
    where
      by : (b c : Bool) → is_decimal text ≡ b → nat_lt (digits_value 10 text) limit ≡ c → cond (b && c) (Some (digits_value 10 text)) None ≡ Some n
          → (is_decimal text ≡ true) × (n < limit) × (digits_value 10 text ≡ n)
      by true true e f h =
          let is : digits_value 10 text ≡ n = cc in
          let below : digits_value 10 text < limit = grind (arith, nat_tests) in
          (e, subst (λ m. m < limit) is below, is)
      by true false e f h = absurd cc
      by false c e f h = absurd cc

  pub digits_read : decimal_number limit text ≡ Some n → (0 < length text) × (list_all is_ascii_digit text ≡ true)
  digits_read h = all_digits text (parts h).0

  no_zero : is_decimal text ≡ true → get_or text 0 0 ≡ 48 → length text ≡ 1
  no_zero h z = grind (arith, nat_tests)

  pub decimal_read : limit ≤ 2 ^ 64 → decimal_number limit text ≡ Some n → (n < limit) × (text ≡ decimal n)
  decimal_read few h =
      let p = parts h in
      let q = all_digits text p.0 in
      (p.1, sym (decimal-digits_value digits text q.1 q.0 (no_zero p.0) (omega (arith, p.1, p.2))) ∙ ap decimal p.2)

-- ---- what it writes is read again

not_zero : (text : List ℕ) → 48 < get_or text 0 0 → has_leading_zero text ≡ false
not_zero text h = grind (arith, nat_tests)

not_led : (n : ℕ) → n < 2 ^ 64 → has_leading_zero (decimal n) ≡ false
not_led n h = elim (cases_lt 0 n) [
  | inl some ↦ not_zero (decimal n) (first_decimal n some h)
  | inr none ↦ let zero : n ≡ 0 = omega arith in rw (zero, decimal_digit 0 (omega arith)) refl
]

is_decimal_of : (text : List ℕ) → 0 < length text → list_all is_ascii_digit text ≡ true → has_leading_zero text ≡ false → is_decimal text ≡ true
is_decimal_of text some all clean = rw (all, clean) (grind (arith, nat_tests))

below : (n limit : ℕ) → n < limit → nat_lt n limit ≡ true
below n limit h = grind (arith, nat_tests)

written : (limit n : ℕ) → limit ≤ 2 ^ 64 → n < limit → decimal_number limit (decimal n) ≡ Some n
unfolding decimal_number
written limit n few h =
    let small : n < 2 ^ 64 = omega arith in
    let is : is_decimal (decimal n) ≡ true = is_decimal_of (decimal n) (decimal_nonempty n small) (digits_decimal digits n small) (not_led n small) in
    let value : digits_value 10 (decimal n) ≡ n = digits_value-decimal digits n small in
    rw (is, value, below n limit h) refl

pub decimal_written : (limit n : ℕ) (text : List ℕ) → limit ≤ 2 ^ 64 → n < limit → text ≡ decimal n → decimal_number limit text ≡ Some n
decimal_written limit n text few h e = ap (decimal_number limit) e ∙ written limit n few h
