-- Hexadecimal digits as code writes them.
use Rattle.std.proofs.Common.{◌≡◌, ℕ, ◌<◌, ◌/◌, ◌%◌, ◌^◌, true, [], ◌∷◌, ◌++◌, refl, ap, sym, arith}
use Rattle.std.specs.Fmt.{digits, digit_glyph}
use Rattle.wal_base.specs.Hex.{hex_text, hex_digits, hex2}

-- the digit of a number below 16
pub digit_is : (n digit : ℕ) → n < 16 → digit_glyph true n ≡ digit → digit ∷ [] ≡ hex_text n
unfolding digits
digit_is n digit few is =
    let none : n / 16 ≡ 0 = omega (arith, few) in
    let same : n % 16 ≡ n = omega (arith, few) in
    rw (none, same) (ap (λ g. g ∷ []) (sym is))

high_digit : (n : ℕ) → n < 256 → digit_glyph true (n / 16 % 16) ∷ [] ≡ hex_text (n / 16)
high_digit n h =
    let same : n / 16 % 16 ≡ n / 16 = omega (arith, h) in
    digit_is (n / 16) (digit_glyph true (n / 16 % 16)) (omega (arith, h)) (ap (digit_glyph true) (sym same))

low_digit : (n : ℕ) → digit_glyph true (n % 16) ∷ [] ≡ hex_text (n % 16)
low_digit n = digit_is (n % 16) (digit_glyph true (n % 16)) (omega arith) refl

-- the two digits of a byte
pub two_digits : (n : ℕ) → n < 256 → hex_text (n / 16) ++ hex_text (n % 16) ≡ hex2 n
unfolding hex_digits
two_digits n h =
    let all : n / 16 ^ 0 % 16 ≡ n % 16 = omega arith in
    let high = high_digit n h in
    let low = low_digit n in
    rw (sym high, sym low, all) refl

pub ruleset digit_steps = (digit_is, two_digits)
