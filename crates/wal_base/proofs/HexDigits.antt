-- Hexadecimal digits, and numbers as so many of them.
use Rattle.std.proofs.Common.{◌≡◌, ℕ, zero, suc, ◌+◌, ◌*◌, ◌/◌, ◌%◌, ◌^◌, ◌<◌, ◌≤◌, Bool, true, false, ◌&&◌, List, [], ◌∷◌, length, refl, sym, ap, ◌∙◌, arith, pow-suc}
use Rattle.std.proofs.lemmas.Bool.Decides.{nat_tests}
use Rattle.std.proofs.lemmas.Int.Digits.{digits_value-lt}
use Rattle.std.proofs.lemmas.Nat.{div-mul-add, mod-mul-add, mod_below, div-add-mod', mul-add-lt}
use Rattle.std.proofs.Math.Nat.{one-le-pow, pow-le-pow_right, mod-eq_of_lt}
use Rattle.std.specs.Char.{is_ascii_hexdigit, digit_value}
use Rattle.std.specs.Fmt.{digit_glyph}
use Rattle.std.specs.List.{list_all}
use Rattle.std.specs.Str.Parse.{AllDigits, digits_value, digits_value_after}
use Rattle.wal_base.specs.Hex.{hex_digits, is_upper_hex}

pub digit_value_hex : (c : ℕ) → is_ascii_hexdigit c ≡ true → digit_value c < 16
digit_value_hex c h = grind (arith, nat_tests)

hex_from_value : (c : ℕ) → digit_value c < 16 → is_ascii_hexdigit c ≡ true
hex_from_value c h = grind (arith, nat_tests)

pub hex_from_upper : (c : ℕ) → is_upper_hex c ≡ true → is_ascii_hexdigit c ≡ true
hex_from_upper c h = grind (arith, nat_tests)

pub upper_glyph : (d : ℕ) → d < 16 → is_upper_hex (digit_glyph true d) ≡ true
upper_glyph d h = grind (arith, nat_tests)

value_glyph : (d : ℕ) → d < 16 → digit_value (digit_glyph true d) ≡ d
value_glyph d h = grind (arith, nat_tests)

glyph_value : (c : ℕ) → is_upper_hex c ≡ true → digit_glyph true (digit_value c) ≡ c
glyph_value c h = grind (arith, nat_tests)

-- tests of all digits

pub and_parts : (a b : Bool) → (a && b) ≡ true → (a ≡ true) × (b ≡ true)
and_parts true b h = (refl, h)
and_parts false b h = absurd cc

pub and_both : (a b : Bool) → a ≡ true → b ≡ true → (a && b) ≡ true
and_both true b h k = k
and_both false b h k = h

pub digits_from_hex : (text : List ℕ) → list_all is_ascii_hexdigit text ≡ true → AllDigits 16 text
digits_from_hex [] h = tt
digits_from_hex (c ∷ cs) h =
    let e = and_parts (is_ascii_hexdigit c) (list_all is_ascii_hexdigit cs) h in
    (digit_value_hex c e.0, digits_from_hex cs e.1)

pub hex_from_digits : (text : List ℕ) → AllDigits 16 text → list_all is_ascii_hexdigit text ≡ true
hex_from_digits [] h = refl
hex_from_digits (c ∷ cs) h = and_both (is_ascii_hexdigit c) (list_all is_ascii_hexdigit cs) (hex_from_value c h.0) (hex_from_digits cs h.1)

pub all_hex_from_upper : (text : List ℕ) → list_all is_upper_hex text ≡ true → list_all is_ascii_hexdigit text ≡ true
all_hex_from_upper [] h = refl
all_hex_from_upper (c ∷ cs) h =
    let e = and_parts (is_upper_hex c) (list_all is_upper_hex cs) h in
    and_both (is_ascii_hexdigit c) (list_all is_ascii_hexdigit cs) (hex_from_upper c e.0) (all_hex_from_upper cs e.1)

-- the value of digits

spread : (n d p : ℕ) → (n * 16 + d) * p ≡ n * (p * 16) + d * p
spread n d p = omega arith

value_after_is : (text : List ℕ) (n : ℕ) → digits_value_after 16 n text ≡ n * 16 ^ length text + digits_value 16 text
value_after_is [] n = omega arith
value_after_is (c ∷ cs) n =
    let w : ℕ = length cs in
    let d : ℕ = digit_value c in
    let here = value_after_is cs (n * 16 + d) in
    let zeros = value_after_is cs (0 * 16 + d) in
    omega (arith, here, zeros, spread n d (16 ^ w), spread 0 d (16 ^ w), ap (λ x. n * x) (pow-suc 16 w))

-- digits short enough write a small number
pub value_below : (text : List ℕ) (k : ℕ) → AllDigits 16 text → length text ≤ k → digits_value 16 text < 16 ^ k
value_below text k h short =
    let own = digits_value-lt 16 text h in
    let more : 16 ^ length text ≤ 16 ^ k = pow-le-pow_right (omega arith) short in
    omega arith

value_front : (text : List ℕ) (n : ℕ) → AllDigits 16 text → digits_value_after 16 n text / 16 ^ length text ≡ n
value_front text n h =
    ap (λ v. v / 16 ^ length text) (value_after_is text n)
    ∙ div-mul-add n (16 ^ length text) (digits_value 16 text) (digits_value-lt 16 text h)

-- a number as so many digits

pub length-hex_digits : (w n : ℕ) → length (hex_digits w n) ≡ w
unfolding hex_digits
length-hex_digits zero n = refl
length-hex_digits (suc w) n = ap suc (length-hex_digits w n)

pub upper-hex_digits : (w n : ℕ) → list_all is_upper_hex (hex_digits w n) ≡ true
unfolding hex_digits
upper-hex_digits zero n = refl
upper-hex_digits (suc w) n =
    and_both (is_upper_hex (digit_glyph true (n / 16 ^ w % 16))) (list_all is_upper_hex (hex_digits w n))
    (upper_glyph (n / 16 ^ w % 16) (mod_below (n / 16 ^ w) 16 (omega arith))) (upper-hex_digits w n)

mod_split : (p n : ℕ) → 0 < p → n % (p * 16) ≡ n / p % 16 * p + n % p
mod_split p n some =
    let q : ℕ = n / p in
    let d : ℕ = q % 16 in
    let r : ℕ = n % p in
    let small : d * p + r < p * 16 = mul-add-lt d p r 16 (mod_below q 16 (omega arith)) (mod_below n p some) in
    let upper : q / 16 * 16 + d ≡ q = div-add-mod' q 16 in
    let lower : q * p + r ≡ n = div-add-mod' n p in
    let whole : q / 16 * (p * 16) + (d * p + r) ≡ n = omega (arith, ap (λ x. x * p) upper, lower) in
    ap (λ x. x % (p * 16)) (sym whole) ∙ mod-mul-add (q / 16) (p * 16) (d * p + r) small

value_after-hex_digits : (w n a : ℕ) → digits_value_after 16 a (hex_digits w n) ≡ a * 16 ^ w + n % 16 ^ w
unfolding hex_digits
value_after-hex_digits zero n a = omega arith
value_after-hex_digits (suc w) n a =
    let p : ℕ = 16 ^ w in
    let d : ℕ = n / p % 16 in
    let split : n % (p * 16) ≡ d * p + n % p = mod_split p n (one-le-pow w 16 (omega arith)) in
    let whole : n % 16 ^ suc w ≡ d * p + n % p = ap (λ x. n % x) (pow-suc 16 w) ∙ split in
    ap (λ v. digits_value_after 16 (a * 16 + v) (hex_digits w n)) (value_glyph d (mod_below (n / p) 16 (omega arith)))
    ∙ value_after-hex_digits w n (a * 16 + d)
    ∙ omega (arith, whole, spread a d p, ap (λ x. a * x) (pow-suc 16 w))

pub value-hex_digits : (w n : ℕ) → n < 16 ^ w → digits_value 16 (hex_digits w n) ≡ n
value-hex_digits w n h = value_after-hex_digits w n 0 ∙ omega (arith, mod-eq_of_lt h)

-- and back
hex_digits_after : (text : List ℕ) (a : ℕ) → list_all is_upper_hex text ≡ true → hex_digits (length text) (digits_value_after 16 a text) ≡ text
unfolding hex_digits
hex_digits_after [] a h = refl
hex_digits_after (c ∷ cs) a h =
    let e = and_parts (is_upper_hex c) (list_all is_upper_hex cs) h in
    let d : ℕ = digit_value c in
    let n : ℕ = a * 16 + d in
    let digits : AllDigits 16 cs = digits_from_hex cs (all_hex_from_upper cs e.1) in
    let low : d < 16 = digit_value_hex c (hex_from_upper c e.0) in
    let first : digit_glyph true (digits_value_after 16 n cs / 16 ^ length cs % 16) ≡ c =
    ap (λ x. digit_glyph true (x % 16)) (value_front cs n digits)
    ∙ ap (digit_glyph true) (mod-mul-add a 16 d low) ∙ glyph_value c e.0 in
    let rest : hex_digits (length cs) (digits_value_after 16 n cs) ≡ cs = hex_digits_after cs n e.1 in
    cc

pub hex_digits-value : (text : List ℕ) → list_all is_upper_hex text ≡ true → hex_digits (length text) (digits_value 16 text) ≡ text
hex_digits-value text h = hex_digits_after text 0 h
