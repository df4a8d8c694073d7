-- What `{:X}` and `{:08X}` write, and reading it back.
use Rattle.std.proofs.Common.{◌≡◌, ℕ, zero, suc, ◌+◌, ◌-◌, ◌/◌, ◌%◌, ◌^◌, ◌<◌, ◌≤◌, ◌==◌, Bool, true, false, cond, List, [], ◌∷◌, ◌++◌, Some, length, replicate, refl, sym, ap, ◌∙◌, arith, pow-suc, length-append, append_assoc, IfSome, Option, option_map}
use Rattle.std.proofs.lemmas.Bool.Decides.{nat_tests}
use Rattle.std.proofs.lemmas.Fmt.{digits_is_IsNumeral}
use Rattle.std.proofs.lemmas.List.{length-replicate, append-nil}
use Rattle.std.proofs.lemmas.List.Folds.{list_all-append}
use Rattle.std.proofs.lemmas.Nat.{mod_below}
use Rattle.std.specs.Char.{is_ascii_hexdigit}
use Rattle.std.specs.Fmt.{digits, digits_onto, digit_glyph, padded_integral, format_spec, char_count, ◌++?◌}
use Rattle.std.specs.List.{list_all}
use Rattle.std.specs.Str.Parse.{digits_value}
use Rattle.wal_base.specs.Hex.{hex_text, hex_digits, upper_hex, hex8, hex_word, is_hex_word, is_upper_hex}
use Rattle.wal_base.proofs.HexDigits.{and_both, upper_glyph, all_hex_from_upper, length-hex_digits, upper-hex_digits, value-hex_digits, hex_digits-value}

cond_upper : (b : Bool) (xs ys : List ℕ) → list_all is_upper_hex xs ≡ true → list_all is_upper_hex ys ≡ true → list_all is_upper_hex (cond b xs ys) ≡ true
cond_upper true xs ys h k = h
cond_upper false xs ys h k = k

onto_upper : (k n : ℕ) (acc : List ℕ) → list_all is_upper_hex acc ≡ true → list_all is_upper_hex (digits_onto k 16 true n acc) ≡ true
onto_upper zero n acc h = h
onto_upper (suc k) n acc h =
    let g : ℕ = digit_glyph true (n % 16) in
    let first : list_all is_upper_hex (g ∷ acc) ≡ true =
    and_both (is_upper_hex g) (list_all is_upper_hex acc) (upper_glyph (n % 16) (mod_below n 16 (omega arith))) h in
    cond_upper (n / 16 == 0) (g ∷ acc) (digits_onto k 16 true (n / 16) (g ∷ acc)) first (onto_upper k (n / 16) (g ∷ acc) first)

upper-hex_text : (n : ℕ) → list_all is_upper_hex (hex_text n) ≡ true
unfolding digits
upper-hex_text n = onto_upper 64 n [] refl

cond_short : (b : Bool) (xs ys : List ℕ) (m : ℕ) → length xs ≤ m → length ys ≤ m → length (cond b xs ys) ≤ m
cond_short true xs ys m h k = h
cond_short false xs ys m h k = k

one_digit : (b : Bool) (n : ℕ) (xs ys : List ℕ) (m : ℕ) → n < 16 → (n / 16 == 0) ≡ b → length xs ≤ m → length (cond b xs ys) ≤ m
one_digit true n xs ys m h e k = k
one_digit false n xs ys m h e k = grind (arith, nat_tests)

onto_short : (k w n : ℕ) (acc : List ℕ) → n < 16 ^ suc w → length (digits_onto k 16 true n acc) ≤ suc w + length acc
onto_short zero w n acc h = omega arith
onto_short (suc k) zero n acc h =
    let small : n < 16 = omega (arith, h) in
    one_digit (n / 16 == 0) n (digit_glyph true (n % 16) ∷ acc) (digits_onto k 16 true (n / 16) (digit_glyph true (n % 16) ∷ acc)) (1 + length acc) small refl (omega arith)
onto_short (suc k) (suc w) n acc h =
    let g : ℕ = digit_glyph true (n % 16) in
    let fewer : n / 16 < 16 ^ suc w = omega (arith, pow-suc 16 (suc w)) in
    let rest = onto_short k w (n / 16) (g ∷ acc) fewer in
    cond_short (n / 16 == 0) (g ∷ acc) (digits_onto k 16 true (n / 16) (g ∷ acc)) (suc (suc w) + length acc) (omega arith) (omega (arith, rest))

pub short_digits : (w n : ℕ) → 0 < w → n < 16 ^ w → length (hex_text n) ≤ w
unfolding digits
short_digits zero n some h = absurd (omega (arith, some))
short_digits (suc w) n some h = omega (arith, onto_short 64 w n [] h)

short-hex_text : (n : ℕ) → n < 2 ^ 32 → length (hex_text n) ≤ 8
short-hex_text n h = short_digits 8 n (omega arith) (omega (arith, h))

upper_zeros : (k : ℕ) → list_all is_upper_hex (replicate k 48) ≡ true
upper_zeros zero = refl
upper_zeros (suc k) = upper_zeros k

value_zeros : (k : ℕ) (text : List ℕ) → digits_value 16 (replicate k 48 ++ text) ≡ digits_value 16 text
value_zeros zero text = refl
value_zeros (suc k) text = value_zeros k text

numeral : (n : ℕ) → n < 2 ^ 64 → digits_value 16 (hex_text n) ≡ n
numeral n h = (digits_is_IsNumeral 16 true (omega arith) (omega arith) n (omega arith)).1

some_digit : (n : ℕ) → n < 2 ^ 32 → 0 < length (hex_text n)
some_digit n h = (digits_is_IsNumeral 16 true (omega arith) (omega arith) n (omega arith)).0.0

-- zeros before the digits make as many as are asked for
pub padded_digits : (w n : ℕ) → 0 < w → n < 16 ^ w → n < 2 ^ 64 → upper_hex w n ≡ hex_digits w n
padded_digits w n some h low =
    let zeros : List ℕ = replicate (w - length (hex_text n)) 48 in
    let short = short_digits w n some h in
    let size : length (zeros ++ hex_text n) ≡ w =
    length-append zeros (hex_text n) ∙ ap (λ k. k + length (hex_text n)) (length-replicate (w - length (hex_text n)) 48) ∙ omega (arith, short) in
    let upper : list_all is_upper_hex (zeros ++ hex_text n) ≡ true =
    list_all-append is_upper_hex zeros (hex_text n)
    ∙ and_both (list_all is_upper_hex zeros) (list_all is_upper_hex (hex_text n)) (upper_zeros (w - length (hex_text n))) (upper-hex_text n) in
    let value : digits_value 16 (zeros ++ hex_text n) ≡ n = value_zeros (w - length (hex_text n)) (hex_text n) ∙ numeral n low in
    sym (hex_digits-value (zeros ++ hex_text n) upper) ∙ ap (λ k. hex_digits k (digits_value 16 (zeros ++ hex_text n))) size ∙ ap (hex_digits w) value

pub padded-hex_text : (n : ℕ) → n < 2 ^ 32 → replicate (8 - length (hex_text n)) 48 ++ hex_text n ≡ hex8 n
padded-hex_text n h = padded_digits 8 n (omega arith) (omega (arith, h)) (omega (arith, h))

word_of : (text : List ℕ) → 0 < length text → length text ≤ 8 → list_all is_ascii_hexdigit text ≡ true → is_hex_word text ≡ true
word_of text some few hex = grind (arith, nat_tests)

read_word : (text : List ℕ) → is_hex_word text ≡ true → hex_word text ≡ Some (digits_value 16 text)
read_word text h = rw h refl

pub is_hex_word-hex_text : (n : ℕ) → n < 2 ^ 32 → is_hex_word (hex_text n) ≡ true
is_hex_word-hex_text n h = word_of (hex_text n) (some_digit n h) (short-hex_text n h) (all_hex_from_upper (hex_text n) (upper-hex_text n))

pub is_hex_word-hex8 : (n : ℕ) → is_hex_word (hex8 n) ≡ true
is_hex_word-hex8 n =
    let size = length-hex_digits 8 n in
    word_of (hex8 n) (omega (arith, size)) (omega (arith, size)) (all_hex_from_upper (hex8 n) (upper-hex_digits 8 n))

pub hex_word-hex_text : (n : ℕ) → n < 2 ^ 32 → hex_word (hex_text n) ≡ Some n
hex_word-hex_text n h = read_word (hex_text n) (is_hex_word-hex_text n h) ∙ ap Some (numeral n (omega (arith, h)))

pub hex_word-hex8 : (n : ℕ) → n < 2 ^ 32 → hex_word (hex8 n) ≡ Some n
hex_word-hex8 n h = read_word (hex8 n) (is_hex_word-hex8 n) ∙ ap Some (value-hex_digits 8 n h)

-- what `{:0width$X}` writes
upper_shown : (w n : ℕ) → padded_integral (format_spec 32 0 4 w (2 ^ 64 - 1)) false [] (hex_text n) ≡ upper_hex w n
unfolding padded_integral char_count
upper_shown w n =
    let zeros : w - length (hex_text n) - 0 - 0 ≡ w - length (hex_text n) = omega arith in
    ap (λ k. replicate k 48 ++ (hex_text n ++ [])) zeros
    ∙ ap (λ text. replicate (w - length (hex_text n)) 48 ++ text) (append-nil (hex_text n))

pub upper_hole : (o : Option (List ℕ)) (w n : ℕ) → o ≡ Some (hex_text n) → option_map (padded_integral (format_spec 32 0 4 w (2 ^ 64 - 1)) false []) o ≡ Some (upper_hex w n)
upper_hole o w n e = rw e (ap Some (upper_shown w n))

pub hex8_shown : (n : ℕ) → n < 2 ^ 32 → padded_integral (format_spec 32 0 4 8 (2 ^ 64 - 1)) false [] (hex_text n) ≡ hex8 n
hex8_shown n h = upper_shown 8 n ∙ padded-hex_text n h

-- a hole `{:08X}`
pub hex8_hole : (o : Option (List ℕ)) (n : ℕ) → o ≡ Some (hex_text n) → n < 2 ^ 32 → option_map (padded_integral (format_spec 32 0 4 8 (2 ^ 64 - 1)) false []) o ≡ Some (hex8 n)
hex8_hole o n e h = rw e (ap Some (hex8_shown n h))

-- texts put together of holes

pub two_holes : (o p : Option (List ℕ)) (x y text : List ℕ) → o ≡ Some x → p ≡ Some y → IfSome (o ++? (Some (47 ∷ []) ++? p)) (λ bs. text ≡ bs)
    → text ≡ x ++ 47 ∷ y
two_holes o p x y text e f h = rw (e, f) at h

pub three_holes : (o p q : Option (List ℕ)) (x y z text : List ℕ) → o ≡ Some x → p ≡ Some y → q ≡ Some z → IfSome (o ++? (p ++? q)) (λ bs. text ≡ bs)
    → text ≡ x ++ y ++ z
three_holes o p q x y z text e f g h = (rw (e, f, g) at h) ∙ sym (append_assoc x y z)
