-- Sums of 32 bits as eight digits.
use Rattle.std.proofs.Common.{◌≡◌, ℕ, ◌<◌, ◌^◌, ◌==◌, true, false, cond, List, [], ◌∷◌, length, drop, None, Some, Result, refl, ap, sym, ◌∙◌, subst, arith, if◌then◌else◌}
use Rattle.std.proofs.lemmas.Bool.{and_parts}
use Rattle.std.proofs.lemmas.Bool.Decides.{nat_tests}
use Rattle.std.proofs.lemmas.Result.{Ok-from_Ok_iff}
use Rattle.std.proofs.lemmas.Str.{IsUtf8-from_ascii}
use Rattle.std.proofs.lemmas.Str.Ascii.{IsAscii-nil, IsAscii-cons}
use Rattle.std.specs.Result.{result_ok}
use Rattle.std.specs.List.{list_all}
use Rattle.std.specs.Str.{IsAscii, IsUtf8}
use Rattle.std.specs.Str.Parse.{ParsesUnsigned, AllDigits, digits_value, without_leading_plus}
use Rattle.wal_base.specs.Hex.{hex8, hex_digits, hex_value, is_upper_hex}
use Rattle.wal_base.proofs.HexDigits.{all_hex_from_upper, and_both, digits_from_hex, hex_digits-value, length-hex_digits, upper-hex_digits, value-hex_digits, value_below}
use Rattle.plan_text.specs.Words.{is_sum, sum_in}
use Rattle.mark_lines.proofs.DigitLemmas.{plain_by}
use Rattle.mark_lines.proofs.LineLemmas.{is_plain}
use Rattle.mark_lines.proofs.OptionLemmas.{if_some}

record IsSum (word : List ℕ) : Type 0 where
  upper : list_all is_upper_hex word ≡ true
  size : length word ≡ 8

sum_is : (word : List ℕ) → is_sum word ≡ true → IsSum word
sum_is word h = let e = and_parts (length word == 8) (list_all is_upper_hex word) h in record { upper = e.1; size = grind (arith, nat_tests, e.0) }

no_plus : (word : List ℕ) → list_all is_upper_hex word ≡ true → without_leading_plus word ≡ word
no_plus [] h = refl
no_plus (c ∷ cs) h =
    let first : is_upper_hex c ≡ true = (and_parts (is_upper_hex c) (list_all is_upper_hex cs) h).0 in
    let other : (c == 43) ≡ false = grind (arith, nat_tests) in
    ap (λ b. drop (cond b 1 0) (c ∷ cs)) other

-- the number that is read
pub sum_read : {E : Type 0} (word : List ℕ) (r : Result ℕ E) → is_sum word ≡ true → ParsesUnsigned 32 16 word r → result_ok r ≡ sum_in word
sum_read word r h parses =
    let n = sum_is word h in
    let bare = no_plus word n.upper in
    let digits = digits_from_hex word (all_hex_from_upper word n.upper) in
    let low = value_below word 8 digits (omega (arith, n.size)) in
    let some : 0 < length word = omega (arith, n.size) in
    let is = Ok-from_Ok_iff r _ _ parses (subst (λ (bs : List ℕ). ((0 < length bs) × AllDigits 16 bs) × (digits_value 16 bs < 2 ^ 32)) (sym bare) ((some, digits), omega (arith, low))) in
    ap result_ok is ∙ ap (λ (bs : List ℕ). Some (digits_value 16 bs)) bare ∙ sym (ap (λ b. if b then Some (hex_value word) else None) h)

upper_ascii : (word : List ℕ) → list_all is_upper_hex word ≡ true → IsAscii word
upper_ascii [] h = IsAscii-nil
upper_ascii (c ∷ cs) h =
    let e = and_parts (is_upper_hex c) (list_all is_upper_hex cs) h in
    let low : c < 128 = grind (arith, nat_tests, e.0) in
    IsAscii-cons c cs low (upper_ascii cs e.1)

-- such digits are a text
pub sum_is_text : (word : List ℕ) → is_sum word ≡ true → IsUtf8 word
sum_is_text word h = let n = sum_is word h in IsUtf8-from_ascii word (upper_ascii word n.upper)

-- a sum that was written is read
pub sum_back : (n : ℕ) → n < 2 ^ 32 → sum_in (hex8 n) ≡ Some n
sum_back n h =
    let size : (length (hex8 n) == 8) ≡ true = ap (λ k. k == 8) (length-hex_digits 8 n) in
    let is : is_sum (hex8 n) ≡ true = and_both (length (hex8 n) == 8) (list_all is_upper_hex (hex8 n)) size (upper-hex_digits 8 n) in
    ap (λ b. if b then Some (hex_value (hex8 n)) else None) is ∙ ap Some (value-hex_digits 8 n (omega (arith, h)))

-- and a sum that is read is written so
pub sum_known : (word : List ℕ) (n : ℕ) → sum_in word ≡ Some n → (n < 2 ^ 32) × (hex8 n ≡ word)
sum_known word n e =
    let f = if_some (is_sum word) (Some (hex_value word)) n e in
    let s = sum_is word f.0 in
    let value : hex_value word ≡ n = let g = f.1 in cc in
    let low = value_below word 8 (digits_from_hex word (all_hex_from_upper word s.upper)) (omega (arith, s.size)) in
    (omega (arith, low, value), ap (hex_digits 8) (sym value) ∙ ap (λ k. hex_digits k (hex_value word)) (sym s.size) ∙ hex_digits-value word s.upper)

-- its digits are plain
pub plain_sum : (n : ℕ) → list_all is_plain (hex8 n) ≡ true
plain_sum n = plain_by is_upper_hex (λ c e. grind (arith, nat_tests)) (hex8 n) (upper-hex_digits 8 n)
