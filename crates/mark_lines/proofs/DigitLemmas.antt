-- Words of digits: they are plain, and read again.
use Rattle.std.proofs.Common.{◌≡◌, ℕ, suc, ◌<◌, ◌≤◌, ◌/◌, ◌%◌, ◌^◌, Bool, true, List, [], ◌∷◌, decimal, slice_index, None, Some, refl, ap, ◌∙◌, arith, if◌then◌else◌}
use Rattle.std.proofs.lemmas.Bool.Decides.{nat_tests}
use Rattle.std.proofs.lemmas.Bool.{and_parts}
use Rattle.std.proofs.lemmas.Fmt.{decimal_is_IsNumeral}
use Rattle.std.proofs.lemmas.Str.{IsUtf8-from_is_utf8}
use Rattle.std.specs.Char.{is_ascii_hexdigit}
use Rattle.std.specs.List.{list_all}
use Rattle.std.specs.Str.{is_utf8}
use Rattle.std.specs.Str.Parse.{AllDigits}
use Rattle.hex.specs.Hex.{IsBytes, decode_of, encode_lower, encode_with, lower_digits}
use Rattle.hex.proofs.HexLemmas.{decode_of-encode_lower}
use Rattle.wal_base.specs.Decimal.{decimal_number}
use Rattle.wal_base.proofs.DecimalLemmas.{decimal_written}
use Rattle.wal_base.proofs.HexDigits.{and_both, hex_from_digits}
use Rattle.wal_base.proofs.HexLoop.{all_at}
use Rattle.cluster_tree.specs.PathValue.{PathValue}
use Rattle.mark_lines.specs.Words.{bytes_in, is_lower, ok_of, size_in}
use Rattle.mark_lines.specs.Paths.{path_word, way_of}
use Rattle.mark_lines.proofs.LineLemmas.{is_plain}
use Rattle.mark_lines.proofs.Utf8Lemmas.{utf8_bytes}

pub plain_by : (p : ℕ → Bool) → ((c : ℕ) → p c ≡ true → is_plain c ≡ true) → (xs : List ℕ) → list_all p xs ≡ true → list_all is_plain xs ≡ true
plain_by p h [] e = refl
plain_by p h (x ∷ xs) e =
    let f = and_parts (p x) (list_all p xs) e in
    and_both (is_plain x) (list_all is_plain xs) (h x f.0) (plain_by p h xs f.1)

-- bytes in digits of lower case
lower_word : (bytes : List ℕ) → IsBytes bytes → list_all is_lower (encode_lower bytes) ≡ true
unfolding encode_with
lower_word [] h = refl
lower_word (b ∷ bytes) h =
    let small = h 0 in
    let high : b / 16 < 16 = omega (arith, small) in
    let low : b % 16 < 16 = omega arith in
    and_both (is_lower (slice_index lower_digits (b / 16))) _ (all_at is_lower lower_digits (b / 16) refl high)
    (and_both (is_lower (slice_index lower_digits (b % 16))) (list_all is_lower (encode_lower bytes)) (all_at is_lower lower_digits (b % 16) refl low)
    (lower_word bytes (λ i. h (suc i))))

pub plain_bytes : (bytes : List ℕ) → IsBytes bytes → list_all is_plain (encode_lower bytes) ≡ true
plain_bytes bytes h = plain_by is_lower (λ c e. grind (arith, nat_tests)) (encode_lower bytes) (lower_word bytes h)

pub bytes_back : (bytes : List ℕ) → IsBytes bytes → bytes_in (encode_lower bytes) ≡ Some bytes
bytes_back bytes h = ap (λ b. if b then ok_of (decode_of (encode_lower bytes)) else None) (lower_word bytes h) ∙ ap ok_of (decode_of-encode_lower bytes h)

-- numbers
pub hex_plain : (xs : List ℕ) → list_all is_ascii_hexdigit xs ≡ true → list_all is_plain xs ≡ true
hex_plain xs h = plain_by is_ascii_hexdigit (λ c e. grind (arith, nat_tests)) xs h

more_digits : (xs : List ℕ) → AllDigits 10 xs → AllDigits 16 xs
more_digits [] h = tt
more_digits (x ∷ xs) h = (omega (arith, h.0), more_digits xs h.1)

pub plain_decimal : (n : ℕ) → n < 2 ^ 64 → list_all is_plain (decimal n) ≡ true
plain_decimal n h = hex_plain (decimal n) (hex_from_digits (decimal n) (more_digits (decimal n) (decimal_is_IsNumeral n h).0.1))

pub decimal_back : (limit n : ℕ) → limit ≤ 2 ^ 64 → n < limit → decimal_number limit (decimal n) ≡ Some n
decimal_back limit n low h = decimal_written limit n (decimal n) low h refl

pub size_back : (n : ℕ) → n < 2 ^ 64 → size_in (decimal n) ≡ Some n
size_back n h = decimal_back (2 ^ 64) n (omega arith) h

-- the word of a path is plain
pub plain_path : (root path : PathValue) → is_utf8 (way_of root path) ≡ true → list_all is_plain (path_word root path) ≡ true
plain_path root path text = plain_bytes (way_of root path) (utf8_bytes (way_of root path) (IsUtf8-from_is_utf8 (way_of root path) text))
