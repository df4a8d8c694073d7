-- Hexadecimal numbers in positions and file names, as C's %X and %08X write them.
use Rattle.std.specs.Prelude.{◌==◌, ℕ, zero, suc, ◌/◌, ◌-◌, ◌%◌, ◌^◌, ◌||◌, ◌&&◌, Bool, true, List, [], ◌∷◌, ◌++◌, replicate, Option, Some, None, length, nat_lt, nat_le, if◌then◌else◌}
use Rattle.std.specs.Char.{is_ascii_hexdigit}
use Rattle.std.specs.Int.{is_in_range}
use Rattle.std.specs.Fmt.{digits, digit_glyph}
use Rattle.std.specs.List.{list_all}
use Rattle.std.specs.Str.Parse.{digits_value}

-- %X: the digits of a number, 0 to 9 and A to F, with no leading zero
abbrev pub hex_text : ℕ → List ℕ
hex_text n = digits 16 true n

-- the lowest digits of a number, so many of them
unfoldable pub hex_digits : ℕ → ℕ → List ℕ
hex_digits zero n = []
hex_digits (suc width) n = digit_glyph true (n / 16 ^ width % 16) ∷ hex_digits width n

-- %08X, of a number below 2 ^ 32
abbrev pub hex8 : ℕ → List ℕ
hex8 n = hex_digits 8 n

-- %02X, of a byte
abbrev pub hex2 : ℕ → List ℕ
hex2 n = hex_digits 2 n

-- %0wX for a width w: the digits of a number, and zeros (48) before them where they are fewer
abbrev pub upper_hex : ℕ → ℕ → List ℕ
upper_hex width n = replicate (width - length (hex_text n)) 48 ++ hex_text n

-- the number that digits of either case write
abbrev pub hex_value : List ℕ → ℕ
hex_value text = digits_value 16 text

-- one to eight digits, of either case
abbrev pub is_hex_word : List ℕ → Bool
is_hex_word text = nat_lt 0 (length text) && nat_le (length text) 8 && list_all is_ascii_hexdigit text

-- the number that one to eight digits write
abbrev pub hex_word : List ℕ → Option ℕ
hex_word text = if is_hex_word text then Some (hex_value text) else None

-- 0 to 9 and A to F
abbrev pub is_upper_hex : ℕ → Bool
is_upper_hex byte = is_in_range 48 57 byte || is_in_range 65 70 byte

-- 24 digits 0 to 9 and A to F
abbrev pub is_long_name : List ℕ → Bool
is_long_name text = (length text == 24) && list_all is_upper_hex text
