-- Decimal numbers in words, names of files and stored texts. Own: "Numbers in words".
use Rattle.std.specs.Prelude.{ℕ, ◌==◌, ◌&&◌, Bool, not, List, Option, Some, None, length, nat_lt, slice_index, if◌then◌else◌}
use Rattle.std.specs.Char.{is_ascii_digit}
use Rattle.std.specs.List.{list_all}
use Rattle.std.specs.Str.Parse.{digits_value}

-- a 0 (48) with more behind it
abbrev pub has_leading_zero : List ℕ → Bool
has_leading_zero text = nat_lt 1 (length text) && slice_index text 0 == 48

-- one decimal digit or more, and no leading zero
abbrev pub is_decimal : List ℕ → Bool
is_decimal text = nat_lt 0 (length text) && list_all is_ascii_digit text && not (has_leading_zero text)

-- the number below a limit that decimal digits without a sign or a leading zero write
unfoldable pub decimal_number : ℕ → List ℕ → Option ℕ
decimal_number limit text =
    if is_decimal text && nat_lt (digits_value 10 text) limit then Some (digits_value 10 text) else None
