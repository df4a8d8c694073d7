-- Numbers in the words of pg_resetwal: PostgreSQL 16, src/bin/pg_resetwal/pg_resetwal.c, main; ISO C, strtoul with base 0. Own: "Numbers in words".
use Rattle.std.specs.Prelude.{ℕ, ◌==◌, ◌^◌, ◌&&◌, ◌||◌, Bool, List, Option, Some, None, bytes_eq, codes, drop, take, length, nat_lt, if◌then◌else◌}
use Rattle.std.specs.Char.{is_digit}
use Rattle.std.specs.List.{list_all, before_first, after_first}
use Rattle.std.specs.Str.Parse.{digits_value}
use Rattle.wal_base.specs.Decimal.{has_leading_zero}
use Rattle.wal_base.specs.Hex.{is_long_name}
use Rattle.tool_words.specs.Forms.{with_value}

-- one digit of a radix or more, of either case, and nothing else
abbrev pub is_numeral : ℕ → List ℕ → Bool
is_numeral radix text = nat_lt 0 (length text) && list_all (λ c. is_digit c radix) text

-- the number below 2 ^ 32 that such digits write
unfoldable pub numeral : ℕ → List ℕ → Option ℕ
numeral radix text = if is_numeral radix text && nat_lt (digits_value radix text) (2 ^ 32) then Some (digits_value radix text) else None

-- 0x or 0X stands first
abbrev pub is_hex : List ℕ → Bool
is_hex text = bytes_eq (take 2 text) (codes "0x") || bytes_eq (take 2 text) (codes "0X")

-- a number: hexadecimal behind 0x or 0X, octal behind a 0 that isn't alone, and else decimal
unfoldable pub number_of : List ℕ → Option ℕ
number_of text =
    if is_hex text then numeral 16 (drop 2 text)
    else (if has_leading_zero text then numeral 8 text else numeral 10 text)

abbrev pub comma : ℕ
comma = 44

-- two numbers with a comma between them
unfoldable pub pair_of : List ℕ → Option (ℕ × ℕ)
pair_of text =
    with_value (number_of (before_first (λ byte. byte == comma) text)) (λ first.
    with_value (number_of (after_first (λ byte. byte == comma) text)) (λ second.
    Some (first, second)))

-- eight digits of a segment's name, from a place on, as a number
abbrev pub eight_at : ℕ → List ℕ → Option ℕ
eight_at place name = numeral 16 (take 8 (drop place name))

-- the three numbers of a segment's name, each of eight hexadecimal digits
unfoldable pub name_numbers_of : List ℕ → Option (ℕ × ℕ × ℕ)
name_numbers_of name =
    if is_long_name name then with_value (eight_at 0 name) (λ tli.
    with_value (eight_at 8 name) (λ high.
    with_value (eight_at 16 name) (λ low.
    Some (tli, high, low)))) else None
