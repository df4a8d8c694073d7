-- The words of a plan's lines: positions and sums. Own: "The plan of a rewind as text".
use Rattle.std.specs.Prelude.{ℕ, ◌==◌, ◌&&◌, Bool, List, bytes_eq, length, Option, None, Some, option_and_then, if◌then◌else◌}
use Rattle.std.specs.List.{list_all}
use Rattle.wal_base.specs.Hex.{hex_value, is_upper_hex}
use Rattle.wal_base.specs.Lsn.{lsn_of, lsn_text}
use Rattle.wal_base.specs.declared.lsn.Lsn.{Lsn}

-- a position, where this is its word
abbrev pub shown_so : List ℕ → Lsn → Option Lsn
shown_so word at = if bytes_eq (lsn_text at.0) word then Some at else None

-- the position that is written as `%X/%X`
abbrev pub lsn_in : List ℕ → Option Lsn
lsn_in word = option_and_then (shown_so word) (lsn_of word)

-- eight digits 0 to 9 and A to F
abbrev pub is_sum : List ℕ → Bool
is_sum word = length word == 8 && list_all is_upper_hex word

-- the sum of 32 bits that is written as `%08X`
abbrev pub sum_in : List ℕ → Option ℕ
sum_in word = if is_sum word then Some (hex_value word) else None
