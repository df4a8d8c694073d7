-- The bytes that a table lays out.
use Rattle.std.specs.Prelude.{ℕ, List, [], ◌∷◌}
use Rattle.std.specs.Int.{w64, cast_unsigned}
use Rattle.std.specs.List.{fold}
use Rattle.byteorder.specs.Endian.{little_bytes}
use Rattle.layout.specs.Splice.{splice}
use Rattle.layout.specs.declared.row.Row.{Row}
use Rattle.layout.specs.declared.value.Value.{Value}
use Rattle.layout.specs.declared.value.Value.TheVariants.{Byte, Half, Word, Long, Signed, Raw}

-- the bytes of a value, the lowest byte of a number first
unfoldable pub value_bytes : Value → List ℕ
value_bytes (Byte n) = n ∷ []
value_bytes (Half n) = little_bytes 2 n
value_bytes (Word n) = little_bytes 4 n
value_bytes (Long n) = little_bytes 8 n
value_bytes (Signed z) = little_bytes 8 (cast_unsigned w64 z)
value_bytes (Raw bytes) = bytes

-- the bytes with a row's value at its offset
abbrev pub with_row : {F : Type 0} → List ℕ → Row F → List ℕ
with_row bytes row = splice bytes row.at (value_bytes row.value)

-- the bytes with each row's value at its offset
abbrev pub laid : {F : Type 0} → List (Row F) → List ℕ → List ℕ
laid rows bytes = fold with_row bytes rows
