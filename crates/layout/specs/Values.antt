-- The values of fields: numbers with the lowest byte first, as a little-endian machine stores them.
use Rattle.std.specs.Prelude.{ℕ, ◌≡◌, ◌<◌, ◌^◌, length}
use Rattle.std.specs.Int.{w64}
use Rattle.std.specs.Int.RustNames.{FitsSigned}
use Rattle.layout.specs.declared.value.Value.{Value}
use Rattle.layout.specs.declared.value.Value.TheVariants.{Byte, Half, Word, Long, Signed, Raw}

-- the number that a rule speaks of
abbrev pub number : Value → ℕ
number (Byte n) = n
number (Half n) = n
number (Word n) = n
number (Long n) = n
number (Signed _) = 0
number (Raw _) = 0

-- how many bytes a value of this form has
abbrev pub width : Value → ℕ
width (Byte _) = 1
width (Half _) = 2
width (Word _) = 4
width (Long _) = 8
width (Signed _) = 8
width (Raw _) = 32

-- the value is one that so many bytes can hold
abbrev pub ValueFits : Value → Type 0
ValueFits (Byte n) = n < 2 ^ 8
ValueFits (Half n) = n < 2 ^ 16
ValueFits (Word n) = n < 2 ^ 32
ValueFits (Long n) = n < 2 ^ 64
ValueFits (Signed z) = FitsSigned w64 z
ValueFits (Raw bytes) = length bytes ≡ 32
