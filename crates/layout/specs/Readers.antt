-- What stands at an offset: numbers with the lowest byte first.
use Rattle.std.specs.Prelude.{ℕ, ℤ, List, take, drop, slice_index}
use Rattle.std.specs.Int.{w64, cast_signed}
use Rattle.byteorder.specs.Endian.{little_number}
use Rattle.layout.specs.declared.value.Value.{Value}
use Rattle.layout.specs.declared.value.Value.TheVariants.{Byte, Half, Word, Long, Signed, Raw}

-- the byte at an offset
unfoldable pub u8_at : ℕ → List ℕ → ℕ
u8_at at bytes = slice_index bytes at

-- the number in two bytes
unfoldable pub u16_at : ℕ → List ℕ → ℕ
u16_at at bytes = little_number 2 (drop at bytes)

-- the number in four bytes
unfoldable pub u32_at : ℕ → List ℕ → ℕ
u32_at at bytes = little_number 4 (drop at bytes)

-- the number in eight bytes
unfoldable pub u64_at : ℕ → List ℕ → ℕ
u64_at at bytes = little_number 8 (drop at bytes)

-- the number in eight bytes in two's complement
unfoldable pub i64_at : ℕ → List ℕ → ℤ
i64_at at bytes = cast_signed w64 (u64_at at bytes)

-- the 32 bytes from an offset
abbrev pub raw_at : ℕ → List ℕ → List ℕ
raw_at at bytes = take 32 (drop at bytes)

-- the value of this form that stands at an offset
abbrev pub value_at : Value → ℕ → List ℕ → Value
value_at (Byte _) at bytes = Byte (u8_at at bytes)
value_at (Half _) at bytes = Half (u16_at at bytes)
value_at (Word _) at bytes = Word (u32_at at bytes)
value_at (Long _) at bytes = Long (u64_at at bytes)
value_at (Signed _) at bytes = Signed (i64_at at bytes)
value_at (Raw _) at bytes = Raw (raw_at at bytes)
