-- CRC-32C: the Castagnoli polynomial, RFC 3720 appendix B.4; PostgreSQL 16, src/include/port/pg_crc32c.h.
use Rattle.std.specs.Prelude.{ℕ, zero, suc, ◌-◌, ◌/◌, ◌%◌, ◌^◌, ◌==◌, if◌then◌else◌, List, [], ◌∷◌, bit_xor}

-- one bit: the lowest goes out, and where it is 1 the reflected polynomial comes in
unfoldable pub crc_step : ℕ → ℕ
crc_step state = if state % 2 == 1 then bit_xor (state / 2) 0x82F63B78 else state / 2

-- so many bits
unfoldable pub crc_steps : ℕ → ℕ → ℕ
crc_steps zero state = state
crc_steps (suc bits) state = crc_steps bits (crc_step state)

-- one byte, the low eight bits of a number
unfoldable pub crc_byte : ℕ → ℕ → ℕ
crc_byte state byte = crc_steps 8 (bit_xor state (byte % 256))

-- bytes, one after another
unfoldable pub crc_fold : ℕ → List ℕ → ℕ
crc_fold state [] = state
crc_fold state (byte ∷ bytes) = crc_fold (crc_byte state byte) bytes

-- the state before the first byte, and the mask of the last one
abbrev pub crc_start : ℕ
crc_start = 2 ^ 32 - 1

-- the checksum of bytes
unfoldable pub crc32c : List ℕ → ℕ
crc32c bytes = bit_xor (crc_fold crc_start bytes) crc_start
