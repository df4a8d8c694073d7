-- Bytes of a page, numbers in them (c.h: uint16, uint32, low byte first), and one way to write: bytes in place.
use Rattle.std.specs.Prelude.{ℕ, ◌+◌, ◌*◌, ◌/◌, ◌%◌, List, [], ◌∷◌, take, drop, slice_index, map}
use Rattle.std.specs.List.{range_with_len}
use Rattle.layout.specs.Splice.{splice}

-- the byte at i, 0 past the end
abbrev pub byte : List ℕ → ℕ → ℕ
byte p i = slice_index p i

-- the number in two bytes
abbrev pub u16_at : List ℕ → ℕ → ℕ
u16_at p i = byte p i + 256 * byte p (i + 1)

-- the number in four bytes
abbrev pub u32_at : List ℕ → ℕ → ℕ
u32_at p i = u16_at p i + 65536 * u16_at p (i + 2)

-- a number as two bytes
abbrev pub u16_bytes : ℕ → List ℕ
u16_bytes n = n % 256 ∷ n / 256 ∷ []

-- a number as four bytes
abbrev pub u32_bytes : ℕ → List ℕ
u32_bytes n = n % 256 ∷ n / 256 % 256 ∷ n / 65536 % 256 ∷ n / 16777216 ∷ []

-- a number of two bytes laid at `at`
abbrev pub with_u16 : List ℕ → ℕ → ℕ → List ℕ
with_u16 p at n = splice p at (u16_bytes n)

-- `size` bytes from `at` on
unfoldable pub cut : List ℕ → ℕ → ℕ → List ℕ
cut p at size = take size (drop at p)

-- a length rounded up to a multiple of 8 (MAXALIGN)
abbrev pub up8 : ℕ → ℕ
up8 n = (n + 7) / 8 * 8

-- the page whose byte i is f i
unfoldable pub page_of : (ℕ → ℕ) → List ℕ
page_of f = map f (range_with_len 0 8192)
