-- Bits of a chunk: bit i is that of 2 ^ (i mod 8) in byte i / 8.
use Rattle.std.specs.Prelude.{ℕ, ◌/◌, ◌%◌, ◌==◌, Bool, List, get_or}
use Rattle.std.specs.Int.{bit_at}

-- a bit is set
abbrev pub is_set : List ℕ → ℕ → Bool
is_set bytes i = bit_at (get_or bytes (i / 8) 0) (i % 8) == 1
