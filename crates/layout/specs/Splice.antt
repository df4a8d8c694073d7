-- Bytes laid over bytes.
use Rattle.std.specs.Prelude.{ℕ, ◌+◌, List, ◌++◌, length, take, drop}

-- the old bytes with these in the place of those from an offset on
unfoldable pub splice : List ℕ → ℕ → List ℕ → List ℕ
splice old at bytes = take at old ++ bytes ++ drop (at + length bytes) old
