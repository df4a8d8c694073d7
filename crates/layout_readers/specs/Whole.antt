-- What makes a layout whole. Own: which bytes make a layout whole is told by docs/FORMATS.md.
use Rattle.std.specs.Prelude.{ℕ, List, length, Option, Some, None, nat_lt, if◌then◌else◌}

-- a value whose bytes are so many, where they are there
abbrev pub whole : {A : Type 0} → ℕ → List ℕ → A → Option A
whole size bytes value = if nat_lt (length bytes) size then None else Some value
