-- Values in a row, one behind another: how they are spelled, and what it is that they stand in bytes.
use Rattle.std.specs.Prelude.{◌≡◌, ◌<◌, ◌+◌, ℕ, List, [], ◌∷◌, slice_index}
use Rattle.std.specs.List.{AllByRecursion, flat_map}
use Rattle.layout.specs.declared.value.Value.{Value}
use Rattle.layout.specs.Readers.{value_at}
use Rattle.layout.specs.Values.{ValueFits, width}
use Rattle.layout.specs.Writing.{value_bytes}

-- the bytes of values in a row
abbrev pub row_bytes : List Value → List ℕ
row_bytes values = flat_map value_bytes values

-- how many bytes these are
abbrev pub row_width : List Value → ℕ
row_width [] = 0
row_width (value ∷ values) = width value + row_width values

-- each value is one that its bytes can hold
abbrev pub AllFit : List Value → Type 0
AllFit values = AllByRecursion ValueFits values

-- the values stand from an offset on
abbrev pub StandFrom : List Value → ℕ → List ℕ → Type 0
StandFrom [] at bytes = Unit {0}
StandFrom (value ∷ values) at bytes = (value_at value at bytes ≡ value) × StandFrom values (at + width value) bytes

-- each number of the list is a byte
abbrev pub AreBytes : List ℕ → Type 0
AreBytes bytes = (i : ℕ) → slice_index bytes i < 256
