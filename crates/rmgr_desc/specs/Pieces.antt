-- Pieces that the texts of records are made of. Own: "Names and texts of operations".
use Rattle.std.specs.Prelude.{ℕ, ◌==◌, List, [], ◌∷◌, ◌++◌, Option, None, Some, codes, decimal, if◌then◌else◌}
use Rattle.wal_base.specs.Hex.{hex2}

-- a byte of flags: 0x%02X
abbrev pub flags_text : ℕ → List ℕ
flags_text flags = codes "0x" ++ hex2 flags

-- a setting that is 0 or 1
unfoldable pub switch_text : ℕ → List ℕ
switch_text setting = if setting == 0 then codes "off" else codes "on"

-- a value with its name
abbrev pub field : List ℕ → List ℕ → List ℕ
field name value = name ++ (codes ": " ++ value)

-- fields, joined by commas
abbrev pub fields : List (List ℕ) → List ℕ
fields [] = []
fields (one ∷ []) = one
fields (one ∷ more) = one ++ (codes ", " ++ fields more)

-- the text of a layout, if the bytes hold one
abbrev pub or_short : {A : Type 0} → (A → List ℕ) → Option A → List ℕ
or_short text None = codes "(short)"
or_short text (Some layout) = text layout

-- a field that is a number, and one that is a byte of flags
abbrev pub number : List ℕ → ℕ → List ℕ
number name n = field name (decimal n)

abbrev pub flags : List ℕ → ℕ → List ℕ
flags name n = field name (flags_text n)
