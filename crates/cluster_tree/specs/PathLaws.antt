-- What follows from the definition of a path, for callers. Own: "Paths".
use Rattle.std.specs.Prelude.{◌≡◌, ℕ, ◌≤◌, true, List, [], ◌∷◌, Ok}
use Rattle.std.specs.List.{list_all}
use Rattle.cluster_tree.specs.PathValue.{PathValue, is_part, kept_parts, parsed, path_text}
use Rattle.cluster_tree.specs.Paths.{checked}

-- a path of proper parts is read back from its text
abbrev pub TextReadsBack : Type 0
TextReadsBack = (path : PathValue) → list_all is_part path.parts ≡ true → parsed (path_text path) ≡ path

-- so two such paths of one text are the same
abbrev pub TextTellsPath : Type 0
TextTellsPath = (path other : PathValue) → list_all is_part path.parts ≡ true → list_all is_part other.parts ≡ true → path_text path ≡ path_text other → path ≡ other

-- a text that isn't refused names proper parts
abbrev pub PartsAreProper : Type 0
PartsAreProper = (have : ℕ) (text : List ℕ) → checked have text ≡ Ok tt → list_all is_part (kept_parts text) ≡ true

-- a proper part, as a text, names itself alone
abbrev pub PartIsKept : Type 0
PartIsKept = (name : List ℕ) → is_part name ≡ true → kept_parts name ≡ name ∷ []

-- and isn't refused where there is room for it
abbrev pub PartIsAdmitted : Type 0
PartIsAdmitted = (have : ℕ) (name : List ℕ) → have ≤ 63 → is_part name ≡ true → checked have name ≡ Ok tt
