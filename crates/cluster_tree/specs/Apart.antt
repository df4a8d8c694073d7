-- Paths of which neither holds the other. Own: "Paths".
use Rattle.std.specs.Prelude.{Bool, true, false, not, ◌&&◌, ◌||◌, bytes_eq}
use Rattle.std.specs.List.{starts_with}
use Rattle.cluster_tree.specs.PathValue.{PathValue, Holds}

-- neither holds the other
abbrev pub AreApart : PathValue → PathValue → Type 0
AreApart one other = (Holds one other → ⊥) × (Holds other one → ⊥)

-- both or neither
abbrev pub agree : Bool → Bool → Bool
agree true b = b
agree false b = not b

-- whether a path holds another, as a test
abbrev pub is_held : PathValue → PathValue → Bool
is_held root path = agree root.absolute path.absolute && starts_with bytes_eq path.parts root.parts

-- whether one of two paths holds the other
unfoldable pub overlap : PathValue → PathValue → Bool
overlap one other = is_held one other || is_held other one
