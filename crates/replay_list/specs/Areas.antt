-- Which paths below a root a replay's mark lists. Own: "The list in a replay's mark".
use Rattle.std.specs.Prelude.{ℕ, ◌||◌, Bool, false, List, [], ◌∷◌, bytes_eq, codes}

-- the folders that replay changes
abbrev pub is_area : List ℕ → Bool
is_area name =
    bytes_eq name (codes "pg_xact") || bytes_eq name (codes "pg_multixact")
    || bytes_eq name (codes "global") || bytes_eq name (codes "base")

-- the parts behind the root of what is at or below one of these, and of the label
abbrev pub is_listed : List (List ℕ) → Bool
is_listed [] = false
is_listed (name ∷ []) = is_area name || bytes_eq name (codes "backup_label")
is_listed (name ∷ more) = is_area name
