-- The first items of a list, by a test.
use Rattle.std.specs.Prelude.{ℕ, ◌-◌, ◌==◌, Bool, true, false, List, [], ◌∷◌, if◌then◌else◌}

abbrev pub is_empty : {X : Type 0} → List X → Bool
is_empty [] = true
is_empty (x ∷ xs) = false

-- those from the front on, up to the last of so many that pass a test; all of them where fewer pass, or where 0 are asked for
abbrev pub up_to : {X : Type 0} → ℕ → (X → Bool) → List X → List X
up_to n test [] = []
up_to n test (x ∷ xs) = if test x then (if n == 1 then x ∷ [] else x ∷ up_to (n - 1) test xs) else x ∷ up_to n test xs
