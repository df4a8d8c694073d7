-- The lines of a plan as they are written.
use Rattle.std.proofs.Common.{◌≡◌, ℕ, List, [], ◌∷◌, ◌++◌, Option, Some}
use Rattle.std.specs.Fmt.{AppendsText, ◌++?◌}

-- a text of a word and its digits
pub digits_added : (old new front digits : List ℕ) (o : Option (List ℕ)) → o ≡ Some digits → AppendsText old new (Some front ++? (o ++? Some (10 ∷ [])))
    → new ≡ old ++ (front ++ (digits ++ 10 ∷ []))
digits_added old new front digits o e h = rw e at h
