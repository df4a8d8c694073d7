-- Texts of which each is an act, and texts that are gathered before they are put. Own: "A command is a script of acts".
use Rattle.std.specs.Prelude.{◌≡◌, ◌≢◌, ℕ, ◌++◌, ◌⊎◌, Bool, List, [], ◌∷◌}
use Rattle.acts.specs.Acts.{Act, Look, Print, Sunk, Puts}

-- texts, one after the other
abbrev pub texts_of : List (List ℕ) → List ℕ
texts_of [] = []
texts_of (text ∷ texts) = text ++ texts_of texts

-- a look before each text, which is an act of its own, and then the rest
abbrev pub shown : List (List ℕ) → List Act → List Act
shown [] rest = rest
shown (text ∷ texts) rest = Look ∷ Print text ∷ shown texts rest

-- texts with a look before each, and one behind the last
abbrev pub prints : List (List ℕ) → List Act
prints [] = Look ∷ []
prints (text ∷ texts) = Look ∷ Print text ∷ prints texts

-- a text was put on a sink, unless it is empty: then nothing was written
abbrev pub Flushes : Bool → List ℕ → Sunk → Sunk → Type 0
Flushes tells text old new = ((text ≡ []) × (new ≡ old)) ⊎ ((text ≢ []) × Puts tells text old new)
