-- The bytes of a mark that holds a text behind a head, and in the head a gate. Own: "A mark that holds its plan".
use Rattle.std.specs.Prelude.{◌≡◌, ◌≢◌, ◌⊎◌, ℕ, ◌<◌, ◌≤◌, Bool, true, false, List, [], ◌∷◌, ◌++◌, length, take, slice_index}
use Rattle.layout.specs.Splice.{splice}

-- the byte of a gate that is open: `+`
abbrev pub plus : ℕ
plus = 43

-- the head with its gate open, and then the text
abbrev pub whole_mark : (head : List ℕ) (gate : ℕ) (text : List ℕ) → List ℕ
whole_mark head gate text = splice head gate (plus ∷ []) ++ text

-- bytes that read as a complete mark: up to the gate they are the head's, the gate is open, and they are more than a head
pub record IsComplete (head : List ℕ) (gate : ℕ) (bytes : List ℕ) : Type 0 where
  pub front : take gate bytes ≡ take gate head
  pub is_open : slice_index bytes gate ≡ plus
  pub longer : length head < length bytes

-- bytes of which no text is read: no more than a head, or the gate isn't open
abbrev pub IsShut : (head : List ℕ) (gate : ℕ) (bytes : List ℕ) → Type 0
IsShut head gate bytes = (length bytes ≤ length head) ⊎ (slice_index bytes gate ≢ plus)

-- what could have stood at a mark lets no other text be read while it is laid: a file that isn't complete, or where none stood no more than a head
abbrev pub IsReady : (stood : Bool) (head : List ℕ) (gate : ℕ) (old : List ℕ) → Type 0
IsReady true head gate old = IsComplete head gate old → ⊥
IsReady false head gate old = length old ≤ length head

-- and what is then laid is not complete, or holds this text
abbrev pub IsTold : (head : List ℕ) (gate : ℕ) (text new : List ℕ) → Type 0
IsTold head gate text new = (IsComplete head gate new → ⊥) ⊎ (new ≡ whole_mark head gate text)
