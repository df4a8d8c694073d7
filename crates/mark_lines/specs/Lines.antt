-- The lines of a mark's text, read one after another. Own: "The plan of a rewind as text".
use Rattle.std.specs.Prelude.{ℕ, ◌==◌, List, [], ◌∷◌, bytes_eq, codes, Option, None, Some, Result, Ok, Err, if◌then◌else◌}
use Rattle.std.specs.List.{slice_split}
use Rattle.mark_lines.specs.Words.{words_of}

-- the pieces of a text between its newlines: its lines, and what stands behind the last newline, which is no line
abbrev pub pieces_of : List ℕ → List (List ℕ)
pieces_of text = slice_split (λ byte. byte == 10) text

-- the first line, and what stands behind it
abbrev pub first_line : List (List ℕ) → Option (List ℕ × List (List ℕ))
first_line (line ∷ (next ∷ more)) = Some (line, next ∷ more)
first_line pieces = None

-- the line of a number is at fault where there is no value
abbrev pub or_at : {A B : Type 0} → ℕ → Option A → (A → Result B ℕ) → Result B ℕ
or_at number (Some value) more = more value
or_at number None more = Err number

-- what the first line says, and what stands behind it; a line of another form is at fault
abbrev pub said_first : {A : Type 0} → (List (List ℕ) → Option A) → ℕ → List (List ℕ) → Result (A × List (List ℕ)) ℕ
said_first form n pieces = or_at n (first_line pieces) (λ cut. or_at n (form (words_of cut.0)) (λ value. Ok (value, cut.1)))

-- what is read next, unless a line was at fault
abbrev pub and_then : {A B : Type 0} → Result A ℕ → (A → Result B ℕ) → Result B ℕ
and_then (Ok value) more = more value
and_then (Err n) more = Err n

-- what a line says and what those behind it say, if it says something
abbrev pub led_by : {A : Type 0} → Option A → (A → List A) → List A
led_by None more = []
led_by (Some said) more = said ∷ more said

-- the last line
abbrev pub end_of : List (List ℕ) → Option (Unit {0})
end_of (verb ∷ []) = if bytes_eq verb (codes "end") then Some tt else None
end_of words = None

-- nothing stands behind the last line
abbrev pub ended_by : {A : Type 0} → A → ℕ → List (List ℕ) → Result A ℕ
ended_by value n ([] ∷ []) = Ok value
ended_by value n pieces = Err n
