-- The lines of a text, each ended by a newline: POSIX.1-2017, Base Definitions, 3.206 "Line". A last piece without a
-- newline is a line too, as C's fgets reads it.
use Rattle.std.specs.Prelude.{◌==◌, ℕ, not, IsTrue, List, [], ◌∷◌, ◌++◌, if◌then◌else◌}
use Rattle.std.specs.List.{list_all}

abbrev pub newline : ℕ
newline = 10

-- a byte at the front of the first of these lines, or of a line of its own where there is none
abbrev pub at_front : ℕ → List (List ℕ) → List (List ℕ)
at_front byte [] = (byte ∷ []) ∷ []
at_front byte (line ∷ lines) = (byte ∷ line) ∷ lines

-- the lines of a text: a newline ends one, and any other byte belongs to the line of what follows
unfoldable pub lines_of : List ℕ → List (List ℕ)
lines_of [] = []
lines_of (byte ∷ bytes) = if byte == newline then [] ∷ lines_of bytes else at_front byte (lines_of bytes)

-- no byte is a newline
abbrev pub IsLine : List ℕ → Type 0
IsLine line = IsTrue (list_all (λ byte. not (byte == newline)) line)

-- the text of these lines, each with its newline
abbrev pub text_of : List (List ℕ) → List ℕ
text_of [] = []
text_of (line ∷ lines) = line ++ newline ∷ text_of lines
