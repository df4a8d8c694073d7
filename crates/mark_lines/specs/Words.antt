-- The words of a mark's lines. Own: "The plan of a rewind as text".
use Rattle.std.specs.Prelude.{ℕ, ◌==◌, ◌^◌, ◌&&◌, ◌||◌, Bool, List, [], ◌∷◌, ◌++◌, nat_le, Option, None, Some, Result, Ok, Err, if◌then◌else◌}
use Rattle.std.specs.List.{join_with_byte, list_all, slice_split}
use Rattle.hex.specs.Hex.{decode_of}
use Rattle.hex.specs.declared.error.FromHexError.{FromHexError}
use Rattle.wal_base.specs.Decimal.{decimal_number}

-- a space between words, and a newline behind the last of them
abbrev pub line : List (List ℕ) → List ℕ
line words = join_with_byte 32 words ++ 10 ∷ []

-- the words of a line without its newline
abbrev pub words_of : List ℕ → List (List ℕ)
words_of text = slice_split (λ byte. byte == 32) text

-- the bytes that digits write, if they are such
abbrev pub ok_of : Result (List ℕ) FromHexError → Option (List ℕ)
ok_of (Ok bytes) = Some bytes
ok_of (Err fault) = None

-- digits 0 to 9 and a to f, as `hex` writes them
abbrev pub is_lower : ℕ → Bool
is_lower byte = nat_le 48 byte && nat_le byte 57 || nat_le 97 byte && nat_le byte 102

-- the bytes that are written as two such digits each
abbrev pub bytes_in : List ℕ → Option (List ℕ)
bytes_in word = if list_all is_lower word then ok_of (decode_of word) else None

-- a number of 64 bits
abbrev pub size_in : List ℕ → Option ℕ
size_in word = decimal_number (2 ^ 64) word
