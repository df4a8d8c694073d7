-- A path, cut at its slashes: POSIX.1-2017, Base Definitions, "Pathname". Own: "Paths".
use Rattle.std.specs.Prelude.{◌≡◌, ℕ, ◌==◌, Bool, true, false, not, ◌&&◌, List, [], ◌∷◌, ◌++◌, length, filter, take, bytes_eq}
use Rattle.std.specs.List.{list_all, slice_split, join_with_byte}
use Rattle.std.specs.declared.cmp.Ordering.{Ordering}
use Rattle.std.specs.Ordering.{on, then_cmp, nat_cmp, bool_cmp}
use Rattle.std.specs.Cmp.Lexicographic.{slice_cmp}

-- whether a path is absolute, and its parts, each a list of bytes
pub record PathValue : Type 0 where
  pub absolute : Bool
  pub parts : List (List ℕ)

-- the path of a mark and parts
abbrev pub path_of : Bool → List (List ℕ) → PathValue
path_of absolute parts = record { absolute = absolute; parts = parts }

-- the pieces of a text between its slashes
abbrev pub pieces : List ℕ → List (List ℕ)
pieces text = slice_split (λ b. b == 47) text

-- an empty piece and `.` are dropped
abbrev pub is_kept : List ℕ → Bool
is_kept piece = not (bytes_eq piece []) && not (bytes_eq piece (46 ∷ []))

-- the piece `..`, which no path has
abbrev pub is_dot_dot : List ℕ → Bool
is_dot_dot piece = bytes_eq piece (46 ∷ 46 ∷ [])

-- no slash
abbrev pub no_slash : ℕ → Bool
no_slash b = not (b == 47)

-- a name that can be a part of a path: not empty, neither `.` nor `..`, and without a slash
abbrev pub is_part : List ℕ → Bool
is_part name = is_kept name && not (is_dot_dot name) && list_all no_slash name

-- the parts that a text names
abbrev pub kept_parts : List ℕ → List (List ℕ)
kept_parts text = filter is_kept (pieces text)

-- a text that begins with a slash is absolute
abbrev pub is_rooted : List ℕ → Bool
is_rooted [] = false
is_rooted (b ∷ bs) = b == 47

-- the path of a text
abbrev pub parsed : List ℕ → PathValue
parsed text = record { absolute = is_rooted text; parts = kept_parts text }

-- a path with these parts added
abbrev pub below : PathValue → List (List ℕ) → PathValue
below path parts = record { absolute = path.absolute; parts = path.parts ++ parts }

-- the path of the first parts of a path, so many of them
abbrev pub front : ℕ → PathValue → PathValue
front n path = record { absolute = path.absolute; parts = take n path.parts }

-- the parts joined by slashes, with a leading one where absolute, and `.` for no part
abbrev pub text_of : Bool → List (List ℕ) → List ℕ
text_of true parts = 47 ∷ join_with_byte 47 parts
text_of false [] = 46 ∷ []
text_of false (part ∷ parts) = join_with_byte 47 (part ∷ parts)

-- the text of a path
abbrev pub path_text : PathValue → List ℕ
path_text path = text_of path.absolute path.parts

-- the order of paths is that of their texts, as lists of bytes; the rest only breaks ties
abbrev pub path_cmp : PathValue → PathValue → Ordering
path_cmp = then_cmp (on path_text (slice_cmp nat_cmp)) (then_cmp (on (λ p. p.parts) (slice_cmp (slice_cmp nat_cmp))) (on (λ p. p.absolute) bool_cmp))

-- the same mark, and the parts of the first are a prefix of the other's
pub record Holds (root path : PathValue) : Type 0 where
  pub mark : root.absolute ≡ path.absolute
  pub prefix : take (length root.parts) path.parts ≡ root.parts
