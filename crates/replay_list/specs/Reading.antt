-- What the list in a replay's mark says, or its first line that is at fault. Own: "The list in a replay's mark".
use Rattle.std.specs.Prelude.{ℕ, ◌+◌, ◌==◌, ◌&&◌, Bool, false, List, [], ◌∷◌, bytes_eq, codes, drop, length, Option, None, Some, Result, Ok, option_and_then, option_map, if◌then◌else◌}
use Rattle.std.specs.Cmp.Lexicographic.{slice_cmp}
use Rattle.std.specs.Ordering.{is_lt, nat_cmp}
use Rattle.cluster_tree.specs.PathValue.{PathValue, below}
use Rattle.mark_lines.specs.Words.{size_in, words_of}
use Rattle.mark_lines.specs.Paths.{parts_below, parts_in, way_of}
use Rattle.mark_lines.specs.Lines.{and_then, end_of, ended_by, first_line, led_by, pieces_of, said_first}
use Rattle.replay_list.specs.declared.listed.Listed.{Listed}
use Rattle.replay_list.specs.declared.listed.Listed.TheVariants.{Folder, Page, File}
use Rattle.replay_list.specs.Areas.{is_listed}
use Rattle.replay_list.specs.Lines.{files_behind, path_at, way_to}

-- the path below a root that a word says
abbrev pub path_in : PathValue → List ℕ → Option PathValue
path_in root word = option_map (below root) (parts_in (length root.parts) word)

-- a folder, by a word and a path
abbrev pub pathed : PathValue → (verb path : List ℕ) → Option Listed
pathed root verb path = if bytes_eq verb (codes "folder") then option_map Folder (path_in root path) else None

-- a file of a main fork, by a size too
abbrev pub page_of : PathValue → (path : List ℕ) → ℕ → Option Listed
page_of root path size = option_map (λ p. Page p size) (path_in root path)

abbrev pub sized : PathValue → (verb path size : List ℕ) → Option Listed
sized root verb path size = if bytes_eq verb (codes "page") then option_and_then (page_of root path) (size_in size) else None

-- a number of 64 bits that is this count
abbrev pub is_this : ℕ → Option ℕ → Bool
is_this files (Some n) = n == files
is_this files None = false

abbrev pub is_count : ℕ → List ℕ → Bool
is_count files word = is_this files (size_in word)

-- any other file, by the count of those before it too
abbrev pub file_of : PathValue → (path : List ℕ) → ℕ → Option Listed
file_of root path size = option_map (λ p. File p size) (path_in root path)

abbrev pub counted : PathValue → ℕ → (verb path size count : List ℕ) → Option Listed
counted root files verb path size count =
    if bytes_eq verb (codes "file") && is_count files count then option_and_then (file_of root path) (size_in size) else None

-- what words say, behind lines of so many of those files
abbrev pub listed_of : PathValue → ℕ → List (List ℕ) → Option Listed
listed_of root files (verb ∷ path ∷ []) = pathed root verb path
listed_of root files (verb ∷ path ∷ size ∷ []) = sized root verb path size
listed_of root files (verb ∷ path ∷ size ∷ count ∷ []) = counted root files verb path size count
listed_of root files words = None

-- a path that is listed, and whose way is above the one before it
abbrev pub has_place : PathValue → List ℕ → PathValue → Bool
has_place root last path = is_listed (parts_below root path) && is_lt (slice_cmp nat_cmp last (way_of root path))

abbrev pub in_place : PathValue → List ℕ → Listed → Option Listed
in_place root last listed = if has_place root last (path_at listed) then Some listed else None

-- what a line says that is in its place
abbrev pub next_listed : PathValue → List ℕ → ℕ → List ℕ → Option Listed
next_listed root last files line = option_and_then (in_place root last) (listed_of root files (words_of line))

-- .. and the first line
abbrev pub first_listed : PathValue → List ℕ → ℕ → List (List ℕ) → Option Listed
first_listed root last files pieces = option_and_then (λ cut. next_listed root last files cut.0) (first_line pieces)

-- what the lines at the front say, each in its place behind a way and so many files
unfoldable pub front_in : PathValue → List ℕ → ℕ → List (List ℕ) → List Listed
front_in root last files [] = []
front_in root last files (line ∷ []) = []
front_in root last files (line ∷ (next ∷ more)) =
    led_by (next_listed root last files line) (λ listed. front_in root (way_to root listed) (files_behind files listed) (next ∷ more))

-- the last line, from the line of a number on, behind which nothing stands
abbrev pub closing_in : ℕ → List (List ℕ) → Result (Unit {0}) ℕ
closing_in n pieces = and_then (said_first end_of n pieces) (λ end. ended_by tt (n + 1) end.1)

-- a list, or the number of its first line that isn't of its form or its place; before the first stands no way, which is below each
abbrev pub listed_from : PathValue → List (List ℕ) → Result (List Listed) ℕ
listed_from root pieces =
    let listed = front_in root [] 0 pieces in
    and_then (closing_in (length listed + 1) (drop (length listed) pieces)) (λ end. Ok listed)

-- .. of a text
abbrev pub listed_in : PathValue → List ℕ → Result (List Listed) ℕ
listed_in root text = listed_from root (pieces_of text)
