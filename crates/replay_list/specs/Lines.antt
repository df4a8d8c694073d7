-- What stood at paths, as lines. Own: "The list in a replay's mark".
use Rattle.std.specs.Prelude.{ℕ, suc, List, [], ◌∷◌, ◌++◌, codes, decimal, map}
use Rattle.cluster_tree.specs.PathValue.{PathValue}
use Rattle.mark_lines.specs.Words.{line}
use Rattle.mark_lines.specs.Paths.{path_word, way_of}
use Rattle.replay_list.specs.declared.listed.Listed.{Listed}
use Rattle.replay_list.specs.declared.listed.Listed.TheVariants.{Folder, Page, File}

-- the path at which it stood
abbrev pub path_at : Listed → PathValue
path_at (Folder path) = path
path_at (Page path size) = path
path_at (File path size) = path

-- the way to it from a root
abbrev pub way_to : PathValue → Listed → List ℕ
way_to root listed = way_of root (path_at listed)

abbrev pub ways_to : PathValue → List Listed → List (List ℕ)
ways_to root listed = map (way_to root) listed

-- its words, with the count of the files of no main fork that are listed before it
abbrev pub listed_words : PathValue → ℕ → Listed → List (List ℕ)
listed_words root files (Folder path) = codes "folder" ∷ path_word root path ∷ []
listed_words root files (Page path size) = codes "page" ∷ path_word root path ∷ decimal size ∷ []
listed_words root files (File path size) = codes "file" ∷ path_word root path ∷ decimal size ∷ decimal files ∷ []

-- that count behind it
abbrev pub files_behind : ℕ → Listed → ℕ
files_behind files (Folder path) = files
files_behind files (Page path size) = files
files_behind files (File path size) = suc files

-- .. and behind each
abbrev pub files_after : ℕ → List Listed → ℕ
files_after files [] = files
files_after files (first ∷ more) = files_after (files_behind files first) more

-- their lines, from a count on
abbrev pub listed_lines : PathValue → ℕ → List Listed → List ℕ
listed_lines root files [] = []
listed_lines root files (first ∷ more) = line (listed_words root files first) ++ listed_lines root (files_behind files first) more
