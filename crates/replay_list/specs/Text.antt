-- The list in a replay's mark, as text. Own: "The list in a replay's mark".
use Rattle.std.specs.Prelude.{◌≡◌, ℕ, ◌<◌, ◌^◌, Bool, true, List, [], ◌∷◌, ◌++◌, codes}
use Rattle.std.specs.List.{All, list_all}
use Rattle.std.specs.Str.{is_utf8}
use Rattle.cluster_tree.specs.PathValue.{PathValue}
use Rattle.mark_lines.specs.Words.{line}
use Rattle.replay_list.specs.declared.listed.Listed.{Listed}
use Rattle.replay_list.specs.declared.listed.Listed.TheVariants.{Folder, Page, File}
use Rattle.replay_list.specs.Lines.{listed_lines, way_to}

-- its lines, and the last one
abbrev pub list_text : PathValue → List Listed → List ℕ
list_text root listed = listed_lines root 0 listed ++ line (codes "end" ∷ [])

-- the way to it is in UTF-8, as each path is that a program made
abbrev pub is_text : PathValue → Listed → Bool
is_text root listed = is_utf8 (way_to root listed)

-- a size of 64 bits
abbrev pub IsSized : Listed → Type 0
IsSized (Folder path) = Unit {0}
IsSized (Page path size) = size < 2 ^ 64
IsSized (File path size) = size < 2 ^ 64

-- what a program holds of a list: ways in UTF-8, and sizes of 64 bits
pub record IsHeld (root : PathValue) (listed : List Listed) : Type 0 where
  pub texts : list_all (is_text root) listed ≡ true
  pub sizes : All IsSized listed
