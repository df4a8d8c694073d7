-- What was written is read again. Own: "The list in a replay's mark".
use Rattle.std.specs.Prelude.{◌≡◌, ℕ, ◌≤◌, ◌^◌, true, List, length, Ok}
use Rattle.std.specs.List.{All, list_all}
use Rattle.std.specs.List.Sorted.{IsStrictlySortedBy}
use Rattle.std.specs.Cmp.Lexicographic.{slice_cmp}
use Rattle.std.specs.Ordering.{nat_cmp}
use Rattle.cluster_tree.specs.PathValue.{PathValue}
use Rattle.mark_lines.specs.Paths.{parts_below}
use Rattle.mark_lines.specs.Ways.{LiesBelow}
use Rattle.replay_list.specs.declared.listed.Listed.{Listed}
use Rattle.replay_list.specs.Areas.{is_listed}
use Rattle.replay_list.specs.Lines.{files_after, path_at, ways_to}
use Rattle.replay_list.specs.Text.{IsHeld, list_text}
use Rattle.replay_list.specs.Reading.{listed_in}

-- a list below a root: paths below it with room, each in an area or the label, in strictly ascending order of their ways, ways in
-- UTF-8 and sizes of 64 bits, and no count of files past them
pub record IsListOf (root : PathValue) (listed : List Listed) : Type 0 where
  pub placed : All (λ l. LiesBelow (length root.parts) root (path_at l)) listed
  pub areas : list_all (λ l. is_listed (parts_below root (path_at l))) listed ≡ true
  pub ascending : IsStrictlySortedBy (slice_cmp nat_cmp) (ways_to root listed)
  pub held : IsHeld root listed
  pub counts : files_after 0 listed ≤ 2 ^ 64

-- its text is read as just that
abbrev pub ListTextsAreRead : Type 0
ListTextsAreRead = (root : PathValue) (listed : List Listed) → IsListOf root listed → listed_in root (list_text root listed) ≡ Ok listed

-- what a text says is a list below the root
abbrev pub ReadListsAreListed : Type 0
ReadListsAreListed = (root : PathValue) (text : List ℕ) (listed : List Listed) → listed_in root text ≡ Ok listed → IsListOf root listed

-- and the text is that of the list
abbrev pub ListsHaveOneText : Type 0
ListsHaveOneText = (root : PathValue) (text : List ℕ) (listed : List Listed) → listed_in root text ≡ Ok listed → text ≡ list_text root listed
