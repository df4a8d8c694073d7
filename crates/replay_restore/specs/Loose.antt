-- Lists that no replay wrote, though each line is of its form. Own: "What a replay brings back".
use Rattle.std.specs.Prelude.{◌≡◌, ℕ, ◌+◌, Bool, true, false, if◌then◌else◌, List, [], ◌∷◌, ◌++◌, length, Option, None, Some}
use Rattle.cluster_tree.specs.PathValue.{PathValue}
use Rattle.replay_list.specs.Lines.{path_at}
use Rattle.replay_list.specs.declared.listed.Listed.{Listed}
use Rattle.replay_restore.specs.Freed.{label_path}
use Rattle.replay_restore.specs.Listing.{has_file, is_closed, is_file_at, is_under}

-- the first line is that of the label, whose path comes before those of the areas
abbrev pub has_label_first : PathValue → List Listed → Bool
has_label_first root [] = false
has_label_first root (one ∷ more) = is_file_at (label_path root) one

-- of the lines behind these, the first whose path lies in no folder that is listed before it
unfoldable pub first_loose : PathValue → (done left : List Listed) → Option ℕ
first_loose root done [] = None
first_loose root done (one ∷ more) = if is_under root done (path_at one) then first_loose root (done ++ one ∷ []) more else Some (length done + 1)

-- the number, from 1, of the first line that isn't at its place
abbrev pub loose_line : PathValue → List Listed → Option ℕ
loose_line root listed = if has_label_first root listed then first_loose root [] listed else Some 1

-- where none is, the list has the label, and the folder of each path before it
abbrev pub UnlooseIsClosed : Type 0
UnlooseIsClosed = (root : PathValue) (listed : List Listed) → loose_line root listed ≡ None → (is_closed root [] listed ≡ true) × (has_file listed (label_path root) ≡ true)
