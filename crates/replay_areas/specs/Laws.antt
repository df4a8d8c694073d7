-- What a list tells of a cluster. Own: "The list in a replay's mark".
use Rattle.std.specs.Prelude.{◌≡◌, ℕ, ◌≤◌, ◌^◌, true, false, List, [], ◌∷◌, length, Option, None, Some, Ok, is_some, option_map, if◌then◌else◌}
use Rattle.cluster_tree.specs.Contents.{Contents, entry_at}
use Rattle.cluster_tree.specs.PathOrder.{path_eq}
use Rattle.cluster_tree.specs.PathValue.{PathValue, below, path_of}
use Rattle.file_walk.specs.Laws.{IsSound}
use Rattle.file_walk.specs.Relations.{relation_of}
use Rattle.file_walk.specs.Walk.{HasParts, kind_there}
use Rattle.replay_list.specs.declared.listed.Listed.{Listed}
use Rattle.replay_list.specs.Areas.{is_area}
use Rattle.replay_list.specs.Laws.{IsListOf}
use Rattle.replay_list.specs.Lines.{files_after, path_at}
use Rattle.replay_list.specs.Text.{IsHeld}
use Rattle.areas_alone.specs.Alone.{areas_of}
use Rattle.replay_areas.specs.Listing.{areas_listed, label_in, label_path, listed_by}

-- what a list has at a path
abbrev pub listed_at : List Listed → PathValue → Option Listed
listed_at [] path = None
listed_at (one ∷ more) path = if path_eq path (path_at one) then Some one else listed_at more path

-- A list tells of each path at or below an area whether something stands there, and then of which kind and size, and nothing is wrong with
-- that; and of the label whether a file stands there, and of which size.
pub record TellsAreas (c : Contents) (root : PathValue) (listed : List Listed) : Type 0 where
  pub areas : (name : List ℕ) (more : List (List ℕ)) → is_area name ≡ true → listed_at listed (below root (name ∷ more))
      ≡ option_map (listed_by (is_some (relation_of (path_of false (name ∷ more)))) (below root (name ∷ more))) (kind_there (entry_at c (below root (name ∷ more))))
  pub sound : (name : List ℕ) (more : List (List ℕ)) → is_area name ≡ true → IsSound (path_of false (name ∷ more)) (entry_at c (below root (name ∷ more)))
  pub label : listed_at listed (label_path root) ≡ label_in c root

-- what is listed of a cluster tells just that, where the paths there are of proper parts
abbrev pub ListsTellAreas : Type 0
ListsTellAreas = (c : Contents) (root : PathValue) (listed : List Listed) → areas_listed c root ≡ Ok listed → HasParts (areas_of c root) root → TellsAreas c root listed

-- and is a list below the root, where a program holds it
abbrev pub AreasAreLists : Type 0
AreasAreLists = (c : Contents) (root : PathValue) (listed : List Listed) → areas_listed c root ≡ Ok listed → HasParts (areas_of c root) root
    → length root.parts ≤ 63 → IsHeld root listed → files_after 0 listed ≤ 2 ^ 64 → IsListOf root listed
