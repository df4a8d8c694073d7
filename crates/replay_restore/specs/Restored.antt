-- What stands once the paths of a list are brought back, and what is known before. Own: "What a replay brings back".
use Rattle.std.specs.Prelude.{◌≡◌, true, false, List, [], None}
use Rattle.cluster_tree.specs.Contents.{Contents, entry_at, is_folder}
use Rattle.cluster_tree.specs.PathValue.{PathValue}
use Rattle.replay_list.specs.Laws.{IsListOf}
use Rattle.replay_list.specs.declared.listed.Listed.{Listed}
use Rattle.replay_restore.specs.Filled.{brought_at}
use Rattle.replay_restore.specs.Freed.{label_path}
use Rattle.replay_restore.specs.Listing.{has_file, is_closed, is_restored_at}
use Rattle.stored_replay.specs.Shadows.{first_lost}

-- a list below the root that has the label, the folders of its paths before them, all copies there, and the root a folder
pub record CanRestore (root : PathValue) (listed : List Listed) (c : Contents) : Type 0 where
  pub list : IsListOf root listed
  pub closed : is_closed root [] listed ≡ true
  pub label : has_file listed (label_path root) ≡ true
  pub copies : first_lost c root 0 listed ≡ None
  pub rooted : is_folder (entry_at c root) ≡ true

-- at or below the areas and the label stands what is listed, and nothing else; all other paths have what they had
pub record IsRestored (root : PathValue) (listed : List Listed) (old new : Contents) : Type 0 where
  pub restored : (path : PathValue) → is_restored_at root path ≡ true → entry_at new path ≡ brought_at old root 0 listed path
  pub elsewhere : (path : PathValue) → is_restored_at root path ≡ false → entry_at new path ≡ entry_at old path
