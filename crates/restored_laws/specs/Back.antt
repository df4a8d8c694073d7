-- What is brought back of a cluster in which a replay was stopped, beside what stood there before. Own: "What a replay brings back".
use Rattle.std.specs.Prelude.{◌≡◌, ◌⊎◌, ℕ, ◌/◌, true, false, List, length, Some, is_some}
use Rattle.block_refs.specs.declared.names.BlockName.{BlockName}
use Rattle.cluster_tree.specs.Contents.{Contents, FileEntry, IsTree, entry_at, is_file}
use Rattle.cluster_tree.specs.PathValue.{PathValue, below, path_of}
use Rattle.cluster_tree.specs.Tree.{bytes_at}
use Rattle.file_walk.specs.Actions.{here}
use Rattle.file_walk.specs.Relations.{relation_of}
use Rattle.relation_files.specs.Paths.{relation_file}
use Rattle.replay_areas.specs.Laws.{TellsAreas}
use Rattle.replay_areas.specs.Listing.{label_path}
use Rattle.replay_copies.specs.Laid.{AreCopied}
use Rattle.replay_list.specs.Laws.{IsListOf}
use Rattle.replay_list.specs.declared.listed.Listed.{Listed}
use Rattle.replay_restore.specs.Filled.{resized}
use Rattle.replay_restore.specs.Listing.{is_restored_at}

-- the contents that a replay began from: a label stands there, and the list tells of each path that replay may change
pub record IsBegunFrom (root : PathValue) (listed : List Listed) (first : Contents) : Type 0 where
  pub tree : IsTree first
  pub label : is_file (entry_at first (label_path root)) ≡ true
  pub list : IsListOf root listed
  pub tells : TellsAreas first root listed

-- all but what is at or below the areas and the label is as it was
abbrev pub SameBeside : PathValue → (old new : Contents) → Type 0
SameBeside root old new = (path : PathValue) → is_restored_at root path ≡ false → entry_at new path ≡ entry_at old path

-- what a replay that was stopped left of them: the copies of all files of no main fork, and all that it doesn't change
pub record IsLeftOf (root : PathValue) (listed : List Listed) (first left : Contents) : Type 0 where
  pub copied : AreCopied root first left 0 listed
  pub beside : SameBeside root first left

-- the file that holds a block is one of a main fork, by its name
abbrev pub IsInMain : (per_file : ℕ) → BlockName → Type 0
IsInMain per_file name = is_some (relation_of (relation_file here name.rel name.fork (name.block / per_file))) ≡ true

-- a file of a main fork has as many bytes as it had, those that the stop left of it where there are so many
pub record IsResized (root : PathValue) (parts : List (List ℕ)) (first left again : Contents) : Type 0 where
  pub main : is_some (relation_of (path_of false parts)) ≡ true
  pub bytes : List ℕ
  pub had : entry_at first (below root parts) ≡ Some (FileEntry bytes)
  pub has : entry_at again (below root parts) ≡ Some (FileEntry (resized (length bytes) (bytes_at left (below root parts))))

-- at each path below the root stands what stood there, or such a file
abbrev pub IsBack : (root : PathValue) → (first left again : Contents) → Type 0
IsBack root first left again = (parts : List (List ℕ)) → (entry_at again (below root parts) ≡ entry_at first (below root parts)) ⊎ IsResized root parts first left again
