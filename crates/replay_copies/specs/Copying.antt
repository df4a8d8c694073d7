-- Copies that are laid one after another, in a folder that was emptied. Own: "The shadows of a replay".
use Rattle.std.specs.Prelude.{◌≡◌, ◌≢◌, ◌⊎◌, ℕ, ◌<◌, ◌≤◌, ◌^◌, true, false, List, [], ◌∷◌, None, Some, OnOk, Result, IfErr}
use Rattle.std.specs.FinMap.{insert}
use Rattle.std.specs.List.{All}
use Rattle.cluster_tree.specs.Apart.{is_held}
use Rattle.cluster_tree.specs.Contents.{Contents, FileEntry, FolderEntry, entry_at, is_folder}
use Rattle.cluster_tree.specs.PathValue.{PathValue}
use Rattle.cluster_tree.specs.Run.{Moment}
use Rattle.cluster_tree.specs.Stops.{LeavesOnly}
use Rattle.cluster_tree.specs.Tree.{bytes_at}
use Rattle.cluster_tree.specs.declared.file_fault.FileFault.{FileFault}
use Rattle.marked_runs.specs.Moments.{IsBegun, StandsSynced}
use Rattle.replay_list.specs.Lines.{files_after, files_behind}
use Rattle.replay_list.specs.declared.listed.Listed.{Listed}
use Rattle.replay_list.specs.declared.listed.Listed.TheVariants.{Folder, Page, File}
use Rattle.replay_copies.specs.Laid.{IsFound, IsLaid, IsShut, SameElsewhere, mark_of}
use Rattle.replay_copies.specs.Left.{IsBeginLeft, IsKept, LeavesFile}
use Rattle.stored_replay.specs.Shadows.{shadow_at, shadow_folder}

-- the contents with the copy of what is listed, before which so many files are
abbrev pub with_copy : PathValue → (files : ℕ) → Listed → Contents → Contents
with_copy root files (Folder path) c = c
with_copy root files (Page path size) c = c
with_copy root files (File path size) c = insert c (shadow_at root files) (FileEntry (bytes_at c path))

-- .. and of each
unfoldable pub with_copies : PathValue → (files : ℕ) → List Listed → Contents → Contents
with_copies root files [] c = c
with_copies root files (one ∷ more) c = with_copies root (files_behind files one) more (with_copy root files one c)

-- the folder stands, and no copy of this number or a later one
pub record IsOpen (root : PathValue) (files : ℕ) (c : Contents) : Type 0 where
  pub folder : is_folder (entry_at c (shadow_folder root)) ≡ true
  pub free : (number : ℕ) → files ≤ number → number < 2 ^ 64 → entry_at c (shadow_at root number) ≡ None

-- the folder stands, and nothing below it
pub record IsEmptied (root : PathValue) (c : Contents) : Type 0 where
  pub folder : entry_at c (shadow_folder root) ≡ Some (FolderEntry false)
  pub none : (path : PathValue) → is_held (shadow_folder root) path ≡ true → path ≢ shadow_folder root → entry_at c path ≡ None

-- a listed file that is to be copied lies outside the folder
abbrev pub IsOutside : PathValue → Listed → Type 0
IsOutside root (Folder path) = Unit {0}
IsOutside root (Page path size) = Unit {0}
IsOutside root (File path size) = is_held (shadow_folder root) path ≡ false

-- the contents from which the copies are laid
pub record CanCopy (root : PathValue) (listed : List Listed) (c : Contents) : Type 0 where
  pub rooted : is_folder (entry_at c root) ≡ true
  pub found : All (IsFound c) listed
  pub outside : All (IsOutside root) listed
  pub counts : files_after 0 listed ≤ 2 ^ 64

-- what a stop leaves once the mark's head stands synced: all else as it was, and a shut mark, or all that is laid
pub record IsFilling (root : PathValue) (listed : List Listed) (old new : Contents) : Type 0 where
  pub elsewhere : SameElsewhere root old new
  pub bytes : List ℕ
  pub mark : entry_at new (mark_of root) ≡ Some (FileEntry bytes)
  pub told : IsShut bytes ⊎ IsLaid root listed old new

-- all is laid, and synced
pub record StandsLaid (root : PathValue) (listed : List Listed) (c : Contents) (moment : Moment) : Type 0 where
  pub laid : IsLaid root listed c moment.state.contents
  pub synced : StandsSynced moment.state.contents moment

-- from a moment at which the head stands synced: what was done, and what a stop at any moment leaves
pub record Fills (root : PathValue) (listed : List Listed) (c : Contents) (first last : Moment) (result : Result (Unit {0}) FileFault) : Type 0 where
  pub elsewhere : SameElsewhere root c last.state.contents
  pub done : OnOk result (StandsLaid root listed c last)
  pub refused : IfErr result (IsKept root c)
  pub stands : IfErr result (LeavesFile root last.state.contents)
  pub left : LeavesOnly (IsFilling root listed c) first.stops last.stops

-- from the first moment on
pub record Begins (root : PathValue) (listed : List Listed) (first last : Moment) (result : Result (Unit {0}) FileFault) : Type 0 where
  pub elsewhere : SameElsewhere root first.state.contents last.state.contents
  pub done : OnOk result (StandsLaid root listed first.state.contents last)
  pub refused : IfErr result (IsKept root first.state.contents)
  pub stands : IfErr result (LeavesFile root last.state.contents)
  pub left : StandsSynced first.state.contents first → LeavesOnly (IsBeginLeft root listed first.state.contents) first.stops last.stops
  pub marked : LeavesOnly (IsBegun (mark_of root) first) first.stops last.stops
