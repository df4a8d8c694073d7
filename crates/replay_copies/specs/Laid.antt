-- The mark of a replay that can be started again, and the copies of files below it. Own: "The shadows of a replay", "A mark that holds its plan".
use Rattle.std.specs.Prelude.{◌≡◌, ◌⊎◌, ℕ, ◌<◌, Bool, true, false, ◌||◌, List, [], ◌∷◌, codes, None, Some, is_some}
use Rattle.std.specs.List.{All}
use Rattle.cluster_tree.specs.Apart.{is_held}
use Rattle.cluster_tree.specs.Contents.{Contents, FileEntry, FolderEntry, entry_at, is_file, is_folder}
use Rattle.cluster_tree.specs.Marks.{marks_of}
use Rattle.cluster_tree.specs.PathOrder.{path_eq}
use Rattle.cluster_tree.specs.PathValue.{PathValue}
use Rattle.cluster_tree.specs.Tree.{bytes_at}
use Rattle.gated_marks.specs.Gates.{IsComplete, whole_mark}
use Rattle.replay_list.specs.Laws.{IsListOf}
use Rattle.replay_list.specs.Lines.{files_after, files_behind}
use Rattle.replay_list.specs.Text.{list_text}
use Rattle.replay_list.specs.declared.listed.Listed.{Listed}
use Rattle.replay_list.specs.declared.listed.Listed.TheVariants.{Folder, Page, File}
use Rattle.stored_replay.specs.Shadows.{is_sized, shadow_at, shadow_folder}

-- the head of the mark: its version, and two gates that are shut
abbrev pub mark_head : List ℕ
mark_head = codes "pg_walreplay 2\n--\n"

-- the first gate: behind it stand the list and the copies, whole
abbrev pub whole_gate : ℕ
whole_gate = 15

-- a file of these bytes holds no whole list
abbrev pub IsShut : List ℕ → Type 0
IsShut bytes = IsComplete mark_head whole_gate bytes → ⊥

-- the mark at a root
abbrev pub mark_of : PathValue → PathValue
mark_of root = (marks_of root).replay

-- whether a path is the mark, or the folder of copies or below it
abbrev pub is_laid_at : PathValue → PathValue → Bool
is_laid_at root path = path_eq path (mark_of root) || is_held (shadow_folder root) path

-- all else is as it was
abbrev pub SameElsewhere : PathValue → (old new : Contents) → Type 0
SameElsewhere root old new = (path : PathValue) → is_laid_at root path ≡ false → entry_at new path ≡ entry_at old path

-- what is listed as a file of no main fork is one, of the size that is listed
abbrev pub IsFound : Contents → Listed → Type 0
IsFound c (Folder path) = Unit {0}
IsFound c (Page path size) = Unit {0}
IsFound c (File path size) = is_sized size (entry_at c path) ≡ true

-- the contents from which the mark and the copies are laid: the root is a folder, and where the mark is to stand is nothing, or a file that
-- holds no whole list
pub record IsReady (root : PathValue) (listed : List Listed) (c : Contents) : Type 0 where
  pub list : IsListOf root listed
  pub found : All (IsFound c) listed
  pub rooted : is_folder (entry_at c root) ≡ true
  pub mark : (is_file (entry_at c (mark_of root)) ≡ true) ⊎ (entry_at c (mark_of root) ≡ None)
  pub shut : IsShut (bytes_at c (mark_of root))

-- the copy of a listed file of no main fork, before which so many such files are listed, is what stood at its path
abbrev pub IsCopied : PathValue → (old new : Contents) → (files : ℕ) → Listed → Type 0
IsCopied root old new files (Folder path) = Unit {0}
IsCopied root old new files (Page path size) = Unit {0}
IsCopied root old new files (File path size) = entry_at new (shadow_at root files) ≡ entry_at old path

-- .. and so is each
abbrev pub AreCopied : PathValue → (old new : Contents) → (files : ℕ) → List Listed → Type 0
AreCopied root old new files [] = Unit {0}
AreCopied root old new files (one ∷ more) = IsCopied root old new files one × AreCopied root old new (files_behind files one) more

-- a path of a copy: there are so many
abbrev pub IsCopy : PathValue → (count : ℕ) → PathValue → Type 0
IsCopy root count path = (number : ℕ) × (number < count) × (path ≡ shadow_at root number)

-- the folder of copies holds those of all listed files of no main fork, and nothing else
pub record HasCopies (root : PathValue) (listed : List Listed) (old new : Contents) : Type 0 where
  pub folder : entry_at new (shadow_folder root) ≡ Some (FolderEntry false)
  pub copied : AreCopied root old new 0 listed
  pub only : (path : PathValue) → is_held (shadow_folder root) path ≡ true → is_some (entry_at new path) ≡ true → (path ≡ shadow_folder root) ⊎ IsCopy root (files_after 0 listed) path

-- the mark stands whole over the list, the copies are there, and all else is as it was
pub record IsLaid (root : PathValue) (listed : List Listed) (old new : Contents) : Type 0 where
  pub mark : entry_at new (mark_of root) ≡ Some (FileEntry (whole_mark mark_head whole_gate (list_text root listed)))
  pub copies : HasCopies root listed old new
  pub elsewhere : SameElsewhere root old new
