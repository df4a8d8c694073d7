-- What is brought back of what is listed. Own: "What a replay brings back".
use Rattle.std.specs.Prelude.{◌≡◌, ◌≢◌, ◌⊎◌, ℕ, ◌<◌, Bool, not, ◌||◌, nat_le, length, true, false, List, [], ◌∷◌, take, Option, None, Some, if◌then◌else◌}
use Rattle.std.specs.FinMap.{insert}
use Rattle.std.specs.List.{list_any}
use Rattle.cluster_tree.specs.Contents.{Contents, Entry, FolderEntry, FileEntry, LinkEntry, entry_at, is_folder, parent}
use Rattle.cluster_tree.specs.PathOrder.{path_eq}
use Rattle.cluster_tree.specs.PathValue.{PathValue}
use Rattle.cluster_tree.specs.Tree.{bytes_at}
use Rattle.file_edits.specs.Edits.{padded}
use Rattle.file_edits.specs.Sparing.{Piece}
use Rattle.replay_list.specs.Lines.{files_behind, path_at}
use Rattle.replay_list.specs.declared.listed.Listed.{Listed}
use Rattle.replay_list.specs.declared.listed.Listed.TheVariants.{Folder, Page, File}
use Rattle.stored_replay.specs.Shadows.{is_sized, shadow_at}

-- bytes cut to a size, or with zeros behind them up to it
abbrev pub resized : ℕ → List ℕ → List ℕ
resized size bytes = padded size (take size bytes)

-- what is brought back of what is listed, before which so many files are: a folder, the bytes of the copy, or of a file of a main
-- fork those that stood there, of the listed size
abbrev pub brought : Contents → PathValue → (files : ℕ) → Listed → Entry
brought c root files (Folder path) = FolderEntry false
brought c root files (Page path size) = FileEntry (resized size (bytes_at c path))
brought c root files (File path size) = FileEntry (bytes_at c (shadow_at root files))

-- what is brought back at a path, if it is listed
abbrev pub brought_at : Contents → PathValue → (files : ℕ) → List Listed → PathValue → Option Entry
brought_at c root files [] path = None
brought_at c root files (one ∷ more) path =
    if path_eq path (path_at one) then Some (brought c root files one) else brought_at c root (files_behind files one) more path

-- the contents with it
abbrev pub with_one : PathValue → (files : ℕ) → Listed → Contents → Contents
with_one root files one c = insert c (path_at one) (brought c root files one)

-- .. and with each, one after another
unfoldable pub with_all : PathValue → (files : ℕ) → List Listed → Contents → Contents
with_all root files [] c = c
with_all root files (one ∷ more) c = with_all root (files_behind files one) more (with_one root files one c)

-- nothing stands there, or a folder of sound names
abbrev pub FitsFolder : Option Entry → Type 0
FitsFolder o = (o ≡ None) ⊎ (o ≡ Some (FolderEntry false))

-- nothing stands there, or a file
abbrev pub FitsFile : Option Entry → Type 0
FitsFile None = Unit {0}
FitsFile (Some (FolderEntry bad)) = ⊥
FitsFile (Some (FileEntry bytes)) = Unit {0}
FitsFile (Some LinkEntry) = ⊥

-- what stands there is of the listed kind, or nothing
abbrev pub Fits : Listed → Option Entry → Type 0
Fits (Folder path) o = FitsFolder o
Fits (Page path size) o = FitsFile o
Fits (File path size) o = FitsFile o

-- the copy is there, of the listed size, at another path
abbrev pub HasCopy : Contents → PathValue → (files : ℕ) → Listed → Type 0
HasCopy c root files (Folder path) = Unit {0}
HasCopy c root files (Page path size) = Unit {0}
HasCopy c root files (File path size) = (is_sized size (entry_at c (shadow_at root files)) ≡ true) × (shadow_at root files ≢ path)

-- it can be brought back
pub record CanBring (root : PathValue) (files : ℕ) (one : Listed) (c : Contents) : Type 0 where
  pub some : 0 < length (path_at one).parts
  pub above : is_folder (entry_at c (parent (path_at one))) ≡ true
  pub fits : Fits one (entry_at c (path_at one))
  pub copy : HasCopy c root files one

-- .. and each, one after another
unfoldable pub CanBringAll : PathValue → (files : ℕ) → List Listed → Contents → Type 0
CanBringAll root files [] c = Unit {0}
CanBringAll root files (one ∷ more) c = CanBring root files one c × CanBringAll root (files_behind files one) more (with_one root files one c)

-- a path is one of a list
abbrev pub has_path : List Listed → PathValue → Bool
has_path listed path = list_any (λ one. path_eq path (path_at one)) listed

-- a piece of a file that stays when what is listed is brought back: of a file of a main fork up to its listed size
abbrev pub is_spared : Piece → Listed → Bool
is_spared piece (Folder path) = true
is_spared piece (Page path size) = not (path_eq piece.path path) || nat_le piece.to size
is_spared piece (File path size) = not (path_eq piece.path path)
