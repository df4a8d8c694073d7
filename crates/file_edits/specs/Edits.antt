-- Files that are edited, cut and removed, and the folders on the way to them. Own: "Folders on the way", "Edits of files say where they go".
use Rattle.std.specs.Prelude.{ℕ, zero, suc, ◌+◌, ◌-◌, Bool, true, false, ◌||◌, List, ◌++◌, length, take, replicate, Option, None, Some, Result, Ok}
use Rattle.std.specs.FinMap.{insert, remove}
use Rattle.layout.specs.Splice.{splice}
use Rattle.cluster_tree.specs.PathValue.{PathValue, front}
use Rattle.cluster_tree.specs.PathOrder.{path_eq}
use Rattle.cluster_tree.specs.Contents.{Contents, FileEntry, FolderEntry, entry_at}
use Rattle.cluster_tree.specs.Tree.{bytes_at}
use Rattle.cluster_tree.specs.Causes.{given, unless}
use Rattle.cluster_tree.specs.declared.file_fault.FileFault.{FileFault}
use Rattle.file_edits.specs.Asking.{file_asked, folder_asked, root_refusal}

-- a folder, made where nothing stood
abbrev pub folder_left : Contents → PathValue → Bool → Contents
folder_left c path true = c
folder_left c path false = insert c path (FolderEntry false)

unfoldable pub folder_made : PathValue → Contents → Result Contents FileFault
folder_made path c = given (folder_asked path (entry_at c path)) (λ there. Ok (folder_left c path there))

-- the folders on the way to a path, so many from the one of so many parts on, each made where nothing stood
unfoldable pub folders_made : (count parts : ℕ) → PathValue → Contents → Result Contents FileFault
folders_made zero parts path c = Ok c
folders_made (suc count) parts path c = given (folder_made (front parts path) c) (folders_made count (parts + 1) path)

-- how many folders lie between a root and a path below it
abbrev pub folders_between : PathValue → PathValue → ℕ
folders_between root path = length path.parts - (length root.parts + 1)

-- the folders between a root, which has to be there, and a path below it, each made where nothing stood
unfoldable pub way_made : PathValue → PathValue → Contents → Result Contents FileFault
way_made root path c = unless (root_refusal root (entry_at c root)) (folders_made (folders_between root path) (length root.parts + 1) path c)

-- the folders on the way to a file are made where it isn't there
abbrev pub way_for : PathValue → PathValue → Contents → Option (List ℕ) → Result Contents FileFault
way_for root path c (Some bytes) = Ok c
way_for root path c None = way_made root path c

-- the file at a path as an edit makes it of its bytes, none where there was no file
abbrev pub edited : PathValue → (List ℕ → List ℕ) → Contents → Contents
edited path edit c = insert c path (FileEntry (edit (bytes_at c path)))

-- a file below a root as an edit makes it, the file and the folders on its way made where nothing stood
unfoldable pub file_edited : PathValue → PathValue → (List ℕ → List ℕ) → Contents → Result Contents FileFault
file_edited root path edit c = given (given (file_asked path (entry_at c path)) (way_for root path c)) (λ d. Ok (edited path edit d))

-- bytes with zeros behind them up to a size, where they are fewer
abbrev pub padded : ℕ → List ℕ → List ℕ
padded size bytes = bytes ++ replicate (size - length bytes) 0

-- bytes laid over others that are padded to a size first
abbrev pub laid : ℕ → ℕ → List ℕ → List ℕ → List ℕ
laid size at bytes old = splice (padded size old) at bytes

-- no file at a path
abbrev pub without : PathValue → Contents → Option (List ℕ) → Result Contents FileFault
without path c None = Ok c
without path c (Some bytes) = Ok (remove c path)

unfoldable pub file_removed : PathValue → Contents → Result Contents FileFault
file_removed path c = given (file_asked path (entry_at c path)) (without path c)

-- a file cut to a size in bytes where it is longer
abbrev pub cut_to : PathValue → ℕ → Contents → Option (List ℕ) → Result Contents FileFault
cut_to path size c None = Ok c
cut_to path size c (Some bytes) = Ok (insert c path (FileEntry (take size bytes)))

unfoldable pub file_cut : PathValue → ℕ → Contents → Result Contents FileFault
file_cut path size c = given (file_asked path (entry_at c path)) (cut_to path size c)

-- whether a path is one of the folders on the way to another, so many from the one of so many parts on, or that path itself
unfoldable pub leads : (count parts : ℕ) → PathValue → PathValue → Bool
leads zero parts path q = path_eq q path
leads (suc count) parts path q = path_eq q (front parts path) || leads count (parts + 1) path q

-- whether a path lies on the way from a root to a path below it, or is that path
abbrev pub on_way : PathValue → PathValue → PathValue → Bool
on_way root path = leads (folders_between root path) (length root.parts + 1) path
