-- The files of a folder by their names. Own: "Segments are files".
use Rattle.std.specs.Prelude.{ℕ, List, [], ◌∷◌, Option, Some, None}
use Rattle.cluster_tree.specs.PathValue.{PathValue, below}
use Rattle.cluster_tree.specs.Contents.{Entry, FolderEntry, FileEntry, LinkEntry, Contents, entry_at}

-- the bytes of each file, by its name
abbrev pub Folder : Type 0
Folder = List ℕ → Option (List ℕ)

-- the bytes of an entry that is a file
abbrev pub file_in : Option Entry → Option (List ℕ)
file_in None = None
file_in (Some (FolderEntry _)) = None
file_in (Some (FileEntry bytes)) = Some bytes
file_in (Some LinkEntry) = None

-- the files right in the folder at a path
abbrev pub folder_of : Contents → PathValue → Folder
folder_of c path name = file_in (entry_at c (below path (name ∷ [])))
