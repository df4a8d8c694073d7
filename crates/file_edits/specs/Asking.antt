-- What stands at a path, where a file or a folder is asked for. Own: "Entries of a wrong kind".
use Rattle.std.specs.Prelude.{ℕ, Bool, true, false, List, [], ◌++◌, length, take, drop, replicate, Option, None, Some, Result, Ok, Err}
use Rattle.std.specs.Option.{option_map}
use Rattle.cluster_tree.specs.PathValue.{PathValue}
use Rattle.cluster_tree.specs.Contents.{Contents, Entry, FolderEntry, FileEntry, LinkEntry, entry_at}
use Rattle.cluster_tree.specs.Folders.{names_in}
use Rattle.cluster_tree.specs.Tree.{bytes_at}
use Rattle.cluster_tree.specs.declared.file_fault.FileFault.{FileFault}
use Rattle.cluster_tree.specs.declared.file_fault.FileFault.TheVariants as fault

-- the bytes of the file, none where nothing stands
abbrev pub file_asked : PathValue → Option Entry → Result (Option (List ℕ)) FileFault
file_asked path None = Ok None
file_asked path (Some (FolderEntry _)) = Err (fault.IsFolder path)
file_asked path (Some (FileEntry bytes)) = Ok (Some bytes)
file_asked path (Some LinkEntry) = Err (fault.Link path)

-- whether a folder is there
abbrev pub folder_asked : PathValue → Option Entry → Result Bool FileFault
folder_asked path None = Ok false
folder_asked path (Some (FolderEntry _)) = Ok true
folder_asked path (Some (FileEntry _)) = Err (fault.NotFolder path)
folder_asked path (Some LinkEntry) = Err (fault.Link path)

-- why a root isn't a folder, if so
abbrev pub root_refusal : PathValue → Option Entry → Option FileFault
root_refusal root None = Some (fault.NotFolder root)
root_refusal root (Some (FolderEntry _)) = None
root_refusal root (Some (FileEntry _)) = Some (fault.NotFolder root)
root_refusal root (Some LinkEntry) = Some (fault.Link root)

-- the size of the file in bytes
abbrev pub size_asked : Result (Option (List ℕ)) FileFault → Result (Option ℕ) FileFault
size_asked (Ok found) = Ok (option_map length found)
size_asked (Err e) = Err e

-- so many bytes from an offset on, zeros past the end
abbrev pub filled_from : ℕ → ℕ → List ℕ → List ℕ
filled_from at n bytes = take n (drop at bytes ++ replicate n 0)

-- those of the file at a path, which is empty where nothing stands
abbrev pub read_of : ℕ → ℕ → List ℕ → Result (Option (List ℕ)) FileFault → Result (List ℕ) FileFault
read_of at n bytes (Ok found) = Ok (filled_from at n bytes)
read_of at n bytes (Err e) = Err e

abbrev pub read_asked : Contents → PathValue → ℕ → ℕ → Result (List ℕ) FileFault
read_asked c path at n = read_of at n (bytes_at c path) (file_asked path (entry_at c path))

-- the names in a folder, none where nothing stands
abbrev pub names_asked : Contents → PathValue → Option Entry → Result (List (List ℕ)) FileFault
names_asked c path None = Ok []
names_asked c path (Some (FolderEntry true)) = Err (fault.NameNotText path)
names_asked c path (Some (FolderEntry false)) = Ok (names_in c path)
names_asked c path (Some (FileEntry _)) = Err (fault.NotFolder path)
names_asked c path (Some LinkEntry) = Err (fault.Link path)
