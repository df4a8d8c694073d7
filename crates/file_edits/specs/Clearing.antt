-- A folder that is removed with all that it holds: its entries in the order of their names, what an entry holds before it.
-- Own: "Entries of a wrong kind".
use Rattle.std.specs.Prelude.{ℕ, zero, suc, ◌-◌, Bool, true, false, if◌then◌else◌, List, [], ◌∷◌, length, Option, None, Some, Result, Ok, Err}
use Rattle.std.specs.FinMap.{remove}
use Rattle.cluster_tree.specs.PathValue.{PathValue, below}
use Rattle.cluster_tree.specs.Contents.{Contents, Entry, FolderEntry, FileEntry, LinkEntry, entry_at}
use Rattle.cluster_tree.specs.Causes.{given}
use Rattle.cluster_tree.specs.declared.file_fault.FileFault.{FileFault}
use Rattle.cluster_tree.specs.declared.file_fault.FileFault.TheVariants as fault
use Rattle.file_edits.specs.Asking.{folder_asked, names_asked}
use Rattle.file_edits.specs.Edits.{file_removed}

-- whether an entry that is to go is a folder
abbrev pub full_asked : PathValue → Option Entry → Result Bool FileFault
full_asked path None = Ok false
full_asked path (Some (FolderEntry _)) = Ok true
full_asked path (Some (FileEntry _)) = Ok false
full_asked path (Some LinkEntry) = Err (fault.Link path)

-- what is done with each of some names, in turn
unfoldable pub in_turn : (List ℕ → Contents → Result Contents FileFault) → List (List ℕ) → Contents → Result Contents FileFault
in_turn step [] c = Ok c
in_turn step (name ∷ names) c = given (step name c) (in_turn step names)

-- a folder without what its names lead to, and then without itself
abbrev pub emptied : (List ℕ → Contents → Result Contents FileFault) → PathValue → List (List ℕ) → Contents → Result Contents FileFault
emptied step folder names c = given (in_turn step names c) (λ d. Ok (remove d folder))

abbrev pub cleared_by : (List ℕ → Contents → Result Contents FileFault) → PathValue → Contents → Result Contents FileFault
cleared_by step folder c = given (names_asked c folder (entry_at c folder)) (λ names. emptied step folder names c)

-- an entry of a folder with all that it holds, where paths below the folder may have so many parts more than it
unfoldable pub entry_cleared : (deeper : ℕ) → PathValue → List ℕ → Contents → Result Contents FileFault
entry_cleared zero folder name c = Err (fault.TooDeep folder)
entry_cleared (suc deeper) folder name c =
    given (full_asked (below folder (name ∷ [])) (entry_at c (below folder (name ∷ []))))
    (λ full. if full then cleared_by (entry_cleared deeper (below folder (name ∷ []))) (below folder (name ∷ [])) c else file_removed (below folder (name ∷ [])) c)

-- a folder with all that it holds; a path has at most 64 parts
abbrev pub folder_cleared : (deeper : ℕ) → PathValue → Contents → Result Contents FileFault
folder_cleared deeper folder c = cleared_by (entry_cleared deeper folder) folder c

-- nothing at a path, nor below it
unfoldable pub tree_removed : PathValue → Contents → Result Contents FileFault
tree_removed path c = given (folder_asked path (entry_at c path)) (λ there. if there then folder_cleared (64 - length path.parts) path c else Ok c)
