-- What a tree of files holds: POSIX.1-2017, Base Definitions, "File Hierarchy". Own: "The tree of files".
use Rattle.std.specs.Prelude.{◌≡◌, ℕ, ◌-◌, Bool, true, false, List, [], ◌∷◌, length, Option, None, Some, is_some}
use Rattle.std.specs.Coded.{Coded-set, coded_bool, Π_prop}
use Rattle.std.specs.FinMap.{FinMap, get}
use Rattle.cluster_tree.specs.PathValue.{PathValue, path_cmp, front}

-- A folder tells whether it holds a name that isn't UTF-8. A link stands for every link or special file.
pub data Entry : Type 0 where
  FolderEntry : (has_bad_name : Bool) → Entry
  FileEntry : (bytes : List ℕ) → Entry
  LinkEntry : Entry

-- the entries by their paths, in the order of paths
abbrev pub Contents : Type 0
Contents = FinMap path_cmp Entry

-- the folder that a path lies in
abbrev pub parent : PathValue → PathValue
parent path = front (length path.parts - 1) path

-- the current folder and the root are always folders
abbrev pub or_root : List (List ℕ) → Option Entry → Option Entry
or_root parts (Some entry) = Some entry
or_root [] None = Some (FolderEntry false)
or_root (part ∷ parts) None = None

-- what stands at a path
abbrev pub entry_at : Contents → PathValue → Option Entry
entry_at c path = or_root path.parts (get c path)

-- whether a folder stands there
abbrev pub is_folder : Option Entry → Bool
is_folder None = false
is_folder (Some (FolderEntry _)) = true
is_folder (Some (FileEntry _)) = false
is_folder (Some LinkEntry) = false

-- whether a file stands there
abbrev pub is_file : Option Entry → Bool
is_file None = false
is_file (Some (FolderEntry _)) = false
is_file (Some (FileEntry _)) = true
is_file (Some LinkEntry) = false

-- whatever is there lies in a folder
abbrev pub IsTree : Contents → Type 0
IsTree c = (path : PathValue) → is_some (get c path) ≡ true → is_folder (entry_at c (parent path)) ≡ true

-- that is one fact
pub IsTree-prop : (c : Contents) → IsProp (IsTree c)
IsTree-prop c = Π_prop (λ path. Π_prop (λ _. Coded-set coded_bool _ _))
