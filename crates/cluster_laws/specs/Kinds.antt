-- What stands where in a cluster, as servers leave it: PostgreSQL 16 manual, section "Database File Layout". Own: "Entries of a wrong kind".
use Rattle.std.specs.Prelude.{◌≡◌, ℕ, ◌≤◌, true, false, ◌||◌, List, [], ◌∷◌, length, codes, bytes_eq, Option, None, Some, if◌then◌else◌}
use Rattle.cluster_tree.specs.Contents.{Contents, Entry, FolderEntry, FileEntry, LinkEntry, entry_at, is_folder}
use Rattle.cluster_tree.specs.PathValue.{PathValue, below}

-- a folder of names that are UTF-8, or nothing; a file, or nothing; or whatever
pub data Place : Type 0 where
  FolderPlace : Place
  FilePlace : Place
  AnyPlace : Place

-- in a database's folder lie files alone; temporary files may have folders of their own
abbrev pub in_database : (folder : List ℕ) → Place
in_database folder = if bytes_eq folder (codes "pgsql_tmp") then AnyPlace else FilePlace

-- pg_multixact has two folders of files
abbrev pub in_multixact : (name : List ℕ) → Place → Place
in_multixact name place = if bytes_eq name (codes "offsets") || bytes_eq name (codes "members") then place else AnyPlace

abbrev pub top_place : (name : List ℕ) → Place
top_place name =
    if bytes_eq name (codes "base") || bytes_eq name (codes "global") || bytes_eq name (codes "pg_xact") || bytes_eq name (codes "pg_multixact") then FolderPlace else AnyPlace

abbrev pub second_place : (first name : List ℕ) → Place
second_place first name =
    if bytes_eq first (codes "base") then FolderPlace
    else if bytes_eq first (codes "global") then FilePlace
    else if bytes_eq first (codes "pg_xact") then FilePlace
    else if bytes_eq first (codes "pg_multixact") then in_multixact name FolderPlace
    else AnyPlace

abbrev pub third_place : (first second : List ℕ) → Place
third_place first second =
    if bytes_eq first (codes "base") then in_database second
    else if bytes_eq first (codes "pg_multixact") then in_multixact second FilePlace
    else AnyPlace

-- by the parts from the root on
abbrev pub place_of : List (List ℕ) → Place
place_of [] = FolderPlace
place_of (first ∷ []) = top_place first
place_of (first ∷ second ∷ []) = second_place first second
place_of (first ∷ second ∷ third ∷ []) = third_place first second
place_of (first ∷ second ∷ third ∷ fourth ∷ parts) = AnyPlace

abbrev pub IsAt : Place → Option Entry → Type 0
IsAt FolderPlace None = Unit {0}
IsAt FolderPlace (Some (FolderEntry bad)) = bad ≡ false
IsAt FolderPlace (Some (FileEntry bytes)) = ⊥
IsAt FolderPlace (Some LinkEntry) = ⊥
IsAt FilePlace None = Unit {0}
IsAt FilePlace (Some (FolderEntry bad)) = ⊥
IsAt FilePlace (Some (FileEntry bytes)) = Unit {0}
IsAt FilePlace (Some LinkEntry) = ⊥
IsAt AnyPlace o = Unit {0}

-- a cluster in which each entry is of the kind of its place, with room below its root
pub record HasKinds (root : PathValue) (c : Contents) : Type 0 where
  pub room : length root.parts ≤ 61
  pub there : is_folder (entry_at c root) ≡ true
  pub kinds : (parts : List (List ℕ)) → IsAt (place_of parts) (entry_at c (below root parts))
