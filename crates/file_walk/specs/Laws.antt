-- What follows from the definitions, for callers. Own: "What lies below an excluded path", "Files of relations in a rewind", "The order of a walk".
use Rattle.std.specs.Prelude.{◌≡◌, ◌⊎◌, ◌↔◌, ℕ, ◌<◌, ◌≤◌, ◌+◌, ◌^◌, ◌==◌, true, false, ◌||◌, List, length, Option, None, Some, Ok, is_some}
use Rattle.std.specs.List.{list_any}
use Rattle.cluster_tree.specs.Contents.{Contents, Entry as Standing, FolderEntry, entry_at}
use Rattle.cluster_tree.specs.PathOrder.{path_eq}
use Rattle.cluster_tree.specs.PathValue.{PathValue, below, path_of}
use Rattle.block_refs.specs.declared.names.Fork.TheVariants.{Main}
use Rattle.block_refs.specs.declared.names.RelName.{RelName}
use Rattle.relation_files.specs.Paths.{relation_file}
use Rattle.file_walk.specs.Actions.{here}
use Rattle.file_walk.specs.Excluded.{is_excluded}
use Rattle.file_walk.specs.Listed.{AreInOrder}
use Rattle.file_walk.specs.Pairs.{kind_in, paths_of}
use Rattle.file_walk.specs.Relations.{relation_of}
use Rattle.file_walk.specs.Walk.{HasParts, entry_flaw, kind_there, walk_of}
use Rattle.file_walk.specs.declared.entry.Entry.{Entry}

-- a number from 1 to 2^32 - 1
abbrev pub IsNumber : ℕ → Type 0
IsNumber n = (0 < n) × (n < 2 ^ 32)

-- a shared relation, or one of a database in the default tablespace
abbrev pub IsPlaced : RelName → Type 0
IsPlaced rel = ((rel.space ≡ 1664) × (rel.database ≡ 0)) ⊎ ((rel.space ≡ 1663) × IsNumber rel.database)

-- a segment of a main fork that lies at this path below a root
pub record IsMainFile (path : PathValue) (rel : RelName) (segment : ℕ) : Type 0 where
  pub placed : IsPlaced rel
  pub numbered : IsNumber rel.relation
  pub small : segment < 2 ^ 32
  pub lies : path ≡ relation_file here rel Main segment

-- a path is a main fork's file just where that file lies
abbrev pub RelationsAreFiles : Type 0
RelationsAreFiles = (path : PathValue) (rel : RelName) (segment : ℕ) → (relation_of path ≡ Some (rel, segment)) ↔ IsMainFile path rel segment

-- what lies below an excluded path is excluded too
abbrev pub BelowIsExcluded : Type 0
BelowIsExcluded = (path : PathValue) (parts : List (List ℕ)) → is_excluded path ≡ true → is_excluded (below path parts) ≡ true

-- a walk of a tree is in order
abbrev pub WalksAreInOrder : Type 0
WalksAreInOrder = (c : Contents) (root : PathValue) (entries : List Entry) → walk_of c root ≡ Ok entries → AreInOrder entries

-- a path from a root on, with a part or more
abbrev pub IsOwn : PathValue → Type 0
IsOwn path = (path.absolute ≡ false) × (length path.parts == 0 ≡ false)

-- nothing stands at a path, or what has no flaw
abbrev pub IsSound : PathValue → Option Standing → Type 0
IsSound own None = Unit {0}
IsSound own (Some entry) = entry_flaw own entry ≡ None

-- What a walk tells is what stands: the root is a folder whose names are text; each path told is one from the root on, and not too deep;
-- and where paths are of proper parts, it tells of each the kind of what stands there, which has no flaw.
pub record TellsAll (c : Contents) (root : PathValue) (entries : List Entry) : Type 0 where
  pub folder : entry_at c root ≡ Some (FolderEntry false)
  pub own : (path : PathValue) → is_some (kind_in entries path) ≡ true → IsOwn path × (length root.parts + length path.parts ≤ 64)
  pub kind : HasParts c root → (parts : List (List ℕ)) → length parts == 0 ≡ false → kind_in entries (path_of false parts) ≡ kind_there (entry_at c (below root parts))
  pub sound : HasParts c root → (parts : List (List ℕ)) → length parts == 0 ≡ false → IsSound (path_of false parts) (entry_at c (below root parts))

abbrev pub WalksTellAll : Type 0
WalksTellAll = (c : Contents) (root : PathValue) (entries : List Entry) → walk_of c root ≡ Ok entries → TellsAll c root entries

-- a path is among those of two walks just where either tells it
abbrev pub PathsAreOfEither : Type 0
PathsAreOfEither = (target source : List Entry) (path : PathValue) →
    list_any (path_eq path) (paths_of target source) ≡ (is_some (kind_in target path) || is_some (kind_in source path))
