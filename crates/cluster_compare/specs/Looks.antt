-- What is looked at of the files at one path in two clusters, and what a look may answer.
use Rattle.std.specs.Prelude.{◌≡◌, ◌≢◌, ℕ, ◌+◌, ◌≤◌, true, false, List, [], ◌∷◌, length, take, drop, Option, Some, is_some}
use Rattle.cluster_tree.specs.Contents.{Contents, LinkEntry, entry_at, is_file}
use Rattle.cluster_tree.specs.PathValue.{PathValue, below}
use Rattle.cluster_tree.specs.Tree.{bytes_at}
use Rattle.cluster_tree.specs.declared.file_fault.FileFault.{FileFault}
use Rattle.cluster_tree.specs.declared.file_fault.FileFault.TheVariants as file
use Rattle.file_walk.specs.Walk.{kind_there}
use Rattle.file_walk.specs.declared.entry.EntryKind.{EntryKind}
use Rattle.file_walk.specs.declared.pair.Pair.{Pair}
use Rattle.cluster_compare.specs.declared.places.FileAt.{FileAt}
use Rattle.cluster_compare.specs.declared.places.Files.{Files}

-- over every tree: a failed read, what the tree contradicted, or want of memory
abbrev pub IsLookFault : FileFault → Type 0
IsLookFault file.ReadFault = Unit {0}
IsLookFault file.WriteFault = ⊥
IsLookFault (file.Link path) = ⊥
IsLookFault (file.NotFolder path) = ⊥
IsLookFault (file.IsFolder path) = ⊥
IsLookFault (file.NameNotText path) = ⊥
IsLookFault (file.TooDeep path) = ⊥
IsLookFault (file.Changed path) = Unit {0}
IsLookFault file.OutOfMemory = Unit {0}

-- so many bytes from an offset on
abbrev pub part_of : (at n : ℕ) → List ℕ → List ℕ
part_of at n bytes = take n (drop at bytes)

-- a file stands there, with so many bytes or more
abbrev pub Reaches : Contents → PathValue → ℕ → Type 0
Reaches c path n = (is_file (entry_at c path) ≡ true) × (n ≤ length (bytes_at c path))

-- the file is there, with its size
abbrev pub IsThere : Contents → FileAt → Type 0
IsThere c found = (is_file (entry_at c found.path) ≡ true) × (length (bytes_at c found.path) ≡ found.size)

abbrev pub AreThere : Contents → Files → Type 0
AreThere c files = IsThere c files.first × IsThere c files.second

-- what a walk has at a path below a root, if anything, is what stands there, and that is no link; the path has at most 64 parts in the tree
pub record IsTold (c : Contents) (root path : PathValue) (kind : Option EntryKind) : Type 0 where
  pub told : kind ≡ kind_there (entry_at c (below root path.parts))
  pub known : entry_at c (below root path.parts) ≢ Some LinkEntry
  pub room : is_some kind ≡ true → length root.parts + length path.parts ≤ 64

-- so it is of both sides of a pair
abbrev pub IsToldPair : Contents → (first second : PathValue) → Pair → Type 0
IsToldPair c first second pair = IsTold c first pair.path pair.target × IsTold c second pair.path pair.source

abbrev pub AreToldPairs : Contents → (first second : PathValue) → List Pair → Type 0
AreToldPairs c first second [] = Unit {0}
AreToldPairs c first second (pair ∷ pairs) = IsToldPair c first second pair × AreToldPairs c first second pairs
