-- What follows from the definitions, for callers. Own: "The tree of files".
use Rattle.std.specs.Prelude.{◌≡◌, ◌≢◌, ◌↔◌, ℕ, ◌+◌, true, List, [], ◌∷◌, ◌++◌, length, drop, Option, Some, None, is_some}
use Rattle.std.specs.FinMap.{get, insert, remove}
use Rattle.cluster_tree.specs.PathValue.{PathValue, below, Holds}
use Rattle.cluster_tree.specs.Contents.{Contents, Entry, or_root, entry_at}
use Rattle.cluster_tree.specs.Folders.{has_child, names_in, IsListing}
use Rattle.cluster_tree.specs.Step.{Step}
use Rattle.cluster_tree.specs.Below.{tree_below, SameTree}
use Rattle.cluster_tree.specs.Joined.{joined_writes}
use Rattle.cluster_tree.specs.declared.tree.ChangeCall.{ChangeCall}
use Rattle.cluster_tree.specs.declared.tree.ChangeCall.TheVariants.{Write, Cut, MakeFile, MakeFolder, Remove, Sync}

-- what was put at a path stands there
abbrev pub PutStands : Type 0
PutStands = (c : Contents) (path : PathValue) (entry : Entry) → entry_at (insert c path entry) path ≡ Some entry

-- and every other path holds what it held
abbrev pub PutElsewhere : Type 0
PutElsewhere = (c : Contents) (path other : PathValue) (entry : Entry) → other ≢ path → entry_at (insert c path entry) other ≡ entry_at c other

-- nothing stands at a path that was removed, but for the current folder and the root
abbrev pub RemovedIsGone : Type 0
RemovedIsGone = (c : Contents) (path : PathValue) → entry_at (remove c path) path ≡ or_root path.parts None

-- and every other path holds what it held
abbrev pub RemovedElsewhere : Type 0
RemovedElsewhere = (c : Contents) (path other : PathValue) → other ≢ path → entry_at (remove c path) other ≡ entry_at c other

-- the path that a changing call changes, if any
abbrev pub changed_path : ChangeCall → Option PathValue
changed_path (Write path at n) = Some path
changed_path (Cut path size) = Some path
changed_path (MakeFile path) = Some path
changed_path (MakeFolder path) = Some path
changed_path (Remove path) = Some path
changed_path Sync = None

-- whatever a changing call answered, every other path holds what it held
abbrev pub StepElsewhere : Type 0
StepElsewhere = (call : ChangeCall) (old new : Contents) (other : PathValue) → Step call old new → changed_path call ≢ Some other → entry_at new other ≡ entry_at old other

-- a root holds what lies below it
abbrev pub HoldsBelow : Type 0
HoldsBelow = (root : PathValue) (parts : List (List ℕ)) → Holds root (below root parts)

-- and nothing else
abbrev pub HeldIsBelow : Type 0
HeldIsBelow = (root path : PathValue) → Holds root path → path ≡ below root (drop (length root.parts) path.parts)

-- of two roots that don't hold each other, neither holds what lies below the other
abbrev pub RootsApart : Type 0
RootsApart = (root other : PathValue) (parts : List (List ℕ)) → (Holds root other → ⊥) → (Holds other root → ⊥) → Holds root (below other parts) → ⊥

-- a changing call outside a root leaves the tree below it
abbrev pub StepOutside : Type 0
StepOutside = (call : ChangeCall) (old new : Contents) (root path : PathValue) → Step call old new → changed_path call ≡ Some path → (Holds root path → ⊥) → SameTree (tree_below old root) (tree_below new root)

-- something lies in a folder just where a name in it does
abbrev pub ChildHasName : Type 0
ChildHasName = (c : Contents) (folder : PathValue) → (has_child c folder ≡ true) ↔ ((name : List ℕ) × (is_some (get c (below folder (name ∷ []))) ≡ true))

-- a folder has one listing
abbrev pub ListingIsOne : Type 0
ListingIsOne = (c : Contents) (folder : PathValue) (names others : List (List ℕ)) → IsListing c folder names → IsListing c folder others → names ≡ others

-- which is of its names
abbrev pub NamesAreListing : Type 0
NamesAreListing = (c : Contents) (folder : PathValue) → IsListing c folder (names_in c folder)

-- a write is two, one for the first bytes and one for the rest
abbrev pub CutWritesAreOne : Type 0
CutWritesAreOne = (calls more : List ChangeCall) (path : PathValue) (at n m : ℕ) → joined_writes (calls ++ Write path at n ∷ Write path (at + n) m ∷ more) ≡ joined_writes (calls ++ Write path at (n + m) ∷ more)
