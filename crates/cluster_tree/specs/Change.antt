-- Changing calls with their bytes, carried out one after another. Own: "The tree of files".
use Rattle.std.specs.Prelude.{◌≡◌, ℕ, ◌≤◌, ◌⊎◌, Bool, false, List, [], ◌∷◌, length, take, fold, Option, None, Some}
use Rattle.std.specs.FinMap.{insert, remove}
use Rattle.layout.specs.Splice.{splice}
use Rattle.cluster_tree.specs.PathValue.{PathValue}
use Rattle.cluster_tree.specs.PathOrder.{path_eq}
use Rattle.cluster_tree.specs.Contents.{Contents, Entry, FileEntry, FolderEntry, or_root}
use Rattle.cluster_tree.specs.Tree.{write_refusal, cut_refusal, make_refusal, written, shortened, bytes_in}
use Rattle.cluster_tree.specs.Folders.{remove_refusal}
use Rattle.cluster_tree.specs.declared.tree.TreeFault.{TreeFault}
use Rattle.cluster_tree.specs.declared.tree.ChangeCall.{ChangeCall}
use Rattle.cluster_tree.specs.declared.tree.ChangeCall.TheVariants.{Write, Cut, MakeFile, MakeFolder, Remove, Sync}

-- a changing call, and of a write the bytes themselves
pub data Change : Type 0 where
  Writes : (path : PathValue) (at : ℕ) (bytes : List ℕ) → Change
  Cuts : (path : PathValue) (size : ℕ) → Change
  MakesFile : (path : PathValue) → Change
  MakesFolder : (path : PathValue) → Change
  Removes : (path : PathValue) → Change
  Syncs : Change

-- the call that a tree lists for it
abbrev pub call_of : Change → ChangeCall
call_of (Writes path at bytes) = Write path at (length bytes)
call_of (Cuts path size) = Cut path size
call_of (MakesFile path) = MakeFile path
call_of (MakesFolder path) = MakeFolder path
call_of (Removes path) = Remove path
call_of Syncs = Sync

-- why it is refused, if it is
abbrev pub refusal_of : Contents → Change → Option TreeFault
refusal_of c (Writes path at bytes) = write_refusal c path at
refusal_of c (Cuts path size) = cut_refusal c path size
refusal_of c (MakesFile path) = make_refusal c path
refusal_of c (MakesFolder path) = make_refusal c path
refusal_of c (Removes path) = remove_refusal c path
refusal_of c Syncs = None

-- the contents after it
abbrev pub changed_by : Contents → Change → Contents
changed_by c (Writes path at bytes) = written c path at bytes
changed_by c (Cuts path size) = shortened c path size
changed_by c (MakesFile path) = insert c path (FileEntry [])
changed_by c (MakesFolder path) = insert c path (FolderEntry false)
changed_by c (Removes path) = remove c path
changed_by c Syncs = c

-- the contents after changes, one after another
abbrev pub all_changed : Contents → List Change → Contents
all_changed = fold changed_by

-- a refusal, or else the next one
abbrev pub or_next : Option TreeFault → Option TreeFault → Option TreeFault
or_next (Some refusal) next = Some refusal
or_next None next = next

-- why the first change that is refused in its turn is refused, if one is
abbrev pub first_refusal : Contents → List Change → Option TreeFault
first_refusal c [] = None
first_refusal c (change ∷ changes) = or_next (refusal_of c change) (first_refusal (changed_by c change) changes)

-- whether it changes what stands at this path
abbrev pub is_on : PathValue → Change → Bool
is_on own (Writes path at bytes) = path_eq own path
is_on own (Cuts path size) = path_eq own path
is_on own (MakesFile path) = path_eq own path
is_on own (MakesFolder path) = path_eq own path
is_on own (Removes path) = path_eq own path
is_on own Syncs = false

-- what it leaves at its own path, from what stood there
abbrev pub entry_after : Option Entry → Change → Option Entry
entry_after old (Writes path at bytes) = Some (FileEntry (splice (bytes_in old) at bytes))
entry_after old (Cuts path size) = Some (FileEntry (take size (bytes_in old)))
entry_after old (MakesFile path) = Some (FileEntry [])
entry_after old (MakesFolder path) = Some (FolderEntry false)
entry_after old (Removes path) = or_root path.parts None
entry_after old Syncs = old

-- a write of the first bytes of another
abbrev pub IsFrontOf : ChangeCall → ChangeCall → Type 0
IsFrontOf (Write path at n) (Write next from m) = (path ≡ next) × (at ≡ from) × (n ≤ m)
IsFrontOf call other = ⊥

-- the calls that were made of these, both joined: the last may be the front of a longer write
abbrev pub IsPart : (made all : List ChangeCall) → Type 0
IsPart [] all = Unit {0}
IsPart (call ∷ calls) [] = ⊥
IsPart (call ∷ []) (first ∷ more) = (call ≡ first) ⊎ IsFrontOf call first
IsPart (call ∷ next ∷ calls) (first ∷ more) = (call ≡ first) × IsPart (next ∷ calls) more
