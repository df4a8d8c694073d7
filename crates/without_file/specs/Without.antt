-- A tree of files in which the file at one path isn't seen. Own: "A rewind that is begun anew".
use Rattle.std.specs.Prelude.{ℕ, Bool, true, false, ◌&&◌, [], ◌∷◌, cond, not, List, filter, bytes_eq, Option, None, Result, Ok, Err}
use Rattle.std.specs.FinMap.{remove}
use Rattle.cluster_tree.specs.Contents.{Contents, Entry, entry_at, is_file}
use Rattle.cluster_tree.specs.PathValue.{PathValue, path_of}
use Rattle.cluster_tree.specs.Stops.{Stops}
use Rattle.cluster_tree.specs.declared.tree.ChangeCall.TheVariants.{Cut}
use Rattle.cluster_tree.specs.declared.tree.Kind.{Kind}
use Rattle.cluster_tree.specs.declared.tree.Kind.TheVariants as kind
use Rattle.cluster_tree.specs.declared.tree.TreeFault.{TreeFault}
use Rattle.cluster_tree.specs.declared.tree.TreeFault.TheVariants as fault

-- contents without the file at a path; where no file stands there, as they are
abbrev pub without_file : Contents → PathValue → Contents
without_file c path = cond (is_file (entry_at c path)) (remove c path) c

-- what is seen of an entry, at that path or another
abbrev pub seen : (same : Bool) → Option Entry → Option Entry
seen same o = cond (same && is_file o) None o

-- of its kind
abbrev pub seen_kind : (same : Bool) → Result Kind TreeFault → Result Kind TreeFault
seen_kind true (Ok kind.File) = Ok kind.Absent
seen_kind true (Ok kind.Absent) = Ok kind.Absent
seen_kind true (Ok kind.Folder) = Ok kind.Folder
seen_kind true (Err e) = Err e
seen_kind false found = found

-- whether a refusal tells that a file stands there
abbrev pub tells_file : TreeFault → Bool
tells_file fault.PastEnd = true
tells_file fault.NotFolder = true
tells_file fault.Failed = false
tells_file fault.Absent = false
tells_file fault.IsFolder = false
tells_file fault.Link = false
tells_file fault.NameNotText = false
tells_file fault.Exists = false
tells_file fault.NotEmpty = false
tells_file fault.OutOfMemory = false

-- an answer of a file is none
abbrev pub unseen : {A : Type 0} → (same : Bool) → Result A TreeFault → Result A TreeFault
unseen true (Ok v) = Err fault.Absent
unseen true (Err e) = cond (tells_file e) (Err fault.Absent) (Err e)
unseen false found = found

-- and so is the refusal of a folder's listing where a file stands
abbrev pub unlisted : {A : Type 0} → (same : Bool) → Result A TreeFault → Result A TreeFault
unlisted true (Ok v) = Ok v
unlisted true (Err e) = cond (tells_file e) (Err fault.Absent) (Err e)
unlisted false found = found

-- the names but for one
abbrev pub others : List ℕ → List (List ℕ) → List (List ℕ)
others name names = filter (λ n. not (bytes_eq n name)) names

-- In the place of stops, of which a tree that is only read has none: the contents and the stops of the tree below it, and which reference to that
-- tree it has, by the reference's own name.
abbrev pub all_below : Contents → Stops → (name : ℕ) → Stops
all_below c s name = record { now = record { synced = c; pending = Cut (path_of false []) name ∷ [] }; past = s.now ∷ s.past }
