-- What follows from the definitions of changes, for callers. Own: "The tree of files".
use Rattle.std.specs.Prelude.{◌≡◌, false, List, ◌++◌, filter, fold}
use Rattle.std.specs.List.{list_any}
use Rattle.cluster_tree.specs.PathValue.{PathValue}
use Rattle.cluster_tree.specs.Contents.{Contents, entry_at}
use Rattle.cluster_tree.specs.Change.{Change, all_changed, is_on, entry_after, IsPart}
use Rattle.cluster_tree.specs.Joined.{joined_writes}
use Rattle.cluster_tree.specs.declared.tree.ChangeCall.{ChangeCall}

-- what stands at a path after changes is what those on it made of what stood there
abbrev pub Pointwise : Type 0
Pointwise = (c : Contents) (changes : List Change) (path : PathValue) → entry_at (all_changed c changes) path ≡ fold entry_after (entry_at c path) (filter (is_on path) changes)

-- and a path that none is on holds what it held
abbrev pub Elsewhere : Type 0
Elsewhere = (c : Contents) (changes : List Change) (path : PathValue) → list_any (is_on path) changes ≡ false → entry_at (all_changed c changes) path ≡ entry_at c path

-- changes in two parts are the one part after the other
abbrev pub ChangedInTurn : Type 0
ChangedInTurn = (c : Contents) (changes more : List Change) → all_changed c (changes ++ more) ≡ all_changed (all_changed c changes) more

-- calls may be joined part by part
abbrev pub JoinedByParts : Type 0
JoinedByParts = (calls more : List ChangeCall) → joined_writes (calls ++ more) ≡ joined_writes (joined_writes calls ++ joined_writes more)

-- the first of some calls are a part of them
abbrev pub FirstArePart : Type 0
FirstArePart = (made rest all : List ChangeCall) → joined_writes (made ++ rest) ≡ all → IsPart (joined_writes made) all
