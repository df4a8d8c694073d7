-- The part of a tree below a root. Own: "The tree of files".
use Rattle.std.specs.Prelude.{◌≡◌, ℕ, List, Option}
use Rattle.cluster_tree.specs.PathValue.{PathValue, below}
use Rattle.cluster_tree.specs.Contents.{Contents, Entry, entry_at}

-- the tree below a root: what stands at the parts that lead there from the root
abbrev pub tree_below : Contents → PathValue → List (List ℕ) → Option Entry
tree_below c root parts = entry_at c (below root parts)

-- the same tree below two roots
abbrev pub SameTree : (first second : List (List ℕ) → Option Entry) → Type 0
SameTree first second = (parts : List (List ℕ)) → first parts ≡ second parts
