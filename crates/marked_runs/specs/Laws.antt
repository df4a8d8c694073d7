-- What follows of changes that were carried out, for callers. Own: "Changes with their bytes".
use Rattle.std.specs.Prelude.{◌≡◌, ℕ, ◌+◌, Bool, true, false, List, [], ◌∷◌, ◌++◌, length, map, None}
use Rattle.cluster_tree.specs.PathValue.{PathValue}
use Rattle.cluster_tree.specs.Contents.{Contents}
use Rattle.cluster_tree.specs.Change.{Change, IsPart, Writes, call_of}
use Rattle.cluster_tree.specs.Tree.{write_refusal}
use Rattle.cluster_tree.specs.Joined.{joined_writes}
use Rattle.cluster_tree.specs.declared.tree.ChangeCall.{ChangeCall}
use Rattle.marked_runs.specs.Runs.{Runs}

-- some changes, and then others
abbrev pub RunsThen : Type 0
RunsThen = (xs ys : List Change) (k l m : List ChangeCall) (c d e : Contents) (done : Bool) → Runs xs k l c d true → Runs ys l m d e done → Runs (xs ++ ys) k m c e done

-- changes that broke off, with others still to come
abbrev pub RunsFront : Type 0
RunsFront = (xs ys : List Change) (k l : List ChangeCall) (c d : Contents) → Runs xs k l c d false → Runs (xs ++ ys) k l c d false

-- a write that is made as two
abbrev pub RunsCut : Type 0
RunsCut = (path : PathValue) (at : ℕ) (a b : List ℕ) (k l : List ChangeCall) (c d : Contents) (done : Bool)
    → write_refusal c path at ≡ None → Runs (Writes path at a ∷ Writes path (at + length a) b ∷ []) k l c d done
    → Runs (Writes path at (a ++ b) ∷ []) k l c d done

-- the calls that were made are a part of those of the changes
abbrev pub MadeArePart : Type 0
MadeArePart = (xs : List Change) (k l : List ChangeCall) (c d : Contents) (done : Bool) → Runs xs k l c d done
    → (made : List ChangeCall) × (l ≡ k ++ made) × IsPart (joined_writes made) (joined_writes (map call_of xs))

-- and all of them where they are done
abbrev pub MadeAreAll : Type 0
MadeAreAll = (xs : List Change) (k l : List ChangeCall) (c d : Contents) → Runs xs k l c d true
    → (made : List ChangeCall) × (l ≡ k ++ made) × (joined_writes made ≡ joined_writes (map call_of xs))
