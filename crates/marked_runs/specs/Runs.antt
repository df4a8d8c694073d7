-- Changes that are carried out one after another, and under a mark. Own: "Changes with their bytes", "Changes under a mark".
use Rattle.std.specs.Prelude.{◌≡◌, ℕ, Bool, true, false, List, [], ◌∷◌, ◌++◌, map, Result, Ok, Err}
use Rattle.std.specs.List.{list_any}
use Rattle.cluster_tree.specs.PathValue.{PathValue}
use Rattle.cluster_tree.specs.Contents.{Contents, entry_at}
use Rattle.cluster_tree.specs.Change.{Change, Writes, MakesFile, Removes, Syncs, all_changed, call_of, is_on}
use Rattle.cluster_tree.specs.Joined.{joined_writes}
use Rattle.cluster_tree.specs.declared.tree.ChangeCall.{ChangeCall}

-- These changes were begun in turn: all of them where the call is done, and else the first ones, of the last perhaps a part. However writes were
-- cut, the calls that were made and the rest that was still to come are those of the changes. All that lies elsewhere stays.
pub record Runs (changes : List Change) (calls calls' : List ChangeCall) (c c' : Contents) (done : Bool) : Type 0 where
  pub made : List ChangeCall
  pub grew : calls' ≡ calls ++ made
  pub rest : List ChangeCall
  pub joins : joined_writes (made ++ rest) ≡ joined_writes (map call_of changes)
  pub all : done ≡ true → rest ≡ []
  pub after : done ≡ true → c' ≡ all_changed c changes
  pub elsewhere : (p : PathValue) → list_any (is_on p) changes ≡ false → entry_at c' p ≡ entry_at c p

-- the write of some bytes, and none where there are none
abbrev pub writes_at : PathValue → ℕ → List ℕ → List Change
writes_at path at [] = []
writes_at path at (byte ∷ bytes) = Writes path at (byte ∷ bytes) ∷ []

-- a mark is made and made durable before all else
abbrev pub begun : PathValue → List ℕ → List Change
begun mark text = MakesFile mark ∷ Writes mark 0 text ∷ Syncs ∷ []

-- and removed once all else is durable
abbrev pub ended : PathValue → List Change
ended mark = Syncs ∷ Removes mark ∷ Syncs ∷ []

-- changes under a mark
abbrev pub marked : PathValue → List ℕ → List Change → List Change
marked mark text body = begun mark text ++ body ++ ended mark

-- a call was carried out
abbrev pub is_done : {E : Type 0} → Result (Unit {0}) E → Bool
is_done (Ok u) = true
is_done (Err e) = false
