-- Where the changing calls of pair go. Own: "A pair from a number".
use Rattle.std.specs.Prelude.{◌≡◌, List, ◌++◌}
use Rattle.acts.specs.Acts.{AreBelow, IsBelow}
use Rattle.cluster_tree.specs.Contents.{entry_at}
use Rattle.cluster_tree.specs.PathValue.{PathValue}
use Rattle.cluster_tree.specs.Run.{State}
use Rattle.cluster_tree.specs.declared.tree.ChangeCall.{ChangeCall}
use Rattle.cmd_pair.specs.Pair.{places}

-- calls were made between two states, each a sync or of a path that one of the three places holds, and every other path has what it had
pub record StaysInPair (root : PathValue) (old new : State) : Type 0 where
  pub made : List ChangeCall
  pub grew : new.calls ≡ old.calls ++ made
  pub within : AreBelow (places root) made
  pub elsewhere : (path : PathValue) → (IsBelow (places root) path → ⊥) → entry_at new.contents path ≡ entry_at old.contents path
