-- What the files of a pair's log hold. Own: "A pair from a number".
use Rattle.std.specs.Prelude.{ℕ}
use Rattle.cluster_tree.specs.Contents.{Contents}
use Rattle.cluster_tree.specs.PathValue.{PathValue}
use Rattle.replay_laws.specs.Log.{HoldsBytes}
use Rattle.pair_laws.specs.Stands.{CopyStands}

-- each file in the folder of the copy's log holds bytes, whatever else the tree holds
abbrev pub CopyLogIsBytes : Type 0
CopyLogIsBytes = (other : PathValue) (seed blocks : ℕ) (d : Contents) → CopyStands other seed blocks d → HoldsBytes d other
