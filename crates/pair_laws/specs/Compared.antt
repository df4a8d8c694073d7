-- What a comparison finds of a pair that was tried. Own: "A pair from a number", "What a comparison of clusters shows".
use Rattle.std.specs.Prelude.{◌≡◌, ℕ, Ok}
use Rattle.cluster_compare.specs.Compared.{compared}
use Rattle.cluster_compare.specs.declared.compared.Compared.TheVariants.{Same}
use Rattle.cluster_tree.specs.Contents.{Contents}
use Rattle.cluster_tree.specs.PathValue.{PathValue}
use Rattle.replay_core.specs.Replayed.{After}
use Rattle.pair_laws.specs.Ends.{IsTried}
use Rattle.pair_laws.specs.Stands.{HasPair, copy_of, target_of}

-- where a pair was tried so, a comparison of its copy and its target is refused by nothing, and finds no difference
abbrev pub PairsCompareTheSame : Type 0
PairsCompareTheSame = (root : PathValue) (seed blocks : ℕ) (c c' : Contents) (target copy : After) → HasPair root seed blocks c → IsTried root seed blocks c c' target copy
    → compared copy.files (copy_of root) (target_of root) ≡ Ok Same
