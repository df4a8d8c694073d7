use Rattle.cluster_tree.proofs.ChangeLemmas.{changed-pointwise, changed-elsewhere, changed-in_turn}
use Rattle.cluster_tree.proofs.laws.change_laws.Goals as goal

pub returns-clause-pointwise : goal.returns-clause-pointwise
returns-clause-pointwise c = changed-pointwise

pub returns-clause-elsewhere : goal.returns-clause-elsewhere
returns-clause-elsewhere c = changed-elsewhere

pub returns-clause-in_turn : goal.returns-clause-in_turn
returns-clause-in_turn c = changed-in_turn
