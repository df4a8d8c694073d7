use Rattle.cluster_tree.proofs.StepLemmas.{step-elsewhere}
use Rattle.cluster_tree.proofs.laws.step_law.Goals as goal

pub returns : goal.returns
returns c = step-elsewhere
