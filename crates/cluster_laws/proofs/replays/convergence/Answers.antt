use Rattle.cluster_laws.proofs.ReplayLemmas.{ends-as}
use Rattle.cluster_laws.proofs.replays.convergence.Goals as goal

pub returns : goal.returns
returns g = λ custom sound base redo c d root other s after both holds passes enough one two ends. ends-as custom sound base redo c d root other s after both holds passes enough one two ends
