use Rattle.restart_laws.proofs.AgainLemmas.{ends-as_first}
use Rattle.restart_laws.proofs.BegunLemmas.{beside-back, is-back}
use Rattle.restart_laws.proofs.laws.again_ends_as_first.Goals as goal

pub returns : goal.returns
returns g = λ custom sound root s listed c d x b begun served stopped restored.
    ends-as_first custom sound root s listed c d begun served x b stopped
    (is-back custom root s listed c d begun x b stopped restored) (beside-back custom root s listed c d begun x b stopped restored)
