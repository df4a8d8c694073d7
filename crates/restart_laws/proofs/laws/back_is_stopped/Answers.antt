use Rattle.restart_laws.proofs.StopLemmas.{back-stopped}
use Rattle.restart_laws.proofs.laws.back_is_stopped.Goals as goal

pub returns : goal.returns
returns g = λ custom root s listed c d x b begun stopped restored. back-stopped custom root s listed c d x b begun stopped restored
