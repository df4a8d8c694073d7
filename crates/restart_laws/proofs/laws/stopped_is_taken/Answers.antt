use Rattle.restart_laws.proofs.TakenLemmas.{is-taken}
use Rattle.restart_laws.proofs.laws.stopped_is_taken.Goals as goal

pub returns : goal.returns
returns g = λ custom root s listed c d x begun stopped. is-taken custom root s listed c d x begun stopped
