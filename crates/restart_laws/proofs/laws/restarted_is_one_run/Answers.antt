use Rattle.restart_laws.proofs.RunLemmas.{as-one_run}
use Rattle.restart_laws.proofs.laws.restarted_is_one_run.Goals as goal

pub returns : goal.returns
returns g = λ custom sound root s listed c d x new one count single begun own served stopped done run.
    as-one_run custom sound root s listed c d new one begun own served x count single stopped done run
