use Rattle.restart_laws.proofs.RunLemmas.{one-run}
use Rattle.restart_laws.proofs.laws.left_is_one_run.Goals as goal

pub returns : goal.returns
returns g = λ custom sound root s listed c d new one count begun own served left run. one-run custom sound root s listed c d new one begun own served left count run
