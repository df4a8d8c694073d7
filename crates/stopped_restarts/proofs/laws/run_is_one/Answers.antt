use Rattle.stopped_restarts.proofs.OneLemmas.{one-run}
use Rattle.stopped_restarts.proofs.laws.run_is_one.Goals as goal

pub returns : goal.returns
returns g = λ custom sound root c x new told first left done. one-run custom sound root c x new first told left done
