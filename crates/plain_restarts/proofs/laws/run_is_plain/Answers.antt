use Rattle.plain_restarts.proofs.DoneLemmas.{run-plain}
use Rattle.plain_restarts.proofs.laws.run_is_plain.Goals as goal

pub returns : goal.returns
returns g = λ custom root c new told anew left. run-plain custom root c new anew told left
