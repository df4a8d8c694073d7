use Rattle.plain_restarts.proofs.DoneLemmas.{one-plain}
use Rattle.plain_restarts.proofs.laws.one_is_plain.Goals as goal

pub returns : goal.returns
returns g = λ custom root c new told one. one-plain custom root c new told one
