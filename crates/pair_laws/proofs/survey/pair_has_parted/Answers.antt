use Rattle.pair_laws.proofs.PairLemmas.{pair-parted}
use Rattle.pair_laws.proofs.survey.pair_has_parted.Goals as goal

pub returns : goal.returns
returns g = pair-parted
