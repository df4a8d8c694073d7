use Rattle.pair_laws.proofs.PairLemmas.{pair-needed}
use Rattle.pair_laws.proofs.survey.pair_is_needed.Goals as goal

pub returns : goal.returns
returns g = pair-needed
