use Rattle.pair_laws.proofs.PairLemmas.{pair-has_copy}
use Rattle.pair_laws.proofs.grew.pair_has_copy.Goals as goal

pub returns : goal.returns
returns g = pair-has_copy
