use Rattle.pair_laws.proofs.PairLemmas.{pairs-grew}
use Rattle.pair_laws.proofs.grew.pairs_grew_from_one_state.Goals as goal

pub returns : goal.returns
returns g = pairs-grew
