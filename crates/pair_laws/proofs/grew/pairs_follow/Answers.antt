use Rattle.pair_laws.proofs.PairLemmas.{pairs-follow}
use Rattle.pair_laws.proofs.grew.pairs_follow.Goals as goal

pub returns : goal.returns
returns g = pairs-follow
