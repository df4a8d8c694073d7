use Rattle.pair_laws.proofs.EndLemmas.{pairs-end}
use Rattle.pair_laws.proofs.ends.pairs_end_the_same.Goals as goal

pub returns : goal.returns
returns g = pairs-end
