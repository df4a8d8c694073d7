use Rattle.pair_laws.proofs.CompareLemmas.{pairs-compare}
use Rattle.pair_laws.proofs.compared.pairs_compare_the_same.Goals as goal

pub returns : goal.returns
returns g = pairs-compare
