use Rattle.pair_laws.proofs.EndLemmas.{copy-stays}
use Rattle.pair_laws.proofs.ends.copy_stays.Goals as goal

pub returns : goal.returns
returns g = copy-stays
