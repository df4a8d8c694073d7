use Rattle.restored_laws.proofs.BackLemmas.{all-back}
use Rattle.restored_laws.proofs.laws.restored_is_back.Goals as goal

pub returns : goal.returns
returns c = all-back
