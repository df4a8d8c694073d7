use Rattle.reset_cleanup.proofs.TruthLemmas.{marked-refused}
use Rattle.reset_cleanup.proofs.laws.reset_laws.Goals as goal

pub returns : goal.returns
returns c = marked-refused
