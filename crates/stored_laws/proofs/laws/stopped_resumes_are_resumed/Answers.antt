use Rattle.stored_laws.proofs.AgainLemmas.{stopped-again}
use Rattle.stored_laws.proofs.laws.stopped_resumes_are_resumed.Goals as goal

pub returns : goal.returns
returns g = stopped-again
