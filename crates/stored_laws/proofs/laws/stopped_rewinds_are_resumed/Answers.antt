use Rattle.stored_laws.proofs.ResumeLemmas.{stopped-resumed}
use Rattle.stored_laws.proofs.laws.stopped_rewinds_are_resumed.Goals as goal

pub returns : goal.returns
returns g = stopped-resumed
