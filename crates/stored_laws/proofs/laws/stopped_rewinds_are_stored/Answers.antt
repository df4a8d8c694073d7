use Rattle.stored_laws.proofs.StoredLemmas.{stopped-stored}
use Rattle.stored_laws.proofs.laws.stopped_rewinds_are_stored.Goals as goal

pub returns : goal.returns
returns g = stopped-stored
