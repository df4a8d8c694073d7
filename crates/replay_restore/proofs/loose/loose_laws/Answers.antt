use Rattle.replay_restore.proofs.LooseLemmas.{unloose_closed}
use Rattle.replay_restore.proofs.loose.loose_laws.Goals as goal

pub returns : goal.returns
returns c = record { closed = unloose_closed }
