use Rattle.replay_core.proofs.StopLemmas.{mark-refused}
use Rattle.replay_core.proofs.laws.mark_laws.Goals as goal

pub returns : goal.returns
returns c = record { refused = mark-refused }
