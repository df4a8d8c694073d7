use Rattle.restart_laws.proofs.PlaceLemmas.{beside-wider}
use Rattle.restart_laws.proofs.laws.replay_is_beside.Goals as goal

pub returns : goal.returns
returns c = beside-wider
