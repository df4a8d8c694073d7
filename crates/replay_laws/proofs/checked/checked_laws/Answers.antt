use Rattle.replay_laws.proofs.CheckedLemmas.{start-taken}
use Rattle.replay_laws.proofs.checked.checked_laws.Goals as goal

pub returns : goal.returns
returns c = start-taken
