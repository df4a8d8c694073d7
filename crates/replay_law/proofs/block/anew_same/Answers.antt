use Rattle.replay_law.proofs.Anew.{anew_same}
use Rattle.replay_law.proofs.block.anew_same.Goals as goal

pub returns : goal.returns
returns c = anew_same
