use Rattle.replay_law.proofs.Anew.{without_change}
use Rattle.replay_law.proofs.block.no_change_ends.Goals as goal

pub returns : goal.returns
returns c = without_change
