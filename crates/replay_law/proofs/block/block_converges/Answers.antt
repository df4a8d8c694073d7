use Rattle.replay_law.proofs.BlockLaw.{alike}
use Rattle.replay_law.proofs.block.block_converges.Goals as goal

pub returns : goal.returns
returns c = alike
