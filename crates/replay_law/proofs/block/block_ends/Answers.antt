use Rattle.replay_law.proofs.BlockLaw.{ends}
use Rattle.replay_law.proofs.block.block_ends.Goals as goal

pub returns : goal.returns
returns c = ends
