use Rattle.replay_laws.proofs.ConvergeLemmas.{unchanged-ends}
use Rattle.replay_laws.proofs.converging.unchanged_blocks_end.Goals as goal

pub returns : goal.returns
returns c = unchanged-ends
