use Rattle.replay_laws.proofs.ConvergeLemmas.{blocks-converge}
use Rattle.replay_laws.proofs.converging.blocks_converge.Goals as goal

pub returns : goal.returns
returns c = blocks-converge
