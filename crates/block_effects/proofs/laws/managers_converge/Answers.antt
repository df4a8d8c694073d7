use Rattle.block_effects.proofs.LifeLemmas.{converge}
use Rattle.block_effects.proofs.laws.managers_converge.Goals as goal

pub returns : goal.returns
returns c = converge
