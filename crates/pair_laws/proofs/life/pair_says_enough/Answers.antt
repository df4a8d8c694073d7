use Rattle.pair_laws.proofs.LifeLemmas.{pair-enough}
use Rattle.pair_laws.proofs.life.pair_says_enough.Goals as goal

pub returns : goal.returns
returns g = pair-enough
