use Rattle.pair_laws.proofs.LifeLemmas.{pair-lives}
use Rattle.pair_laws.proofs.life.pair_lives.Goals as goal

pub returns : goal.returns
returns g = pair-lives
