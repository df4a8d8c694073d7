use Rattle.plain_restarts.proofs.DoneLemmas.{refused-plainly}
use Rattle.plain_restarts.proofs.laws.refused_plainly.Goals as goal

pub returns : goal.returns
returns g = λ custom root s listed c d x e begun served why. refused-plainly custom root s listed c d x begun served e why
