use Rattle.stopped_restarts.proofs.RefusedLemmas.{refused-as_one}
use Rattle.stopped_restarts.proofs.laws.refused_as_one.Goals as goal

pub returns : goal.returns
returns g = λ custom sound root s listed c d x e begun served stopped why. refused-as_one custom sound root s listed c d x begun served stopped e why
