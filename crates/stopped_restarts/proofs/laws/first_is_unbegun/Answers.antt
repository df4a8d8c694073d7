use Rattle.stopped_restarts.proofs.CourseLemmas.{first-unbegun}
use Rattle.stopped_restarts.proofs.laws.first_is_unbegun.Goals as goal

pub returns : goal.returns
returns g = λ custom root c first. first-unbegun custom root c first
