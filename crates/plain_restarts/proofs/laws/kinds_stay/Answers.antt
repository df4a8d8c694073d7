use Rattle.plain_restarts.proofs.KindLemmas.{kinds-stay}
use Rattle.plain_restarts.proofs.laws.kinds_stay.Goals as goal

pub returns : goal.returns
returns g = λ root old new course kinds synced. kinds-stay root old new course kinds synced
