use Rattle.plain_restarts.proofs.KindLemmas.{begun-kinds}
use Rattle.plain_restarts.proofs.laws.begun_has_kinds.Goals as goal

pub returns : goal.returns
returns g = λ custom root s listed c d begun. begun-kinds custom root s listed c d begun
