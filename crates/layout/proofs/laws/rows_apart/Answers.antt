use Rattle.layout.proofs.OrderLemmas.{are_apart}
use Rattle.layout.proofs.laws.rows_apart.Goals as goal

pub returns : goal.returns
returns g c = λ rows end ascends. are_apart rows end ascends
