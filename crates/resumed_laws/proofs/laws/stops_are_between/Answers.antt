use Rattle.resumed_laws.proofs.StopLemmas.{stops-between}
use Rattle.resumed_laws.proofs.laws.stops_are_between.Goals as goal

pub returns : goal.returns
returns g = λ found c i plan sound stop. stops-between found c plan sound i stop
