use Rattle.resumed_laws.proofs.StopLemmas.{resumed_stops-between}
use Rattle.resumed_laws.proofs.laws.resumed_stops_are_between.Goals as goal

pub returns : goal.returns
returns g = λ found c i d plan sound between stop. resumed_stops-between found c plan sound i d between stop
