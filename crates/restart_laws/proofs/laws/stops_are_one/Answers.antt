use Rattle.restart_laws.proofs.StopLemmas.{stops-one}
use Rattle.restart_laws.proofs.laws.stops_are_one.Goals as goal

pub returns : goal.returns
returns g = stops-one
