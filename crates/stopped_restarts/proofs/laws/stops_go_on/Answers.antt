use Rattle.stopped_restarts.proofs.CourseLemmas.{stops-on}
use Rattle.stopped_restarts.proofs.laws.stops_go_on.Goals as goal

pub returns : goal.returns
returns g = λ custom sound root c x y first left stopped. stops-on custom sound root c x first y left stopped
