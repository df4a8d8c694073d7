use Rattle.rewind_plan.proofs.WalksFit.{walks-fit}
use Rattle.rewind_plan.proofs.laws.walks_are_sides.Goals as goal

pub returns : goal.returns
returns g = λ c w target source found there tree apart seen other none. walks-fit c w target source found there seen other tree apart none
