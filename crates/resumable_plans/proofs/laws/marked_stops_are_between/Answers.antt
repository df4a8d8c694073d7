use Rattle.resumable_plans.proofs.MarkLemmas.{under-between}
use Rattle.resumable_plans.proofs.laws.marked_stops_are_between.Goals as goal

pub returns : goal.returns
returns g = λ c i text w pairs control label plan sides of under. under-between c i text w pairs control label plan sides of under
