use Rattle.resumable_plans.proofs.PlanLemmas.{plan-groups}
use Rattle.resumable_plans.proofs.laws.plans_are_in_groups.Goals as goal

pub returns : goal.returns
returns g = λ c w pairs control label plan sides of. plan-groups c w pairs sides control label plan of
