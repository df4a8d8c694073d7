use Rattle.rewind_plan.proofs.FinalLemmas.{plan-unrefused}
use Rattle.rewind_plan.proofs.laws.plans_are_not_refused.Goals as goal

pub returns : goal.returns
returns g = λ c text w pairs control label plan sides of. plan-unrefused c text w pairs control label plan sides of
