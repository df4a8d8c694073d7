use Rattle.rewind_plan.proofs.FoundLemmas.{plan-found}
use Rattle.rewind_plan.proofs.laws.plans_find_what_they_read.Goals as goal

pub returns : goal.returns
returns g = λ c text w pairs control label plan sides of. plan-found c text w pairs control label plan sides of
