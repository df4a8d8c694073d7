use Rattle.rewind_plan.proofs.OffLemmas.{plan-unmarked}
use Rattle.rewind_plan.proofs.laws.plans_leave_the_mark.Goals as goal

pub returns : goal.returns
returns g = λ c w pairs control label plan sides of. plan-unmarked c w pairs control label plan sides of
