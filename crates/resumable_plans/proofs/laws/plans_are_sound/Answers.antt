use Rattle.resumable_plans.proofs.PlanLemmas.{plan-sound}
use Rattle.resumable_plans.proofs.laws.plans_are_sound.Goals as goal

pub returns : goal.returns
returns g = λ c text w pairs control label plan sides of. plan-sound c w pairs sides control label plan of text
