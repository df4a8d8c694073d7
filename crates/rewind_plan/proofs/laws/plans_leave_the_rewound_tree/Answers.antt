use Rattle.rewind_plan.proofs.FinalLemmas.{plan-leaves-all}
use Rattle.rewind_plan.proofs.laws.plans_leave_the_rewound_tree.Goals as goal

pub returns : goal.returns
returns g = λ c text w pairs control label plan sides of. plan-leaves-all c text w pairs control label plan sides of
