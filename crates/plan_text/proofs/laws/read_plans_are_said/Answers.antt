use Rattle.plan_text.proofs.PlanReadLemmas.{all_said, one_text}
use Rattle.plan_text.proofs.laws.read_plans_are_said.Goals as goal

pub returns-clause-said : goal.returns-clause-said
returns-clause-said c = all_said

pub returns-clause-text : goal.returns-clause-text
returns-clause-text c = one_text
