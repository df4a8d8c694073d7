use Rattle.block_layouts.proofs.ListLemmas.{plan_at-index, plan_count-is}
use Rattle.block_layouts.proofs.laws.plans_stand.Goals as goal

pub returns-clause-plans : goal.returns-clause-plans
returns-clause-plans c = plan_at-index

pub returns-clause-plan_count : goal.returns-clause-plan_count
returns-clause-plan_count c = plan_count-is
