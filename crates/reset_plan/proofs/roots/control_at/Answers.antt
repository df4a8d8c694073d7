use Rattle.std.proofs.Common.{ap}
use Rattle.clusters.specs.RootControl.{control_at}
use Rattle.reset_plan.specs.ResetFaults.{told_by}
use Rattle.reset_plan.proofs.FaultLemmas.{told-err}
use Rattle.reset_plan.proofs.roots.control_at.Goals as goal

pub returns-in-Ok-clause-exact : goal.returns-in-Ok-clause-exact
returns-in-Ok-clause-exact g c told = ap told_by (c.in-Ok.ensures.exact told)

pub returns-in-Err-clause-exact : goal.returns-in-Err-clause-exact
returns-in-Err-clause-exact g c told = told-err (control_at (g.F.Tree.contents c.args.tree.now) c.args.root.now) c.in-Err.fault (c.in-Err.ensures.exact told)
