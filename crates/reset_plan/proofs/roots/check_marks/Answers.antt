use Rattle.clusters.specs.Marks.{unfinished}
use Rattle.reset_plan.proofs.FaultLemmas.{refused-by}
use Rattle.reset_plan.proofs.roots.check_marks.Goals as goal

pub returns-in-Err-clause-answer : goal.returns-in-Err-clause-answer
returns-in-Err-clause-answer g c told = refused-by (unfinished (g.F.Tree.contents c.args.tree.now) c.args.root.now) c.in-Err.fault (c.in-Err.ensures.answer told)
