use Rattle.cluster_tree.specs.Change.{Cuts}
use Rattle.marked_runs.proofs.CarriedLemmas.{carried-one}
use Rattle.marked_runs.proofs.steps.cut_file.Goals as goal

pub returns-clause-carries : goal.returns-clause-carries
returns-clause-carries g c = carried-one g.F.Tree (Cuts c.args.path.now c.args.size) _ _ c.cut-done.result _ c.settled.ensures c.cut-done.ensures.refused c.cut-done.ensures.cut c.cut-done.ensures.made
