use Rattle.cluster_tree.specs.Change.{MakesFile}
use Rattle.marked_runs.proofs.CarriedLemmas.{carried-one}
use Rattle.marked_runs.proofs.steps.make_file.Goals as goal

pub returns-clause-carries : goal.returns-clause-carries
returns-clause-carries g c = carried-one g.F.Tree (MakesFile c.args.path.now) _ _ c.make_file-done.result _ c.settled.ensures c.make_file-done.ensures.refused c.make_file-done.ensures.file c.make_file-done.ensures.made
