use Rattle.cluster_tree.specs.Change.{MakesFolder}
use Rattle.marked_runs.proofs.CarriedLemmas.{carried-one}
use Rattle.marked_runs.proofs.steps.make_folder.Goals as goal

pub returns-clause-carries : goal.returns-clause-carries
returns-clause-carries g c = carried-one g.F.Tree (MakesFolder c.args.path.now) _ _ c.make_folder-done.result _ c.settled.ensures c.make_folder-done.ensures.refused c.make_folder-done.ensures.folder c.make_folder-done.ensures.made
