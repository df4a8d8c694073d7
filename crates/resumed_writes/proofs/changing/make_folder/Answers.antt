use Rattle.cluster_tree.specs.Change.{MakesFolder}
use Rattle.cluster_tree.proofs.OrderLemmas.{path_eq-own}
use Rattle.resumed_writes.proofs.TriedLemmas.{tried-one}
use Rattle.resumed_writes.proofs.changing.make_folder.Goals as goal

pub returns-clause-tries : goal.returns-clause-tries
returns-clause-tries g c = tried-one g.F.Tree c.args.path.now (MakesFolder c.args.path.now) _ _ c.make_folder-done.result _ (path_eq-own c.args.path.now) c.settled.ensures c.make_folder-done.ensures.refused c.make_folder-done.ensures.folder c.make_folder-done.ensures.made
