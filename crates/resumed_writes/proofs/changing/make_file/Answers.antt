use Rattle.cluster_tree.specs.Change.{MakesFile}
use Rattle.cluster_tree.proofs.OrderLemmas.{path_eq-own}
use Rattle.resumed_writes.proofs.TriedLemmas.{tried-one}
use Rattle.resumed_writes.proofs.changing.make_file.Goals as goal

pub returns-clause-tries : goal.returns-clause-tries
returns-clause-tries g c = tried-one g.F.Tree c.args.path.now (MakesFile c.args.path.now) _ _ c.make_file-done.result _ (path_eq-own c.args.path.now) c.settled.ensures c.make_file-done.ensures.refused c.make_file-done.ensures.file c.make_file-done.ensures.made
