use Rattle.cluster_tree.specs.Change.{Cuts}
use Rattle.cluster_tree.proofs.OrderLemmas.{path_eq-own}
use Rattle.resumed_writes.proofs.TriedLemmas.{tried-one}
use Rattle.resumed_writes.proofs.changing.cut_file.Goals as goal

pub returns-clause-tries : goal.returns-clause-tries
returns-clause-tries g c = tried-one g.F.Tree c.args.path.now (Cuts c.args.path.now c.args.size) _ _ c.cut-done.result _ (path_eq-own c.args.path.now) c.settled.ensures c.cut-done.ensures.refused c.cut-done.ensures.cut c.cut-done.ensures.made
