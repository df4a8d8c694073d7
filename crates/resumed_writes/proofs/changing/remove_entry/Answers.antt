use Rattle.cluster_tree.specs.Change.{Removes}
use Rattle.cluster_tree.proofs.OrderLemmas.{path_eq-own}
use Rattle.resumed_writes.proofs.TriedLemmas.{tried-one}
use Rattle.resumed_writes.proofs.changing.remove_entry.Goals as goal

pub returns-clause-tries : goal.returns-clause-tries
returns-clause-tries g c = tried-one g.F.Tree c.args.path.now (Removes c.args.path.now) _ _ c.remove-done.result _ (path_eq-own c.args.path.now) c.settled.ensures c.remove-done.ensures.refused c.remove-done.ensures.removed c.remove-done.ensures.made
