use Rattle.cluster_tree.specs.Change.{Writes}
use Rattle.cluster_tree.proofs.OrderLemmas.{path_eq-own}
use Rattle.resumed_writes.proofs.TriedLemmas.{tried-one}
use Rattle.resumed_writes.proofs.changing.overwrite.Goals as goal

pub returns-clause-tries : goal.returns-clause-tries
returns-clause-tries g c = tried-one g.F.Tree c.args.path.now (Writes c.args.path.now 0 c.args.bytes.now) _ _ c.write_at-done.result _ (path_eq-own c.args.path.now) c.settled.ensures c.write_at-done.ensures.refused c.write_at-done.ensures.written c.write_at-done.ensures.made
