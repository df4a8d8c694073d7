use Rattle.cluster_tree.specs.Change.{Writes}
use Rattle.marked_runs.proofs.CarriedLemmas.{carried-one}
use Rattle.marked_runs.proofs.steps.overwrite.Goals as goal

pub returns-clause-carries : goal.returns-clause-carries
returns-clause-carries g c = carried-one g.F.Tree (Writes c.args.path.now c.args.at c.args.bytes.now) _ _ c.write_at-done.result _ c.settled.ensures c.write_at-done.ensures.refused c.write_at-done.ensures.written c.write_at-done.ensures.made
