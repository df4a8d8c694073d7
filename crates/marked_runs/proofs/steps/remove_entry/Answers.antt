use Rattle.cluster_tree.specs.Change.{Removes}
use Rattle.marked_runs.proofs.MarkLemmas.{took-settled}
use Rattle.marked_runs.proofs.CarriedLemmas.{carried-one}
use Rattle.marked_runs.proofs.steps.remove_entry.Goals as goal

pub returns-clause-carries : goal.returns-clause-carries
returns-clause-carries g c = carried-one g.F.Tree (Removes c.args.path.now) _ _ c.remove-done.result _ c.settled.ensures c.remove-done.ensures.refused c.remove-done.ensures.removed c.remove-done.ensures.made

pub returns-clause-took : goal.returns-clause-took
returns-clause-took g c = took-settled g.F.Tree (Removes c.args.path.now) _ _ c.remove-done.result _ c.settled.ensures c.remove-done.ensures.pending
