use Rattle.cluster_tree.specs.Change.{Syncs}
use Rattle.marked_runs.proofs.MarkLemmas.{took-settled}
use Rattle.marked_runs.proofs.CarriedLemmas.{carried-one, on_any, passes-unrefused}
use Rattle.marked_runs.proofs.steps.sync.Goals as goal

pub returns-clause-carries : goal.returns-clause-carries
returns-clause-carries g c = carried-one g.F.Tree Syncs _ _ c.sync-done.result _ c.settled.ensures (λ told. passes-unrefused c.sync-done.result c.sync-done.ensures.row) (λ told. on_any c.sync-done.result (c.sync-done.ensures.same told)) c.sync-done.ensures.made

pub returns-clause-took : goal.returns-clause-took
returns-clause-took g c = took-settled g.F.Tree Syncs _ _ c.sync-done.result _ c.settled.ensures c.sync-done.ensures.pending
