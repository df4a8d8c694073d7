use Rattle.resumed_writes.proofs.TriedLemmas.{failed-alone, sync-broken, sync-done}
use Rattle.resumed_writes.proofs.changing.sync.Goals as goal

pub returns-in-Ok-clause-tries : goal.returns-in-Ok-clause-tries
returns-in-Ok-clause-tries g c = sync-done g.F.Tree _ _ _ _ c.in-Ok.ensures.same c.in-Ok.ensures.made

pub returns-in-Err-clause-tries : goal.returns-in-Err-clause-tries
returns-in-Err-clause-tries g c = sync-broken g.F.Tree _ _ c.in-Err.field-0 c.in-Err.ensures.made

pub returns-in-Err-clause-write_fault : goal.returns-in-Err-clause-write_fault
returns-in-Err-clause-write_fault g c = λ h. c.sync.ensures.cause.failed (failed-alone c.sync.result c.in-Err.field-0 c.in-Err.is c.sync.ensures.row)
