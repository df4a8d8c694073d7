use Rattle.resumed_writes.proofs.MarkLemmas.{marked-broken, marked-ended}
use Rattle.resumed_writes.proofs.StopLemmas.{stops-broken, stops-ended, synced-broken, synced-then, syncs-ended}
use Rattle.resumed_writes.proofs.performing.perform_synced.Goals as goal

pub returns-in-Ok-clause-takes : goal.returns-in-Ok-clause-takes
returns-in-Ok-clause-takes g c = synced-then g.F.Tree c.args.plan _ _ _ _ _ c.in-Ok.ensures.takes c.unmark.ensures.tries

pub returns-in-Err-clause-takes : goal.returns-in-Err-clause-takes
returns-in-Err-clause-takes g c = synced-broken g.F.Tree c.args.plan _ _ c.in-Err.fault c.in-Err.ensures.takes

pub returns-in-Ok-clause-stops : goal.returns-in-Ok-clause-stops
returns-in-Ok-clause-stops g c = stops-ended g.F.Tree c.args.plan _ _ _ _ _ c.in-Ok.ensures.takes c.unmark.ensures.tries c.in-Ok.ensures.frame c.unmark.ensures.frame

pub returns-in-Err-clause-stops : goal.returns-in-Err-clause-stops
returns-in-Err-clause-stops g c = stops-broken g.F.Tree c.args.plan _ _ c.in-Err.fault c.in-Err.ensures.takes c.in-Err.ensures.frame

pub returns-in-Ok-clause-synced : goal.returns-in-Ok-clause-synced
returns-in-Ok-clause-synced g c = syncs-ended g.F.Tree c.args.plan _ _ _ _ _ c.in-Ok.ensures.takes c.unmark.ensures.tries c.unmark.ensures.frame

pub returns-in-Ok-clause-marked : goal.returns-in-Ok-clause-marked
returns-in-Ok-clause-marked g c = marked-ended g.F.Tree c.args.plan _ _ _ _ _ c.in-Ok.ensures.takes c.unmark.ensures.tries c.in-Ok.ensures.frame c.unmark.ensures.frame

pub returns-in-Err-clause-marked : goal.returns-in-Err-clause-marked
returns-in-Err-clause-marked g c = marked-broken g.F.Tree c.args.plan _ _ c.in-Err.fault c.in-Err.ensures.takes c.in-Err.ensures.frame
