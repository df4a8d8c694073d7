use Rattle.resumed_laws.specs.Resumed.{resumed_changes}
use Rattle.resumed_writes.proofs.MarkLemmas.{stored-ended, stored-marked, stored-marked-broken, stored-stays}
use Rattle.resumed_writes.proofs.StopLemmas.{all-broken, all-then, never-differs, stored-broken, stored-stops, stored-syncs}
use Rattle.resumed_writes.proofs.performing.perform_stored.Goals as goal

pub returns-in-Ok-clause-tries : goal.returns-in-Ok-clause-tries
returns-in-Ok-clause-tries g c = all-then g.F.Tree c.args.plan _ _ _ _ _ c.in-Ok.ensures.tries c.perform_synced.ensures.takes

pub returns-in-Err-clause-tries : goal.returns-in-Err-clause-tries
returns-in-Err-clause-tries g c = all-broken g.F.Tree c.args.plan _ _ c.in-Err.fault c.in-Err.ensures.tries

pub returns-in-Ok-clause-unrefused : goal.returns-in-Ok-clause-unrefused
returns-in-Ok-clause-unrefused g c = λ told found none.
    never-differs g.F.Tree (resumed_changes (g.F.Tree.contents c.args.tree.now) c.args.plan) _ _ _ (all-then g.F.Tree c.args.plan _ _ _ _ _ c.in-Ok.ensures.tries c.perform_synced.ensures.takes found) told none

pub returns-in-Err-clause-unrefused : goal.returns-in-Err-clause-unrefused
returns-in-Err-clause-unrefused g c = λ told found none.
    never-differs g.F.Tree (resumed_changes (g.F.Tree.contents c.args.tree.now) c.args.plan) _ _ _ (all-broken g.F.Tree c.args.plan _ _ c.in-Err.fault c.in-Err.ensures.tries found) told none

pub returns-in-Ok-clause-stops : goal.returns-in-Ok-clause-stops
returns-in-Ok-clause-stops g c = stored-stops g.F.Tree c.args.plan _ _ _ _ c.in-Ok.ensures.tries c.in-Ok.ensures.frame c.perform_synced.ensures.frame c.perform_synced.ensures.stops

pub returns-in-Err-clause-stops : goal.returns-in-Err-clause-stops
returns-in-Err-clause-stops g c = stored-broken g.F.Tree c.args.plan _ _ c.in-Err.fault c.in-Err.ensures.tries c.in-Err.ensures.frame

pub returns-in-Ok-clause-synced : goal.returns-in-Ok-clause-synced
returns-in-Ok-clause-synced g c = stored-syncs g.F.Tree c.args.plan _ _ _ _ _ c.in-Ok.ensures.tries c.in-Ok.ensures.frame c.perform_synced.ensures.synced

pub returns-in-Ok-clause-marked : goal.returns-in-Ok-clause-marked
returns-in-Ok-clause-marked g c = stored-marked g.F.Tree c.args.plan _ _ _ _ c.in-Ok.ensures.tries c.in-Ok.ensures.frame c.perform_synced.ensures.frame c.perform_synced.ensures.marked

pub returns-in-Err-clause-marked : goal.returns-in-Err-clause-marked
returns-in-Err-clause-marked g c = stored-marked-broken g.F.Tree c.args.plan _ _ c.in-Err.fault c.in-Err.ensures.tries c.in-Err.ensures.frame

pub returns-in-Ok-clause-ended : goal.returns-in-Ok-clause-ended
returns-in-Ok-clause-ended g c =
    stored-ended g.F.Tree c.args.plan _ _ _ _ (all-then g.F.Tree c.args.plan _ _ _ _ _ c.in-Ok.ensures.tries c.perform_synced.ensures.takes) c.in-Ok.ensures.frame c.perform_synced.ensures.frame

pub returns-in-Ok-clause-stays : goal.returns-in-Ok-clause-stays
returns-in-Ok-clause-stays g c = stored-stays g.F.Tree c.args.plan _ _ _ (all-then g.F.Tree c.args.plan _ _ _ _ _ c.in-Ok.ensures.tries c.perform_synced.ensures.takes)

pub returns-in-Err-clause-stays : goal.returns-in-Err-clause-stays
returns-in-Err-clause-stays g c = stored-stays g.F.Tree c.args.plan _ _ _ (all-broken g.F.Tree c.args.plan _ _ c.in-Err.fault c.in-Err.ensures.tries)
