use Rattle.rewind_writes.proofs.StepLemmas.{marked-broken, marked-taken}
use Rattle.rewind_writes.proofs.StopLemmas.{ends-broken, ends-marked, syncs-marked}
use Rattle.rewind_writes.proofs.plan.perform_marked.Goals as goal

pub returns-in-Ok-clause-takes : goal.returns-in-Ok-clause-takes
returns-in-Ok-clause-takes g c = λ d. marked-taken g.F.Tree d c.args.plan _ _ _ _ _ (c.in-Ok.ensures.takes d) c.unmark.ensures.performs

pub returns-in-Err-clause-takes : goal.returns-in-Err-clause-takes
returns-in-Err-clause-takes g c = λ d. marked-broken g.F.Tree d c.args.plan _ _ c.in-Err.fault (c.in-Err.ensures.takes d)

pub returns-in-Ok-clause-stops : goal.returns-in-Ok-clause-stops
returns-in-Ok-clause-stops g c = λ d. ends-marked g.F.Tree d c.args.plan _ _ _ _ _ (c.in-Ok.ensures.takes d) c.in-Ok.ensures.frame c.unmark.ensures.frame c.unmark.ensures.performs

pub returns-in-Err-clause-stops : goal.returns-in-Err-clause-stops
returns-in-Err-clause-stops g c = λ d. ends-broken g.F.Tree d c.args.plan _ _ c.in-Err.fault (c.in-Err.ensures.takes d) c.in-Err.ensures.frame

pub returns-in-Ok-clause-synced : goal.returns-in-Ok-clause-synced
returns-in-Ok-clause-synced g c = λ d. syncs-marked g.F.Tree d c.args.plan _ _ _ _ _ (c.in-Ok.ensures.takes d) c.unmark.ensures.synced
