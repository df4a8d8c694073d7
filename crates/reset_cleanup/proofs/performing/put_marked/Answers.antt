use Rattle.marked_runs.specs.Runs.{ended}
use Rattle.reset_plan.specs.Plan.{body_changes}
use Rattle.marked_runs.proofs.CarriedLemmas.{performs-front, performs-then}
use Rattle.reset_cleanup.proofs.StopLemmas.{body-broken, body-ended, body-synced}
use Rattle.reset_cleanup.proofs.performing.put_marked.Goals as goal

pub returns-in-Ok-clause-performs : goal.returns-in-Ok-clause-performs
returns-in-Ok-clause-performs g c = performs-then g.F.Tree (body_changes c.args.body) (ended c.args.mark) _ _ _ _ _ c.in-Ok.ensures.performs c.unmark.ensures.performs

pub returns-in-Err-clause-performs : goal.returns-in-Err-clause-performs
returns-in-Err-clause-performs g c = performs-front g.F.Tree (body_changes c.args.body) (ended c.args.mark) _ _ c.in-Err.fault c.in-Err.ensures.performs

pub returns-in-Ok-clause-stops : goal.returns-in-Ok-clause-stops
returns-in-Ok-clause-stops g c told none off stands =
    body-ended g.F.Tree c.args.mark (body_changes c.args.body) told _ _ none off stands c.put_body.ensures.frame _ _ c.in-Ok.ensures.performs c.unmark.ensures.frame (c.unmark.ensures.stops told)

pub returns-in-Err-clause-stops : goal.returns-in-Err-clause-stops
returns-in-Err-clause-stops g c told none off stands = body-broken g.F.Tree c.args.mark (body_changes c.args.body) told _ _ none off stands c.put_body.ensures.frame c.in-Err.fault c.in-Err.ensures.performs

pub returns-in-Ok-clause-synced : goal.returns-in-Ok-clause-synced
returns-in-Ok-clause-synced g c told none = body-synced g.F.Tree c.args.mark (body_changes c.args.body) told _ _ _ _ _ none c.in-Ok.ensures.performs (c.unmark.ensures.synced told)
