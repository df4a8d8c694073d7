use Rattle.std.proofs.Common.{◌++◌, ap, codes, Err}
use Rattle.marked_runs.specs.Runs.{begun, ended}
use Rattle.reset_plan.specs.Plan.{body_changes}
use Rattle.marked_runs.proofs.CarriedLemmas.{performs-broken, performs-done, performs-front, performs-then}
use Rattle.reset_cleanup.proofs.StopLemmas.{plan-broken, plan-left, plan-synced}
use Rattle.reset_cleanup.proofs.performing.perform.Goals as goal

pub returns-in-Ok-clause-performs : goal.returns-in-Ok-clause-performs
returns-in-Ok-clause-performs g c =
    performs-then g.F.Tree (begun c.args.plan.mark (codes "pg_resetwal 1\n")) (body_changes c.args.plan.body ++ ended c.args.plan.mark) _ _ _ _ _
    (performs-done g.F.Tree (begun c.args.plan.mark (codes "pg_resetwal 1\n")) _ _ _ c.in-Ok.ensures.carries) c.put_marked.ensures.performs

pub returns-in-Err-clause-performs : goal.returns-in-Err-clause-performs
returns-in-Err-clause-performs g c =
    performs-front g.F.Tree (begun c.args.plan.mark (codes "pg_resetwal 1\n")) (body_changes c.args.plan.body ++ ended c.args.plan.mark) _ _ _
    (performs-broken g.F.Tree (begun c.args.plan.mark (codes "pg_resetwal 1\n")) _ _ c.in-Err.fault c.args.plan.mark _ (ap Err c.about.ensures) c.in-Err.ensures.carries)

pub returns-in-Ok-clause-stops : goal.returns-in-Ok-clause-stops
returns-in-Ok-clause-stops g c told none off =
    plan-left g.F.Tree c.args.plan told _ _ none (c.begin.ensures.any_moment told) _ _ c.in-Ok.ensures.carries c.begin.ensures.frame c.put_marked.ensures.frame c.put_marked.ensures.size (c.in-Ok.ensures.marked told)
    (λ unrefused stands. c.put_marked.ensures.stops told unrefused off stands)

pub returns-in-Err-clause-stops : goal.returns-in-Err-clause-stops
returns-in-Err-clause-stops g c told none off = plan-broken g.F.Tree c.args.plan told _ _ none (c.begin.ensures.any_moment told)

pub returns-in-Ok-clause-synced : goal.returns-in-Ok-clause-synced
returns-in-Ok-clause-synced g c told none = plan-synced g.F.Tree c.args.plan told _ _ _ _ none c.in-Ok.ensures.carries (c.put_marked.ensures.synced told)
