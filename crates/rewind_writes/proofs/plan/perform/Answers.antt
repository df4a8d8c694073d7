use Rattle.std.proofs.Common.{ap, Err}
use Rattle.marked_runs.proofs.CarriedLemmas.{performs-broken}
use Rattle.rewind_writes.specs.Plan.{mark_laid}
use Rattle.rewind_writes.proofs.StepLemmas.{plan-broken, plan-taken}
use Rattle.rewind_writes.proofs.StopLemmas.{resumable-of, run-broken, run-on, safe-of, synced-on}
use Rattle.rewind_writes.proofs.plan.perform.Goals as goal

pub returns-in-Ok-clause-performs : goal.returns-in-Ok-clause-performs
returns-in-Ok-clause-performs g c = plan-taken g.F.Tree c.args.text.now c.args.plan _ _ _ _ _ c.in-Ok.ensures.carries (c.perform_marked.ensures.takes (g.F.Tree.contents c.args.tree.now))

pub returns-in-Err-clause-performs : goal.returns-in-Err-clause-performs
returns-in-Err-clause-performs g c = λ found.
    plan-broken g.F.Tree c.args.text.now c.args.plan _ _ _
    (performs-broken g.F.Tree (mark_laid (g.F.Tree.contents c.args.tree.now) c.args.text.now c.args.plan) _ _ c.in-Err.fault c.args.plan.mark _ (ap Err c.about.ensures) c.in-Err.ensures.carries)

pub returns-in-Ok-clause-stops : goal.returns-in-Ok-clause-stops
returns-in-Ok-clause-stops g c =
    safe-of g.F.Tree c.args.text.now c.args.plan _ _
    (run-on g.F.Tree c.args.text.now c.args.plan _ _ c.in-Ok.ensures.any_moment _ _ c.in-Ok.ensures.synced c.in-Ok.ensures.carries c.in-Ok.ensures.frame c.perform_marked.ensures.frame
    (c.perform_marked.ensures.stops (g.F.Tree.contents c.args.tree.now)))

pub returns-in-Err-clause-stops : goal.returns-in-Err-clause-stops
returns-in-Err-clause-stops g c = safe-of g.F.Tree c.args.text.now c.args.plan _ _ (run-broken g.F.Tree c.args.text.now c.args.plan _ _ c.in-Err.ensures.any_moment)

pub returns-in-Ok-clause-resumable : goal.returns-in-Ok-clause-resumable
returns-in-Ok-clause-resumable g c =
    resumable-of g.F.Tree c.args.text.now c.args.plan _ _
    (run-on g.F.Tree c.args.text.now c.args.plan _ _ c.in-Ok.ensures.any_moment _ _ c.in-Ok.ensures.synced c.in-Ok.ensures.carries c.in-Ok.ensures.frame c.perform_marked.ensures.frame
    (c.perform_marked.ensures.stops (g.F.Tree.contents c.args.tree.now)))

pub returns-in-Err-clause-resumable : goal.returns-in-Err-clause-resumable
returns-in-Err-clause-resumable g c = resumable-of g.F.Tree c.args.text.now c.args.plan _ _ (run-broken g.F.Tree c.args.text.now c.args.plan _ _ c.in-Err.ensures.any_moment)

pub returns-in-Ok-clause-synced : goal.returns-in-Ok-clause-synced
returns-in-Ok-clause-synced g c = synced-on g.F.Tree c.args.text.now c.args.plan _ _ _ _ _ c.in-Ok.ensures.carries (c.perform_marked.ensures.synced (g.F.Tree.contents c.args.tree.now))
