use Rattle.std.proofs.Common.{subst, sym, true}
use Rattle.marked_runs.specs.Runs.{Runs}
use Rattle.reset_plan.specs.Prepared.{IsDry, reset_by}
use Rattle.reset_plan.specs.declared.plan.Prepared.{Prepared}
use Rattle.reset_cleanup.proofs.ResetLemmas.{runs-nothing}
use Rattle.reset_cleanup.proofs.StopLemmas.{dry-left, ready-left, ready-synced}
use Rattle.reset_cleanup.proofs.reset.reset_prepared.Goals as goal

pub returns-in-Dry-clause-runs : goal.returns-in-Dry-clause-runs
returns-in-Dry-clause-runs g c told none =
    let k = g.F.Tree.calls c.args.tree.now in
    let d = g.F.Tree.contents c.args.tree.now in
    subst (λ (p : Prepared). Runs (reset_by p).changes k k d d true) (sym c.in-Dry.is) (runs-nothing k d)

pub returns-in-Dry-clause-stops : goal.returns-in-Dry-clause-stops
returns-in-Dry-clause-stops g c told none off = dry-left g.F.Tree c.args.prepared c.in-Dry.control c.args.tree.now c.in-Dry.is

pub returns-in-Ready-clause-stops : goal.returns-in-Ready-clause-stops
returns-in-Ready-clause-stops g c told = ready-left g.F.Tree c.args.prepared c.in-Ready.plan _ _ c.in-Ready.is (c.carry_out.ensures.stops told)

pub returns-in-Dry-clause-synced : goal.returns-in-Dry-clause-synced
returns-in-Dry-clause-synced g c told none wet = absurd (wet (subst IsDry (sym c.in-Dry.is) tt))

pub returns-in-Ready-clause-synced : goal.returns-in-Ready-clause-synced
returns-in-Ready-clause-synced g c told none wet = ready-synced _ _ c.args.prepared c.in-Ready.plan c.in-Ready.is (c.carry_out.ensures.synced told) none
