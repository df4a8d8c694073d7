use Rattle.std.proofs.Common.{◌≡◌, ◌∙◌, ap, sym, Err}
use Rattle.clusters.specs.declared.fault.ClusterFault.TheVariants as cluster
use Rattle.rewind_survey.specs.declared.fault.RewindFault.TheVariants as fault
use Rattle.rewind_core.proofs.FactLemmas.{plan-over}
use Rattle.rewind_core.proofs.PerformLemmas.{changed-of}
use Rattle.rewind_core.proofs.rewinding.carry_out.Goals as goal

pub returns-in-Err-clause-changed : goal.returns-in-Err-clause-changed
returns-in-Err-clause-changed g c told n is p h =
    let e : c.of_perform.result ≡ fault.Cluster (cluster.Changed p) = cc h in
    c.in-Err.ensures.changed told _ n (plan-over _ n c.args.plan is) p (ap Err (changed-of c.in-Err.fault p (sym c.of_perform.ensures ∙ e)))

pub returns-in-Ok-clause-runs : goal.returns-in-Ok-clause-runs
returns-in-Ok-clause-runs g c told n is = c.in-Ok.ensures.runs told _ n (plan-over _ n c.args.plan is)

pub returns-in-Err-clause-runs : goal.returns-in-Err-clause-runs
returns-in-Err-clause-runs g c told n is = c.in-Err.ensures.runs told _ n (plan-over _ n c.args.plan is)

pub returns-in-Ok-clause-rewound : goal.returns-in-Ok-clause-rewound
returns-in-Ok-clause-rewound g c told n is = c.in-Ok.ensures.rewound told _ n (plan-over _ n c.args.plan is)

pub returns-in-Ok-clause-stops : goal.returns-in-Ok-clause-stops
returns-in-Ok-clause-stops g c told n is = c.perform.ensures.stops told _ n (plan-over _ n c.args.plan is)

pub returns-in-Err-clause-stops : goal.returns-in-Err-clause-stops
returns-in-Err-clause-stops g c told n is = c.perform.ensures.stops told _ n (plan-over _ n c.args.plan is)

pub returns-in-Ok-clause-synced : goal.returns-in-Ok-clause-synced
returns-in-Ok-clause-synced g c told n is = c.in-Ok.ensures.synced told _ n (plan-over _ n c.args.plan is)
