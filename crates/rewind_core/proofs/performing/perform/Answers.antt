use Rattle.std.proofs.Common.{◌∙◌}
use Rattle.cluster_tree.specs.Frame.{moment_of}
use Rattle.rewind_core.proofs.FactLemmas.{found-over, performs-over, resumes-over, rewound-over, unmarked-over, unrefused-over}
use Rattle.rewind_core.proofs.PerformLemmas.{performs-own, resumable-own, stops-own, synced-own}
use Rattle.rewind_core.proofs.performing.perform.Goals as goal

pub returns-clause-runs : goal.returns-clause-runs
returns-clause-runs g c told seen n is =
    let performs = performs-own g.F.Tree c.args.plan.writes _ c.args.plan.text c.args.tree.now _ _ (c.as_bytes.ensures.value ∙ c.as_str.ensures.value) c.perform.ensures.performs in
    (performs (found-over seen _ n c.args.plan is) told (unrefused-over seen _ n c.args.plan is)).runs

pub returns-clause-rewound : goal.returns-clause-rewound
returns-clause-rewound g c told seen n is =
    let performs = performs-own g.F.Tree c.args.plan.writes _ c.args.plan.text c.args.tree.now _ _ (c.as_bytes.ensures.value ∙ c.as_str.ensures.value) c.perform.ensures.performs in
    rewound-over seen _ n c.args.plan is c.perform.result (performs (found-over seen _ n c.args.plan is) told (unrefused-over seen _ n c.args.plan is)).runs

pub returns-clause-changed : goal.returns-clause-changed
returns-clause-changed g c told seen n is =
    let performs = performs-own g.F.Tree c.args.plan.writes _ c.args.plan.text c.args.tree.now _ _ (c.as_bytes.ensures.value ∙ c.as_str.ensures.value) c.perform.ensures.performs in
    (performs (found-over seen _ n c.args.plan is) told (unrefused-over seen _ n c.args.plan is)).agreed

pub returns-clause-stops : goal.returns-clause-stops
returns-clause-stops g c told seen n is =
    let stops = stops-own g.F.Tree c.args.plan.writes _ c.args.plan.text c.args.tree.now _ c.perform.result (c.as_bytes.ensures.value ∙ c.as_str.ensures.value) c.perform.ensures.stops in
    performs-over seen (moment_of g.F.Tree c.args.tree.now) _ n c.args.plan is
    (stops told (found-over seen _ n c.args.plan is) (unrefused-over seen _ n c.args.plan is) (unmarked-over seen _ n c.args.plan is))

pub returns-clause-synced : goal.returns-clause-synced
returns-clause-synced g c told seen n is =
    let synced = synced-own g.F.Tree c.args.plan.writes _ c.args.plan.text c.args.tree.now _ _ (c.as_bytes.ensures.value ∙ c.as_str.ensures.value) c.perform.ensures.synced in
    synced told (found-over seen _ n c.args.plan is) (unrefused-over seen _ n c.args.plan is)

pub returns-clause-resumable : goal.returns-clause-resumable
returns-clause-resumable g c told seen n is synced =
    let resumable = resumable-own g.F.Tree c.args.plan.writes _ c.args.plan.text c.args.tree.now _ c.perform.result (c.as_bytes.ensures.value ∙ c.as_str.ensures.value) c.perform.ensures.resumable in
    resumes-over seen _ _ _ n c.args.plan is
    (resumable told (found-over seen _ n c.args.plan is) (unrefused-over seen _ n c.args.plan is) (unmarked-over seen _ n c.args.plan is) synced is.incomplete)
