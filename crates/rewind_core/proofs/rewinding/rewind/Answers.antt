use Rattle.std.proofs.Common.{◌≡◌, Ok, subst, sym, w64}
use Rattle.std.proofs.lemmas.Int.{to_z-of_z}
use Rattle.std.specs.Prelude.{is_ok}
use Rattle.cluster_tree.specs.Frame.{moment_of}
use Rattle.rewind_core.specs.Fits.{FitsMeant, IsPlanFor}
use Rattle.rewind_core.specs.Planned.{Needing, Needs, planned_of}
use Rattle.rewind_core.proofs.PerformLemmas.{cause-at, done-at, needed-of, never-at, went-at}
use Rattle.rewind_core.proofs.StopLemmas.{planned-left, synced-by}
use Rattle.rewind_core.proofs.rewinding.rewind.Goals as goal

pub returns-in-Needed-clause-done : goal.returns-in-Needed-clause-done
returns-in-Needed-clause-done g c told =
    let p : (n : Needing) × (planned_of (g.F.Tree.contents c.args.tree.now) c.args.target.now c.args.source.now c.args.now ≡ Ok (Needs n)) × IsPlanFor (g.F.Tree.contents c.args.tree.now) n c.in-Needed.plan =
    needed-of (g.F.Tree.contents c.args.tree.now) (planned_of (g.F.Tree.contents c.args.tree.now) c.args.target.now c.args.source.now c.args.now) c.in_ok-plan.field-0 c.in-Needed.plan
    (subst (λ t. FitsMeant (g.F.Tree.contents c.args.tree.now) (planned_of (g.F.Tree.contents c.args.tree.now) c.args.target.now c.args.source.now t) c.in_ok-plan.field-0)
    (to_z-of_z w64 c.args.now c.ranges.now) (c.in_ok-plan.ensures.exact told)) c.in-Needed.is in
    done-at (g.F.Tree.contents c.args.tree.now) (g.F.Tree.contents c.plan.new.tree) (g.F.Tree.contents c.carry_out.new.tree)
    (planned_of (g.F.Tree.contents c.args.tree.now) c.args.target.now c.args.source.now c.args.now) p.0 c.in-Needed.plan c.plan.ensures.reads.same p.2 p.1 c.carry_out.result c.carry_out.ensures.told (c.carry_out.ensures.rewound told p.0)

pub returns-in-Needed-clause-refused : goal.returns-in-Needed-clause-refused
returns-in-Needed-clause-refused g c told =
    let p : (n : Needing) × (planned_of (g.F.Tree.contents c.args.tree.now) c.args.target.now c.args.source.now c.args.now ≡ Ok (Needs n)) × IsPlanFor (g.F.Tree.contents c.args.tree.now) n c.in-Needed.plan =
    needed-of (g.F.Tree.contents c.args.tree.now) (planned_of (g.F.Tree.contents c.args.tree.now) c.args.target.now c.args.source.now c.args.now) c.in_ok-plan.field-0 c.in-Needed.plan
    (subst (λ t. FitsMeant (g.F.Tree.contents c.args.tree.now) (planned_of (g.F.Tree.contents c.args.tree.now) c.args.target.now c.args.source.now t) c.in_ok-plan.field-0)
    (to_z-of_z w64 c.args.now c.ranges.now) (c.in_ok-plan.ensures.exact told)) c.in-Needed.is in
    cause-at (g.F.Tree.contents c.args.tree.now) (g.F.Tree.contents c.plan.new.tree) (g.F.Tree.contents c.carry_out.new.tree)
    (planned_of (g.F.Tree.contents c.args.tree.now) c.args.target.now c.args.source.now c.args.now) p.0 c.in-Needed.plan c.plan.ensures.reads.same p.2 p.1 c.carry_out.result c.carry_out.ensures.only (c.carry_out.ensures.changed told p.0)

pub returns-in-Needed-clause-went : goal.returns-in-Needed-clause-went
returns-in-Needed-clause-went g c told =
    let p : (n : Needing) × (planned_of (g.F.Tree.contents c.args.tree.now) c.args.target.now c.args.source.now c.args.now ≡ Ok (Needs n)) × IsPlanFor (g.F.Tree.contents c.args.tree.now) n c.in-Needed.plan =
    needed-of (g.F.Tree.contents c.args.tree.now) (planned_of (g.F.Tree.contents c.args.tree.now) c.args.target.now c.args.source.now c.args.now) c.in_ok-plan.field-0 c.in-Needed.plan
    (subst (λ t. FitsMeant (g.F.Tree.contents c.args.tree.now) (planned_of (g.F.Tree.contents c.args.tree.now) c.args.target.now c.args.source.now t) c.in_ok-plan.field-0)
    (to_z-of_z w64 c.args.now c.ranges.now) (c.in_ok-plan.ensures.exact told)) c.in-Needed.is in
    went-at (g.F.Tree.contents c.args.tree.now) (g.F.Tree.contents c.plan.new.tree) (g.F.Tree.contents c.carry_out.new.tree)
    (planned_of (g.F.Tree.contents c.args.tree.now) c.args.target.now c.args.source.now c.args.now) p.0 c.in-Needed.plan c.plan.ensures.reads.same p.2 p.1 (g.F.Tree.calls c.args.tree.now) (g.F.Tree.calls c.plan.new.tree) (g.F.Tree.calls c.carry_out.new.tree)
    (is_ok c.carry_out.result) c.plan.ensures.reads.uncalled (c.carry_out.ensures.runs told p.0)

pub returns-in-Needed-clause-changed : goal.returns-in-Needed-clause-changed
returns-in-Needed-clause-changed g c told =
    let p : (n : Needing) × (planned_of (g.F.Tree.contents c.args.tree.now) c.args.target.now c.args.source.now c.args.now ≡ Ok (Needs n)) × IsPlanFor (g.F.Tree.contents c.args.tree.now) n c.in-Needed.plan =
    needed-of (g.F.Tree.contents c.args.tree.now) (planned_of (g.F.Tree.contents c.args.tree.now) c.args.target.now c.args.source.now c.args.now) c.in_ok-plan.field-0 c.in-Needed.plan
    (subst (λ t. FitsMeant (g.F.Tree.contents c.args.tree.now) (planned_of (g.F.Tree.contents c.args.tree.now) c.args.target.now c.args.source.now t) c.in_ok-plan.field-0)
    (to_z-of_z w64 c.args.now c.ranges.now) (c.in_ok-plan.ensures.exact told)) c.in-Needed.is in
    never-at (g.F.Tree.contents c.args.tree.now) (g.F.Tree.contents c.plan.new.tree) (g.F.Tree.contents c.carry_out.new.tree)
    (planned_of (g.F.Tree.contents c.args.tree.now) c.args.target.now c.args.source.now c.args.now) p.0 c.in-Needed.plan c.plan.ensures.reads.same p.2 p.1 (c.carry_out.ensures.changed told p.0)

pub returns-in-Needed-clause-stops : goal.returns-in-Needed-clause-stops
returns-in-Needed-clause-stops g c told =
    let p : (n : Needing) × (planned_of (g.F.Tree.contents c.args.tree.now) c.args.target.now c.args.source.now c.args.now ≡ Ok (Needs n)) × IsPlanFor (g.F.Tree.contents c.args.tree.now) n c.in-Needed.plan =
    needed-of (g.F.Tree.contents c.args.tree.now) (planned_of (g.F.Tree.contents c.args.tree.now) c.args.target.now c.args.source.now c.args.now) c.in_ok-plan.field-0 c.in-Needed.plan
    (subst (λ t. FitsMeant (g.F.Tree.contents c.args.tree.now) (planned_of (g.F.Tree.contents c.args.tree.now) c.args.target.now c.args.source.now t) c.in_ok-plan.field-0)
    (to_z-of_z w64 c.args.now c.ranges.now) (c.in_ok-plan.ensures.exact told)) c.in-Needed.is in
    planned-left g.F.Tree (planned_of (g.F.Tree.contents c.args.tree.now) c.args.target.now c.args.source.now c.args.now) c.args.target.now c.args.source.now c.args.tree.now c.plan.new.tree c.carry_out.new.tree p.0 c.in-Needed.plan c.in_ok-plan.field-0
    c.plan.ensures.reads p.1 p.2 c.in-Needed.is c.in_ok-plan.ensures.made (c.carry_out.ensures.stops told p.0)

pub returns-in-Needed-clause-synced : goal.returns-in-Needed-clause-synced
returns-in-Needed-clause-synced g c told =
    let p : (n : Needing) × (planned_of (g.F.Tree.contents c.args.tree.now) c.args.target.now c.args.source.now c.args.now ≡ Ok (Needs n)) × IsPlanFor (g.F.Tree.contents c.args.tree.now) n c.in-Needed.plan =
    needed-of (g.F.Tree.contents c.args.tree.now) (planned_of (g.F.Tree.contents c.args.tree.now) c.args.target.now c.args.source.now c.args.now) c.in_ok-plan.field-0 c.in-Needed.plan
    (subst (λ t. FitsMeant (g.F.Tree.contents c.args.tree.now) (planned_of (g.F.Tree.contents c.args.tree.now) c.args.target.now c.args.source.now t) c.in_ok-plan.field-0)
    (to_z-of_z w64 c.args.now c.ranges.now) (c.in_ok-plan.ensures.exact told)) c.in-Needed.is in
    synced-by (moment_of g.F.Tree c.carry_out.new.tree) c.carry_out.result
    (c.carry_out.ensures.synced told p.0 (subst (λ d. IsPlanFor d p.0 c.in-Needed.plan) (sym c.plan.ensures.reads.same) p.2))
