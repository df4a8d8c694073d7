use Rattle.std.proofs.Common.{subst, ◌≡◌, Ok, ap, inl, sym, w64, ◌∙◌}
use Rattle.std.proofs.lemmas.Int.{to_z-of_z}
use Rattle.std.proofs.lemmas.Result.{err_from_is_err_and}
use Rattle.clusters.specs.RootControl.{control_at}
use Rattle.rewound_tree.specs.RewoundControl.{rewound_control}
use Rattle.rewind_survey.specs.Faults.{told_by}
use Rattle.touched_blocks.specs.Set.{has_in}
use Rattle.rewind_core.specs.Fits.{PlansNeeded}
use Rattle.rewind_core.specs.Planned.{from_walks}
use Rattle.rewind_core.specs.Text.{sum_at}
use Rattle.rewind_core.proofs.PlanLemmas.{handed}
use Rattle.rewind_core.proofs.SurveyLemmas.{aim_by, parted-plans, rooted-at, same-aim, source-control-refused, target-control-refused}
use Rattle.rewind_core.proofs.planning.plan_parted.Goals as goal

pub plan_walked-requires-clause-target : goal.plan_walked-requires-clause-target
plan_walked-requires-clause-target g c told =
    rooted-at (g.F.Tree.contents c.args.tree.now) _ c.args.target.now c.in_ok-t.t (c.sum_at.ensures.reads.same ∙ c.control_at-2.ensures.reads.same ∙ c.control_at.ensures.reads.same)
    (c.requires.target told) (c.in_ok-t.ensures.exact told)

pub plan_walked-requires-clause-source : goal.plan_walked-requires-clause-source
plan_walked-requires-clause-source g c told =
    rooted-at (g.F.Tree.contents c.args.tree.now) _ c.args.source.now c.in_ok-s.s (c.sum_at.ensures.reads.same ∙ c.control_at-2.ensures.reads.same ∙ c.control_at.ensures.reads.same)
    (c.requires.source told) (subst (λ x. told_by (control_at x c.args.source.now) ≡ Ok c.in_ok-s.s) c.control_at.ensures.reads.same (c.in_ok-s.ensures.exact told))

pub sum_at-requires-clause-rooted : goal.sum_at-requires-clause-rooted
sum_at-requires-clause-rooted g c told =
    rooted-at (g.F.Tree.contents c.args.tree.now) _ c.args.source.now c.in_ok-s.s (c.control_at-2.ensures.reads.same ∙ c.control_at.ensures.reads.same)
    (c.requires.source told) (subst (λ x. told_by (control_at x c.args.source.now) ≡ Ok c.in_ok-s.s) c.control_at.ensures.reads.same (c.in_ok-s.ensures.exact told))

pub plan_walked-requires-clause-sum : goal.plan_walked-requires-clause-sum
plan_walked-requires-clause-sum g c told = c.in_ok-sum.ensures.value told ∙ ap (λ x. sum_at x c.args.source.now) (sym c.sum_at.ensures.reads.same)

pub returns-in_err-sum-clause-exact : goal.returns-in_err-sum-clause-exact
returns-in_err-sum-clause-exact g c told part holds =
    handed (PlansNeeded (g.F.Tree.contents c.args.tree.now) _) c.from_residual-in_err-sum.result _
    (err_from_is_err_and c.from_residual-in_err-sum.result c.from_residual-in_err-sum.ensures.1) (inl (c.in_err-sum.ensures.free told))

pub returns-in_err-t-clause-exact : goal.returns-in_err-t-clause-exact
returns-in_err-t-clause-exact g c told part holds =
    handed (PlansNeeded (g.F.Tree.contents c.args.tree.now) _) c.from_residual.result _ (err_from_is_err_and c.from_residual.result c.from_residual.ensures.1)
    (target-control-refused (g.F.Tree.contents c.args.tree.now) c.args.target.now c.args.source.now c.args.now part _ (c.in_err-t.ensures.exact told))

pub returns-in_err-s-clause-exact : goal.returns-in_err-s-clause-exact
returns-in_err-s-clause-exact g c told part holds =
    handed (PlansNeeded (g.F.Tree.contents c.args.tree.now) _) c.from_residual-in_err-s.result _
    (err_from_is_err_and c.from_residual-in_err-s.result c.from_residual-in_err-s.ensures.1)
    (source-control-refused (g.F.Tree.contents c.args.tree.now) c.args.target.now c.args.source.now c.args.now part c.in_ok-t.t (c.in_ok-t.ensures.exact told)
    _ _ c.control_at.ensures.reads.same (c.in_err-s.ensures.exact told))

pub returns-clause-exact : goal.returns-clause-exact
returns-clause-exact g c told part holds =
    parted-plans (g.F.Tree.contents c.args.tree.now) c.args.target.now c.args.source.now c.args.now part c.in_ok-t.t (c.in_ok-t.ensures.exact told)
    _ c.in_ok-s.s c.segment_size.result _ c.plan_walked.result
    (subst (λ x. told_by (control_at x c.args.source.now) ≡ Ok c.in_ok-s.s) c.control_at.ensures.reads.same (c.in_ok-s.ensures.exact told))
    c.segment_size.ensures.exact
    (same-aim c.args.target.now c.args.source.now part c.in_ok-t.t c.in_ok-s.s c.segment_size.result c.args.now c.args.parted c.rewound_control.result holds
    (c.rewound_control.ensures.value ∙ ap (rewound_control c.in_ok-s.s) (to_z-of_z w64 c.args.now c.ranges.now)))
    (c.sum_at.ensures.reads.same ∙ c.control_at-2.ensures.reads.same ∙ c.control_at.ensures.reads.same)
    (subst (λ t. PlansNeeded (g.F.Tree.contents c.sum_at.new.tree) (from_walks (g.F.Tree.contents c.sum_at.new.tree) (aim_by c.args.target.now c.args.source.now
    c.args.parted.told c.args.parted.redo (has_in c.args.parted.touched) c.in_ok-t.t.relseg c.rewound_control.result c.segment_size.result t)) c.plan_walked.result)
    (to_z-of_z w64 c.args.now c.ranges.now) (c.plan_walked.ensures.exact told))
