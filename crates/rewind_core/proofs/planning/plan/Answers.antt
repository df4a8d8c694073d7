use Rattle.std.proofs.Common.{Ok, Err, subst, w64}
use Rattle.std.proofs.lemmas.Int.{to_z-of_z}
use Rattle.std.proofs.lemmas.Result.{err_from_is_err_and}
use Rattle.rewind_core.specs.Fits.{Plans, PlansNeeded}
use Rattle.rewind_core.specs.Planned.{from_parting}
use Rattle.rewind_core.proofs.PlanLemmas.{handed}
use Rattle.rewind_core.proofs.SurveyLemmas.{fork-meant, one-meant, parted-meant, survey-refused}
use Rattle.rewind_core.proofs.planning.plan.Goals as goal

pub returns-in_err-survey-clause-exact : goal.returns-in_err-survey-clause-exact
returns-in_err-survey-clause-exact g c told =
    handed (Plans (g.F.Tree.contents c.args.tree.now) _) c.from_residual.result _ (err_from_is_err_and c.from_residual.result c.from_residual.ensures.1)
    (survey-refused (g.F.Tree.contents c.args.tree.now) c.args.target.now c.args.source.now c.args.now _ (c.in_err-survey.ensures.exact told))

pub returns-in_err-plan-in-Parted-clause-exact : goal.returns-in_err-plan-in-Parted-clause-exact
returns-in_err-plan-in-Parted-clause-exact g c told =
    handed (Plans (g.F.Tree.contents c.args.tree.now) _) c.from_residual-in_err-plan-in-Parted.result _
    (err_from_is_err_and c.from_residual-in_err-plan-in-Parted.result c.from_residual-in_err-plan-in-Parted.ensures.1)
    (parted-meant (g.F.Tree.contents c.args.tree.now) c.args.target.now c.args.source.now c.args.now _ c.in_ok-survey.field-0 c.in-Parted.parted
    (Err c.in_err-plan-in-Parted.field-0.0) c.survey.ensures.reads.same (c.in_ok-survey.ensures.exact told) c.in-Parted.is (λ part holds. subst (λ t. PlansNeeded (g.F.Tree.contents c.survey.new.tree) (from_parting (g.F.Tree.contents c.survey.new.tree) c.args.target.now c.args.source.now t part) (Err c.in_err-plan-in-Parted.field-0.0))
    (to_z-of_z w64 c.args.now c.ranges.now) (c.in_err-plan-in-Parted.ensures.exact told part holds)))

pub returns-in-SameTimeline-clause-exact : goal.returns-in-SameTimeline-clause-exact
returns-in-SameTimeline-clause-exact g c told =
    one-meant (g.F.Tree.contents c.args.tree.now) c.args.target.now c.args.source.now c.args.now c.in_ok-survey.field-0 (c.in_ok-survey.ensures.exact told) c.in-SameTimeline.is

pub returns-in-EndsAtFork-clause-exact : goal.returns-in-EndsAtFork-clause-exact
returns-in-EndsAtFork-clause-exact g c told =
    fork-meant (g.F.Tree.contents c.args.tree.now) c.args.target.now c.args.source.now c.args.now c.in_ok-survey.field-0 c.in-EndsAtFork.at
    (c.in_ok-survey.ensures.exact told) c.in-EndsAtFork.is

pub returns-in_ok-plan-in-Parted-clause-exact : goal.returns-in_ok-plan-in-Parted-clause-exact
returns-in_ok-plan-in-Parted-clause-exact g c told =
    parted-meant (g.F.Tree.contents c.args.tree.now) c.args.target.now c.args.source.now c.args.now _ c.in_ok-survey.field-0 c.in-Parted.parted
    (Ok c.in_ok-plan-in-Parted.plan) c.survey.ensures.reads.same (c.in_ok-survey.ensures.exact told) c.in-Parted.is (λ part holds. subst (λ t. PlansNeeded (g.F.Tree.contents c.survey.new.tree) (from_parting (g.F.Tree.contents c.survey.new.tree) c.args.target.now c.args.source.now t part) (Ok c.in_ok-plan-in-Parted.plan))
    (to_z-of_z w64 c.args.now c.ranges.now) (c.in_ok-plan-in-Parted.ensures.exact told part holds))
