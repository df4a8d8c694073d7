use Rattle.std.proofs.Common.{inl, inr, refl, ◌∙◌}
use Rattle.std.proofs.lemmas.Result.{err_from_is_err_and}
use Rattle.rewind_core.specs.Fits.{PlansNeeded}
use Rattle.rewind_core.specs.Rooted.{aim}
use Rattle.rewind_core.proofs.PlanLemmas.{handed, made-between, source-refused, target-refused, walked-plans, walked-said}
use Rattle.rewind_core.proofs.planning.plan_walked.Goals as goal

pub returns-in_err-here-clause-exact : goal.returns-in_err-here-clause-exact
returns-in_err-here-clause-exact g c told =
    handed (PlansNeeded (g.F.Tree.contents c.args.tree.now) _) c.from_residual.result _ (err_from_is_err_and c.from_residual.result c.from_residual.ensures.1)
    (target-refused (g.F.Tree.contents c.args.tree.now) (aim c.args.rewinding.now) _ (c.in_err-here.ensures.exact told))

pub returns-in_err-there-clause-exact : goal.returns-in_err-there-clause-exact
returns-in_err-there-clause-exact g c told =
    handed (PlansNeeded (g.F.Tree.contents c.args.tree.now) _) c.from_residual-in_err-there.result _
    (err_from_is_err_and c.from_residual-in_err-there.result c.from_residual-in_err-there.ensures.1)
    (source-refused (g.F.Tree.contents c.args.tree.now) (aim c.args.rewinding.now) c.in_ok-here.here (c.in_ok-here.ensures.exact told)
    _ _ c.walk_below.ensures.reads.same (c.in_err-there.ensures.exact told))

pub returns-in_err-pairs-clause-exact : goal.returns-in_err-pairs-clause-exact
returns-in_err-pairs-clause-exact g c told =
    handed (PlansNeeded (g.F.Tree.contents c.args.tree.now) _) c.from_residual-in_err-pairs.result _
    (err_from_is_err_and c.from_residual-in_err-pairs.result c.from_residual-in_err-pairs.ensures.1) (inl (inr refl))

pub returns-clause-exact : goal.returns-clause-exact
returns-clause-exact g c told =
    walked-plans (g.F.Tree.contents c.args.tree.now) (aim c.args.rewinding.now) c.in_ok-here.here (c.in_ok-here.ensures.exact told)
    _ c.in_ok-there.there c.walk_below.ensures.reads.same (c.in_ok-there.ensures.exact told)
    _ (c.deref.ensures.value ∙ c.in_ok-pairs.ensures.value (c.in_ok-here.ensures.order told) (c.in_ok-there.ensures.order told))
    (g.met.F.Tree.is_tree told c.args.tree.now) c.requires.apart (c.requires.target told) (c.requires.source told)
    (c.in_ok-here.ensures.parts told) (c.in_ok-there.ensures.parts told) c.plan_pairs.result
    c.plan_pairs.ensures.refused c.plan_pairs.ensures.passed c.plan_pairs.ensures.told _ (c.requires.sum told) c.plan_pairs.ensures.text c.plan_pairs.ensures.made

pub returns-clause-made : goal.returns-clause-made
returns-clause-made g c = made-between (aim c.args.rewinding.now) _ c.plan_pairs.result c.plan_pairs.ensures.made

pub returns-clause-said : goal.returns-clause-said
returns-clause-said g c told =
    walked-said (g.F.Tree.contents c.args.tree.now) (aim c.args.rewinding.now) c.in_ok-here.here (c.in_ok-here.ensures.exact told)
    _ c.in_ok-there.there c.walk_below.ensures.reads.same (c.in_ok-there.ensures.exact told)
    _ (c.deref.ensures.value ∙ c.in_ok-pairs.ensures.value (c.in_ok-here.ensures.order told) (c.in_ok-there.ensures.order told))
    (g.met.F.Tree.is_tree told c.args.tree.now) c.requires.apart (c.requires.target told) (c.requires.source told)
    (c.in_ok-here.ensures.parts told) (c.in_ok-there.ensures.parts told) c.plan_pairs.result
    c.plan_pairs.ensures.passed _ (c.requires.sum told) c.plan_pairs.ensures.made c.plan_pairs.ensures.held c.plan_pairs.ensures.fit
