use Rattle.std.proofs.Common.{w64}
use Rattle.std.proofs.lemmas.Int.{to_z-of_z}
use Rattle.rewind_core.proofs.AnewLemmas.{anew-exact, anew-said, mark-deep}
use Rattle.rewind_core.proofs.anew.plan_anew.Goals as goal

pub plan_without-requires-clause-deep : goal.plan_without-requires-clause-deep
plan_without-requires-clause-deep g c = mark-deep c.args.target.now c.in_ok-mark.mark c.in_ok-mark.ensures.is

pub returns-clause-exact : goal.returns-clause-exact
returns-clause-exact g c told =
    anew-exact c.args.target.now _ c.in_ok-mark.ensures.is (g.F.Tree.contents c.args.tree.now) c.args.source.now c.plan_without.result (to_z-of_z w64 c.args.now c.ranges.now) (c.plan_without.ensures.exact told)

pub returns-clause-said : goal.returns-clause-said
returns-clause-said g c told = anew-said c.args.target.now _ c.in_ok-mark.ensures.is (g.F.Tree.contents c.args.tree.now) c.args.source.now c.plan_without.result (c.plan_without.ensures.said told)
