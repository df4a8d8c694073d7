use Rattle.std.proofs.Common.{◌∙◌, ap, inl, refl}
use Rattle.std.proofs.lemmas.Result.{err_from_is_err_and}
use Rattle.run_acts.specs.Causes.{cause_of}
use Rattle.run_acts.proofs.MadeSteps.{unseen_broken, unseen_report}
use Rattle.cluster_tree.specs.Frame.{moment_of}
use Rattle.rewind_writes.specs.Plan.{IsResumable}
use Rattle.rewind_core.proofs.FactLemmas.{resumable-over}
use Rattle.cmd_rewind.proofs.StopLemmas.{still-same}
use Rattle.cmd_rewind.proofs.makes.make_told.Goals as goal

pub returns-clause-performs : goal.returns-clause-performs
returns-clause-performs g c out_tells out =
    unseen_report c.in_ok-tell.ensures.whole refl (unseen_report c.in_ok-tell-2.ensures.whole refl (c.make.ensures.performs out_tells out))

pub returns-in_err-tell-clause-performs : goal.returns-in_err-tell-clause-performs
returns-in_err-tell-clause-performs g c out_tells out =
    let why = err_from_is_err_and c.from_residual.result c.from_residual.ensures.1 in
    unseen_broken (cause_of c.from_residual.result) c.in_err-tell.ensures.part refl (ap cause_of why.1 ∙ why.2 ∙ c.in_err-tell.ensures.only) refl refl

pub returns-in_err-tell-2-clause-performs : goal.returns-in_err-tell-2-clause-performs
returns-in_err-tell-2-clause-performs g c out_tells out =
    let why = err_from_is_err_and c.from_residual-in_err-tell-2.result c.from_residual-in_err-tell-2.ensures.1 in
    unseen_report c.in_ok-tell.ensures.whole refl
    (unseen_broken (cause_of c.from_residual-in_err-tell-2.result) c.in_err-tell-2.ensures.part refl (ap cause_of why.1 ∙ why.2 ∙ c.in_err-tell-2.ensures.only) refl refl)

pub returns-in_err-tell-clause-resumable : goal.returns-in_err-tell-clause-resumable
returns-in_err-tell-clause-resumable g c told view n is stands =
    let contents = g.F.Tree.contents c.args.tree.now in
    still-same (IsResumable view c.args.plan.text c.args.plan.writes) contents (moment_of g.F.Tree c.args.tree.now) stands (λ i same. resumable-over view contents n c.args.plan is i (inl same))

pub returns-in_err-tell-2-clause-resumable : goal.returns-in_err-tell-2-clause-resumable
returns-in_err-tell-2-clause-resumable g c told view n is stands =
    let contents = g.F.Tree.contents c.args.tree.now in
    still-same (IsResumable view c.args.plan.text c.args.plan.writes) contents (moment_of g.F.Tree c.args.tree.now) stands (λ i same. resumable-over view contents n c.args.plan is i (inl same))
