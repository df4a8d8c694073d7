use Rattle.std.proofs.Common.{◌∙◌, ap, refl, sym}
use Rattle.std.proofs.lemmas.Result.{err_from_is_err_and}
use Rattle.cluster_tree.specs.Frame.{moment_of}
use Rattle.resumed_laws.specs.Resumed.{resumed_changes}
use Rattle.stored_laws.proofs.PlanLemmas.{stored-of_target}
use Rattle.run_acts.specs.Causes.{cause_of}
use Rattle.cmd_resume.specs.Rests.{again_rest}
use Rattle.cmd_resume.proofs.CarryLemmas.{rest-form}
use Rattle.cmd_resume.proofs.CallLemmas.{none-tried}
use Rattle.cmd_resume.proofs.ResumeLemmas.{still-again}
use Rattle.cmd_resume.proofs.RestLemmas.{unseen_line, unseen_line_broken}
use Rattle.cmd_resume.proofs.makes.make_told.Goals as goal

pub returns-clause-carries : goal.returns-clause-carries
returns-clause-carries g c out_tells out =
    unseen_line c.in_ok-tell.ensures.whole refl (unseen_line c.in_ok-tell-2.ensures.whole refl (c.make.ensures.carries out_tells out))

pub returns-in_err-tell-clause-carries : goal.returns-in_err-tell-clause-carries
returns-in_err-tell-clause-carries g c out_tells out =
    let contents = g.F.Tree.contents c.args.tree.now in
    let stored = c.args.stored in
    let target = c.args.target.now in
    let why = err_from_is_err_and c.from_residual.result c.from_residual.ensures.1 in
    unseen_line_broken {ended = cause_of c.from_residual.result}
    (again_rest target contents stored.plan, rest-form target contents (resumed_changes contents stored.plan) (stored-of_target contents target c.requires.between.0 stored c.requires.between.1), refl)
    c.in_err-tell.ensures.part refl (ap cause_of why.1 ∙ why.2 ∙ c.in_err-tell.ensures.only)

pub returns-in_err-tell-2-clause-carries : goal.returns-in_err-tell-2-clause-carries
returns-in_err-tell-2-clause-carries g c out_tells out =
    let contents = g.F.Tree.contents c.args.tree.now in
    let stored = c.args.stored in
    let target = c.args.target.now in
    let why = err_from_is_err_and c.from_residual-in_err-tell-2.result c.from_residual-in_err-tell-2.ensures.1 in
    unseen_line c.in_ok-tell.ensures.whole refl
    (unseen_line_broken {ended = cause_of c.from_residual-in_err-tell-2.result}
    (rest-form target contents (resumed_changes contents stored.plan) (stored-of_target contents target c.requires.between.0 stored c.requires.between.1))
    c.in_err-tell-2.ensures.part refl (ap cause_of why.1 ∙ why.2 ∙ c.in_err-tell-2.ensures.only))

pub returns-in_err-tell-clause-again : goal.returns-in_err-tell-clause-again
returns-in_err-tell-clause-again g c told found e may = still-again found e c.args.stored.plan (moment_of g.F.Tree c.args.tree.now) may

pub returns-in_err-tell-2-clause-again : goal.returns-in_err-tell-2-clause-again
returns-in_err-tell-2-clause-again g c told found e may = still-again found e c.args.stored.plan (moment_of g.F.Tree c.args.tree.now) may

pub returns-in_err-tell-clause-tries : goal.returns-in_err-tell-clause-tries
returns-in_err-tell-clause-tries g c told =
    let contents = g.F.Tree.contents c.args.tree.now in
    let why = err_from_is_err_and c.from_residual.result c.from_residual.ensures.1 in
    none-tried contents (resumed_changes contents c.args.stored.plan) (g.F.Tree.calls c.args.tree.now) (cause_of c.from_residual.result)
    (λ way is. cc (sym (ap cause_of why.1 ∙ why.2 ∙ c.in_err-tell.ensures.only) ∙ is))

pub returns-in_err-tell-2-clause-tries : goal.returns-in_err-tell-2-clause-tries
returns-in_err-tell-2-clause-tries g c told =
    let contents = g.F.Tree.contents c.args.tree.now in
    let why = err_from_is_err_and c.from_residual-in_err-tell-2.result c.from_residual-in_err-tell-2.ensures.1 in
    none-tried contents (resumed_changes contents c.args.stored.plan) (g.F.Tree.calls c.args.tree.now) (cause_of c.from_residual-in_err-tell-2.result)
    (λ way is. cc (sym (ap cause_of why.1 ∙ why.2 ∙ c.in_err-tell-2.ensures.only) ∙ is))
