use Rattle.std.proofs.Common.{subst}
use Rattle.std.proofs.lemmas.Result.{err_from_is_err_and}
use Rattle.cluster_tree.specs.Causes.{Passes}
use Rattle.plan_text.specs.Text.{said_by}
use Rattle.resume_core.specs.Faults.{IsFree}
use Rattle.resume_core.specs.Source.{first_lost}
use Rattle.resume_core.proofs.SourceLemmas.{differs, handed, sum-differs, sum-passes}
use Rattle.resume_core.proofs.source.check_source.Goals as goal

pub returns-in_err-check_found-clause-answer : goal.returns-in_err-check_found-clause-answer
returns-in_err-check_found-clause-answer g c told =
    handed (Passes IsFree _) c.from_residual-in_err-check_found.result c.in_err-check_found.field-0.0 (err_from_is_err_and c.from_residual-in_err-check_found.result c.from_residual-in_err-check_found.ensures.1)
    (sum-differs (g.F.Tree.contents c.args.tree.now) c.args.source.now c.in_ok-control.control (said_by c.args.stored.now) c.in_ok-sum.sum c.in_ok-control.ensures.is (c.in_ok-sum.ensures.value told)
    c.in_err-check_found.field-0.0 c.in_err-check_found.ensures.answer)

pub returns-clause-answer : goal.returns-clause-answer
returns-clause-answer g c told =
    sum-passes (g.F.Tree.contents c.args.tree.now) c.args.source.now c.in_ok-control.control (said_by c.args.stored.now) c.in_ok-sum.sum c.in_ok-control.ensures.is (c.in_ok-sum.ensures.value told)
    c.check_steps.result c.in_ok-check_found.ensures.answer
    (subst (λ x. Passes IsFree (differs (first_lost x c.args.stored.now.plan.steps.items)) c.check_steps.result) c.sum_at.ensures.reads.same (c.check_steps.ensures.answer told))
