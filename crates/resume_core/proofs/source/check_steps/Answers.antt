use Rattle.std.proofs.Common.{rules, subst, ◌≡◌, ◌⊎◌, None, Some}
use Rattle.std.proofs.lemmas.List.{nil_from_length}
use Rattle.std.proofs.lemmas.Result.{err_from_is_err_and}
use Rattle.cluster_tree.specs.Causes.{Passes}
use Rattle.rewind_writes.specs.Steps.{AllAreFit}
use Rattle.resume_core.specs.Faults.{IsFree}
use Rattle.resume_core.specs.Source.{lost_by}
use Rattle.resume_core.proofs.SourceLemmas.{breaks, differs, ends, goes-on, handed}
use Rattle.resume_core.proofs.source.check_steps.Goals as goal

pub check_step-requires : goal.check_step-requires
check_step-requires g c = record { fit = (subst AllAreFit c.in-Some.ensures.steps c.loop-step.invariant.fit).0 }

pub loop-step-preserved : goal.loop-step-preserved
loop-step-preserved g c = record {
  passed = λ told. goes-on (g.F.Tree.contents c.args.tree.now) c.args.steps.now.items _ (c.loop-step.invariant.passed told) c.in-Some.step.now _ c.in-Some.ensures.steps
      (subst (λ x. differs (lost_by x c.in-Some.step.now) ≡ None) c.loop-step.invariant.reads.same (c.in_ok-check_step.ensures.answer told));
  fit = (subst AllAreFit c.in-Some.ensures.steps c.loop-step.invariant.fit).1;
  reads = search rules;
}

pub returns-in_err-check_step-clause-answer : goal.returns-in_err-check_step-clause-answer
returns-in_err-check_step-clause-answer g c told =
    handed (Passes IsFree _) c.from_residual.result c.in_err-check_step.field-0.0 (err_from_is_err_and c.from_residual.result c.from_residual.ensures.1)
    (breaks (g.F.Tree.contents c.args.tree.now) c.args.steps.now.items _ (c.loop-step.invariant.passed told) c.in-Some.step.now _ c.in_err-check_step.field-0.0 c.in-Some.ensures.steps
    (subst (λ x. IsFree c.in_err-check_step.field-0.0 ⊎ (differs (lost_by x c.in-Some.step.now) ≡ Some c.in_err-check_step.field-0.0)) c.loop-step.invariant.reads.same (c.in_err-check_step.ensures.answer told)))

pub returns-clause-answer : goal.returns-clause-answer
returns-clause-answer g c told = ends (g.F.Tree.contents c.args.tree.now) c.args.steps.now.items _ (c.loop-step.invariant.passed told) (nil_from_length _ c.in-None.ensures.steps.0)
