use Rattle.std.proofs.Common.{subst}
use Rattle.std.proofs.lemmas.Result.{err_from_is_err_and}
use Rattle.cluster_tree.specs.Causes.{Passes}
use Rattle.clusters.specs.Faults.{IsFree}
use Rattle.resume_core.specs.Marks.{other_mark}
use Rattle.resume_core.proofs.MarkLemmas.{handed-mark, replay-passed, replay-refused}
use Rattle.resume_core.proofs.marks.check_others.Goals as goal

pub returns-in_err-check_other-clause-answer : goal.returns-in_err-check_other-clause-answer
returns-in_err-check_other-clause-answer g c told =
    handed-mark (Passes IsFree _) c.from_residual-in_err-check_other.result c.in_err-check_other.field-0.0 (err_from_is_err_and c.from_residual-in_err-check_other.result c.from_residual-in_err-check_other.ensures.1)
    (replay-refused (g.F.Tree.contents c.args.tree.now) c.args.root.now c.in_ok-replay.replay c.in_ok-replay.replay c.in_ok-replay.ensures.is c.in_err-check_other.field-0.0 (c.in_err-check_other.ensures.answer told))

pub returns-clause-answer : goal.returns-clause-answer
returns-clause-answer g c told =
    replay-passed (g.F.Tree.contents c.args.tree.now) c.args.root.now c.in_ok-replay.replay c.in_ok-reset.reset c.in_ok-replay.ensures.is c.check_other-2.result c.in_ok-reset.ensures.is (c.in_ok-check_other.ensures.answer told)
    (subst (λ x. Passes IsFree (other_mark x c.in_ok-reset.reset) c.check_other-2.result) c.check_other.ensures.reads.same (c.check_other-2.ensures.answer told))
