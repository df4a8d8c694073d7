use Rattle.std.proofs.Common.{◌≡◌, ◌⊎◌, None, Some, subst}
use Rattle.std.proofs.lemmas.Result.{err_from_is_err_and}
use Rattle.std.specs.Prelude.{IsErrOf}
use Rattle.cluster_tree.specs.Causes.{Rose}
use Rattle.cluster_tree.specs.Marks.{marks_of}
use Rattle.clusters.specs.Faults.{IsFree}
use Rattle.clusters.specs.declared.fault.ClusterFault.TheVariants.{ReadFault}
use Rattle.resume_core.specs.Marks.{Finds, other_marks}
use Rattle.resume_core.proofs.MarkLemmas.{handed-mark, mark-found, others-refused, own-refused, rose-later, same-fault}
use Rattle.resume_core.proofs.marks.mark_at.Goals as goal

pub returns-in_err-bytes-clause-found : goal.returns-in_err-bytes-clause-found
returns-in_err-bytes-clause-found g c told =
    handed-mark (Finds _) c.from_residual-in_err-bytes.result c.in_err-bytes.field-0.0 (err_from_is_err_and c.from_residual-in_err-bytes.result c.from_residual-in_err-bytes.ensures.1)
    (own-refused (g.F.Tree.contents c.args.tree.now) c.args.root.now c.in_ok-mark.mark c.in_ok-mark.ensures.is c.in_err-bytes.field-0.0 (c.in_err-bytes.ensures.found told))

pub returns-in_err-check_others-clause-found : goal.returns-in_err-check_others-clause-found
returns-in_err-check_others-clause-found g c told =
    handed-mark (Finds _) c.from_residual-in_err-check_others.result c.in_err-check_others.field-0.0 (err_from_is_err_and c.from_residual-in_err-check_others.result c.from_residual-in_err-check_others.ensures.1)
    (others-refused (g.F.Tree.contents c.args.tree.now) c.args.root.now c.in_ok-mark.mark c.in_ok-mark.ensures.is _ (c.in_ok-bytes.ensures.found told) c.in_err-check_others.field-0.0
    (subst (λ x. IsFree c.in_err-check_others.field-0.0 ⊎ (other_marks x (marks_of c.args.root.now) ≡ Some c.in_err-check_others.field-0.0)) c.own_mark.ensures.reads.same (c.in_err-check_others.ensures.answer told)))

pub returns-in_err-check_others-clause-read_fault : goal.returns-in_err-check_others-clause-read_fault
returns-in_err-check_others-clause-read_fault g c =
    handed-mark (λ r. IsErrOf r ReadFault → Rose (g.F.Tree.failed_reads c.args.tree.now) (g.F.Tree.failed_reads c.check_others.new.tree)) c.from_residual-in_err-check_others.result c.in_err-check_others.field-0.0
    (err_from_is_err_and c.from_residual-in_err-check_others.result c.from_residual-in_err-check_others.ensures.1)
    (λ is. rose-later (g.F.Tree.failed_reads c.args.tree.now) (g.F.Tree.failed_reads c.own_mark.new.tree) (g.F.Tree.failed_reads c.check_others.new.tree) c.own_mark.ensures.reads.reads c.check_others.ensures.reads.reads (c.in_err-check_others.ensures.read_fault (same-fault c.in_err-check_others.field-0.0 ReadFault is)))

pub returns-clause-found : goal.returns-clause-found
returns-clause-found g c told =
    mark-found (g.F.Tree.contents c.args.tree.now) c.args.root.now c.in_ok-mark.mark c.in_ok-mark.ensures.is _ (c.in_ok-bytes.ensures.found told)
    (subst (λ x. other_marks x (marks_of c.args.root.now) ≡ None) c.own_mark.ensures.reads.same (c.in_ok-check_others.ensures.answer told))
