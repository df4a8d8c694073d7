use Rattle.std.proofs.Common.{◌≡◌, ◌⊎◌, None, Some, Ok, Err, subst, ◌∙◌}
use Rattle.std.proofs.lemmas.Result.{err_from_is_err_and}
use Rattle.std.specs.Prelude.{IfErr}
use Rattle.cluster_tree.specs.Causes.{Meets, Rose}
use Rattle.cluster_tree.proofs.RunLemmas.{reads_on}
use Rattle.clusters.specs.Faults.{IsFree as IsFreeOfCluster}
use Rattle.clusters.specs.Marks.{unfinished}
use Rattle.clusters.specs.RootControl.{control_at}
use Rattle.file_walk.proofs.StartLemmas.{rose_on}
use Rattle.cluster_compare.specs.Compared.{compared, folder_refusal, from_walks}
use Rattle.cluster_compare.specs.Faults.{IsFree, IsReadFault, IsRowOf}
use Rattle.cluster_compare.proofs.FaultLemmas.{handed}
use Rattle.cluster_compare.proofs.StageLemmas.{control-refused, first-marked, folder-refused, second-marked, went-on}
use Rattle.cluster_compare.proofs.clusters_compared.compare_clusters.Goals as goal

pub returns-in_err-check_marks-clause-exact : goal.returns-in_err-check_marks-clause-exact
returns-in_err-check_marks-clause-exact g c told =
    handed (Meets IsFree (compared (g.F.Tree.contents c.args.tree.now) c.args.first.now c.args.second.now)) c.from_residual.result _ (err_from_is_err_and c.from_residual.result c.from_residual.ensures.1)
    (first-marked (g.F.Tree.contents c.args.tree.now) c.args.first.now c.args.second.now c.in_err-check_marks.field-0.0 (c.in_err-check_marks.ensures.answer told))

pub returns-in_err-check_marks-2-clause-exact : goal.returns-in_err-check_marks-2-clause-exact
returns-in_err-check_marks-2-clause-exact g c told =
    handed (Meets IsFree (compared (g.F.Tree.contents c.args.tree.now) c.args.first.now c.args.second.now)) c.from_residual-in_err-check_marks-2.result _
    (err_from_is_err_and c.from_residual-in_err-check_marks-2.result c.from_residual-in_err-check_marks-2.ensures.1)
    (second-marked (g.F.Tree.contents c.args.tree.now) c.args.first.now c.args.second.now (c.in_ok-check_marks.ensures.answer told) c.in_err-check_marks-2.field-0.0
    (subst (λ x. IsFreeOfCluster c.in_err-check_marks-2.field-0.0 ⊎ (unfinished x c.args.second.now ≡ Some c.in_err-check_marks-2.field-0.0)) c.check_marks.ensures.reads.same (c.in_err-check_marks-2.ensures.answer told)))

pub returns-in_err-control-clause-exact : goal.returns-in_err-control-clause-exact
returns-in_err-control-clause-exact g c told =
    handed (Meets IsFree (compared (g.F.Tree.contents c.args.tree.now) c.args.first.now c.args.second.now)) c.from_residual-in_err-control.result _
    (err_from_is_err_and c.from_residual-in_err-control.result c.from_residual-in_err-control.ensures.1)
    (control-refused (g.F.Tree.contents c.args.tree.now) c.args.first.now c.args.second.now (c.in_ok-check_marks.ensures.answer told)
    (subst (λ x. unfinished x c.args.second.now ≡ None) c.check_marks.ensures.reads.same (c.in_ok-check_marks-2.ensures.answer told)) c.in_err-control.field-0.0
    (subst (λ x. IsFreeOfCluster c.in_err-control.field-0.0 ⊎ (control_at x c.args.first.now ≡ Err c.in_err-control.field-0.0)) (c.check_marks-2.ensures.reads.same ∙ c.check_marks.ensures.reads.same) (c.in_err-control.ensures.exact told)))

pub returns-in_err-check_folder-clause-exact : goal.returns-in_err-check_folder-clause-exact
returns-in_err-check_folder-clause-exact g c told =
    handed (Meets IsFree (compared (g.F.Tree.contents c.args.tree.now) c.args.first.now c.args.second.now)) c.from_residual-in_err-check_folder.result _
    (err_from_is_err_and c.from_residual-in_err-check_folder.result c.from_residual-in_err-check_folder.ensures.1)
    (folder-refused (g.F.Tree.contents c.args.tree.now) c.args.first.now c.args.second.now (c.in_ok-check_marks.ensures.answer told)
    (subst (λ x. unfinished x c.args.second.now ≡ None) c.check_marks.ensures.reads.same (c.in_ok-check_marks-2.ensures.answer told)) c.in_ok-control.control
    (subst (λ x. control_at x c.args.first.now ≡ Ok c.in_ok-control.control) (c.check_marks-2.ensures.reads.same ∙ c.check_marks.ensures.reads.same) (c.in_ok-control.ensures.exact told))
    c.in_err-check_folder.field-0.0
    (subst (λ x. IsFree c.in_err-check_folder.field-0.0 ⊎ (folder_refusal x c.args.second.now ≡ Some c.in_err-check_folder.field-0.0))
    (c.control_at.ensures.reads.same ∙ c.check_marks-2.ensures.reads.same ∙ c.check_marks.ensures.reads.same) (c.in_err-check_folder.ensures.answer told)))

pub returns-in_err-check_folder-clause-read_fault : goal.returns-in_err-check_folder-clause-read_fault
returns-in_err-check_folder-clause-read_fault g c =
    handed (λ r. IfErr r (λ e. IsReadFault e → Rose (g.F.Tree.failed_reads c.args.tree.now) (g.F.Tree.failed_reads c.check_folder.new.tree))) c.from_residual-in_err-check_folder.result _
    (err_from_is_err_and c.from_residual-in_err-check_folder.result c.from_residual-in_err-check_folder.ensures.1)
    (λ is. rose_on (g.F.Tree.failed_reads c.args.tree.now) (g.F.Tree.failed_reads c.control_at.new.tree) (g.F.Tree.failed_reads c.check_folder.new.tree)
    (reads_on g.F.Tree c.args.tree.now c.check_marks-2.new.tree c.control_at.new.tree
    (reads_on g.F.Tree c.args.tree.now c.check_marks.new.tree c.check_marks-2.new.tree c.check_marks.ensures.reads c.check_marks-2.ensures.reads) c.control_at.ensures.reads).reads
    c.check_folder.ensures.reads.reads (c.in_err-check_folder.ensures.read_fault is))

pub returns-in_err-check_folder-clause-row : goal.returns-in_err-check_folder-clause-row
returns-in_err-check_folder-clause-row g c =
    handed (λ r. IfErr r (IsRowOf c.args.first.now c.args.second.now)) c.from_residual-in_err-check_folder.result _
    (err_from_is_err_and c.from_residual-in_err-check_folder.result c.from_residual-in_err-check_folder.ensures.1) (c.in_err-check_folder.ensures.row c.args.first.now)

pub returns-clause-exact : goal.returns-clause-exact
returns-clause-exact g c told =
    went-on (g.F.Tree.contents c.args.tree.now) c.args.first.now c.args.second.now (c.in_ok-check_marks.ensures.answer told)
    (subst (λ x. unfinished x c.args.second.now ≡ None) c.check_marks.ensures.reads.same (c.in_ok-check_marks-2.ensures.answer told)) c.in_ok-control.control
    (subst (λ x. control_at x c.args.first.now ≡ Ok c.in_ok-control.control) (c.check_marks-2.ensures.reads.same ∙ c.check_marks.ensures.reads.same) (c.in_ok-control.ensures.exact told))
    (subst (λ x. folder_refusal x c.args.second.now ≡ None) (c.control_at.ensures.reads.same ∙ c.check_marks-2.ensures.reads.same ∙ c.check_marks.ensures.reads.same) (c.in_ok-check_folder.ensures.answer told))
    c.compare_walked.result
    (subst (λ x. Meets IsFree (from_walks x c.in_ok-control.control.relseg c.args.first.now c.args.second.now) c.compare_walked.result)
    (c.check_folder.ensures.reads.same ∙ c.control_at.ensures.reads.same ∙ c.check_marks-2.ensures.reads.same ∙ c.check_marks.ensures.reads.same) (c.compare_walked.ensures.exact told))
