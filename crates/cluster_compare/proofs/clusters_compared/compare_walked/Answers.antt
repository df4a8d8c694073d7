use Rattle.std.proofs.Common.{◌≡◌, ◌⊎◌, Ok, Err, inl, inr, ap, sym, subst, ◌∙◌}
use Rattle.std.proofs.lemmas.Result.{err_from_is_err_and}
use Rattle.std.specs.Prelude.{IfErr}
use Rattle.cluster_tree.specs.Causes.{Meets, Rose}
use Rattle.cluster_tree.proofs.RunLemmas.{reads_on}
use Rattle.file_walk.proofs.InOrderLemmas.{walk_in_order}
use Rattle.file_walk.proofs.StartLemmas.{rose_on}
use Rattle.file_walk.specs.Faults.{IsFree as IsFreeOfWalk}
use Rattle.file_walk.specs.Walk.{HasParts, walk_of}
use Rattle.cluster_compare.specs.Compared.{verdict}
use Rattle.cluster_compare.specs.declared.compared.Compared.{Compared}
use Rattle.cluster_compare.specs.Faults.{IsChanged, IsFree, IsReadFault, IsRowOf}
use Rattle.cluster_compare.specs.Looks.{AreToldPairs}
use Rattle.cluster_compare.proofs.FaultLemmas.{file-changed, file-read, handed, look-free, look-row, walk-changed, walk-read}
use Rattle.cluster_compare.proofs.PairLemmas.{told-pairs}
use Rattle.cluster_compare.proofs.StageLemmas.{both-walked, first-walk, second-walk}
use Rattle.cluster_compare.proofs.clusters_compared.compare_walked.Goals as goal

pub returns-in_err-found-clause-exact : goal.returns-in_err-found-clause-exact
returns-in_err-found-clause-exact g c told =
    handed (Meets IsFree _) c.from_residual.result _ (err_from_is_err_and c.from_residual.result c.from_residual.ensures.1)
    (first-walk (g.F.Tree.contents c.args.tree.now) c.args.clusters.now.first.now c.args.clusters.now.second.now c.args.clusters.now.per_file c.in_err-found.field-0.0 (c.in_err-found.ensures.exact told))

pub returns-in_err-found-clause-read_fault : goal.returns-in_err-found-clause-read_fault
returns-in_err-found-clause-read_fault g c =
    handed (λ r. IfErr r (λ e. IsReadFault e → Rose (g.F.Tree.failed_reads c.args.tree.now) (g.F.Tree.failed_reads c.walk.new.tree))) c.from_residual.result _ (err_from_is_err_and c.from_residual.result c.from_residual.ensures.1)
    (λ is. c.in_err-found.ensures.read_fault (ap (λ e. Err e) (walk-read c.in_err-found.field-0.0 is)))

pub returns-in_err-found-clause-changed : goal.returns-in_err-found-clause-changed
returns-in_err-found-clause-changed g c told =
    handed (λ r. IfErr r (λ e. IsChanged e → ⊥)) c.from_residual.result _ (err_from_is_err_and c.from_residual.result c.from_residual.ensures.1)
    (λ is. let at = walk-changed c.in_err-found.field-0.0 is in c.in_err-found.ensures.changed told at.0 (ap (λ e. Err e) at.1))

pub returns-in_err-found-clause-row : goal.returns-in_err-found-clause-row
returns-in_err-found-clause-row g c =
    handed (λ r. IfErr r (IsRowOf c.args.clusters.now.first.now c.args.clusters.now.second.now)) c.from_residual.result _ (err_from_is_err_and c.from_residual.result c.from_residual.ensures.1) (inl c.in_err-found.ensures.row)

pub returns-in_err-there-clause-exact : goal.returns-in_err-there-clause-exact
returns-in_err-there-clause-exact g c told =
    handed (Meets IsFree _) c.from_residual-in_err-there.result _ (err_from_is_err_and c.from_residual-in_err-there.result c.from_residual-in_err-there.ensures.1)
    (second-walk (g.F.Tree.contents c.args.tree.now) c.args.clusters.now.first.now c.args.clusters.now.second.now c.args.clusters.now.per_file c.in_ok-found.found (c.in_ok-found.ensures.exact told) c.in_err-there.field-0.0
    (subst (λ x. IsFreeOfWalk c.in_err-there.field-0.0 ⊎ (walk_of x c.args.clusters.now.second.now ≡ Err c.in_err-there.field-0.0)) c.walk.ensures.reads.same (c.in_err-there.ensures.exact told)))

pub returns-in_err-there-clause-read_fault : goal.returns-in_err-there-clause-read_fault
returns-in_err-there-clause-read_fault g c =
    handed (λ r. IfErr r (λ e. IsReadFault e → Rose (g.F.Tree.failed_reads c.args.tree.now) (g.F.Tree.failed_reads c.walk-2.new.tree))) c.from_residual-in_err-there.result _ (err_from_is_err_and c.from_residual-in_err-there.result c.from_residual-in_err-there.ensures.1)
    (λ is. rose_on (g.F.Tree.failed_reads c.args.tree.now) (g.F.Tree.failed_reads c.walk.new.tree) (g.F.Tree.failed_reads c.walk-2.new.tree) c.walk.ensures.reads.reads c.walk-2.ensures.reads.reads (c.in_err-there.ensures.read_fault (ap (λ e. Err e) (walk-read c.in_err-there.field-0.0 is))))

pub returns-in_err-there-clause-changed : goal.returns-in_err-there-clause-changed
returns-in_err-there-clause-changed g c told =
    handed (λ r. IfErr r (λ e. IsChanged e → ⊥)) c.from_residual-in_err-there.result _ (err_from_is_err_and c.from_residual-in_err-there.result c.from_residual-in_err-there.ensures.1)
    (λ is. let at = walk-changed c.in_err-there.field-0.0 is in c.in_err-there.ensures.changed told at.0 (ap (λ e. Err e) at.1))

pub returns-in_err-there-clause-row : goal.returns-in_err-there-clause-row
returns-in_err-there-clause-row g c =
    handed (λ r. IfErr r (IsRowOf c.args.clusters.now.first.now c.args.clusters.now.second.now)) c.from_residual-in_err-there.result _ (err_from_is_err_and c.from_residual-in_err-there.result c.from_residual-in_err-there.ensures.1) (inr c.in_err-there.ensures.row)

pub returns-in_err-pairs-clause-exact : goal.returns-in_err-pairs-clause-exact
returns-in_err-pairs-clause-exact g c told =
    handed (Meets IsFree _) c.from_residual-in_err-pairs.result _ (err_from_is_err_and c.from_residual-in_err-pairs.result c.from_residual-in_err-pairs.ensures.1) (inl tt)

pub first_difference-requires-clause-told : goal.first_difference-requires-clause-told
first_difference-requires-clause-told g c told =
    subst (λ x. AreToldPairs x c.args.clusters.now.first.now c.args.clusters.now.second.now c.deref.result.now) (sym (c.walk-2.ensures.reads.same ∙ c.walk.ensures.reads.same))
    (subst (AreToldPairs (g.F.Tree.contents c.args.tree.now) c.args.clusters.now.first.now c.args.clusters.now.second.now)
    (sym (c.deref.ensures.value ∙ c.in_ok-pairs.ensures.value (walk_in_order _ _ _ (c.in_ok-found.ensures.exact told)) (walk_in_order _ _ _ (c.in_ok-there.ensures.exact told))))
    (told-pairs (g.F.Tree.contents c.args.tree.now) c.args.clusters.now.first.now c.args.clusters.now.second.now c.in_ok-found.found c.in_ok-there.there
    (c.in_ok-found.ensures.exact told) (subst (λ x. walk_of x c.args.clusters.now.second.now ≡ Ok c.in_ok-there.there) c.walk.ensures.reads.same (c.in_ok-there.ensures.exact told))
    (c.in_ok-found.ensures.parts told) (subst (λ x. HasParts x c.args.clusters.now.second.now) c.walk.ensures.reads.same (c.in_ok-there.ensures.parts told))))

pub returns-in_err-compared-clause-exact : goal.returns-in_err-compared-clause-exact
returns-in_err-compared-clause-exact g c told =
    handed (Meets IsFree _) c.from_residual-in_err-compared.result _ (err_from_is_err_and c.from_residual-in_err-compared.result c.from_residual-in_err-compared.ensures.1)
    (inl (look-free c.in_err-compared.field-0.0 c.in_err-compared.ensures.row (λ p is. c.in_err-compared.ensures.changed told p (ap (λ e. Err e) is))))

pub returns-in_err-compared-clause-read_fault : goal.returns-in_err-compared-clause-read_fault
returns-in_err-compared-clause-read_fault g c =
    handed (λ r. IfErr r (λ e. IsReadFault e → Rose (g.F.Tree.failed_reads c.args.tree.now) (g.F.Tree.failed_reads c.first_difference.new.tree))) c.from_residual-in_err-compared.result _ (err_from_is_err_and c.from_residual-in_err-compared.result c.from_residual-in_err-compared.ensures.1)
    (λ is. rose_on (g.F.Tree.failed_reads c.args.tree.now) (g.F.Tree.failed_reads c.walk-2.new.tree) (g.F.Tree.failed_reads c.first_difference.new.tree) (reads_on g.F.Tree c.args.tree.now c.walk.new.tree c.walk-2.new.tree c.walk.ensures.reads c.walk-2.ensures.reads).reads c.first_difference.ensures.reads.reads (c.in_err-compared.ensures.read_fault (ap (λ e. Err e) (file-read c.in_err-compared.field-0.0 is))))

pub returns-in_err-compared-clause-changed : goal.returns-in_err-compared-clause-changed
returns-in_err-compared-clause-changed g c told =
    handed (λ r. IfErr r (λ e. IsChanged e → ⊥)) c.from_residual-in_err-compared.result _ (err_from_is_err_and c.from_residual-in_err-compared.result c.from_residual-in_err-compared.ensures.1)
    (λ is. let at = file-changed c.in_err-compared.field-0.0 is in c.in_err-compared.ensures.changed told at.0 (ap (λ e. Err e) at.1))

pub returns-in_err-compared-clause-row : goal.returns-in_err-compared-clause-row
returns-in_err-compared-clause-row g c =
    handed (λ r. IfErr r (IsRowOf c.args.clusters.now.first.now c.args.clusters.now.second.now)) c.from_residual-in_err-compared.result _ (err_from_is_err_and c.from_residual-in_err-compared.result c.from_residual-in_err-compared.ensures.1) (look-row c.args.clusters.now.second.now c.in_err-compared.field-0.0 c.in_err-compared.ensures.row)

pub returns-clause-exact : goal.returns-clause-exact
returns-clause-exact g c told =
    both-walked (g.F.Tree.contents c.args.tree.now) c.args.clusters.now.first.now c.args.clusters.now.second.now c.args.clusters.now.per_file c.in_ok-found.found (c.in_ok-found.ensures.exact told)
    c.in_ok-there.there (subst (λ x. walk_of x c.args.clusters.now.second.now ≡ Ok c.in_ok-there.there) c.walk.ensures.reads.same (c.in_ok-there.ensures.exact told))
    ∙ ap (λ (v : Compared). Ok v) (ap (verdict (g.F.Tree.contents c.args.tree.now) c.args.clusters.now.per_file c.args.clusters.now.first.now c.args.clusters.now.second.now)
    (sym (c.deref.ensures.value ∙ c.in_ok-pairs.ensures.value (walk_in_order _ _ _ (c.in_ok-found.ensures.exact told)) (walk_in_order _ _ _ (c.in_ok-there.ensures.exact told))))
    ∙ ap (λ x. verdict x c.args.clusters.now.per_file c.args.clusters.now.first.now c.args.clusters.now.second.now c.deref.result.now) (sym (c.walk-2.ensures.reads.same ∙ c.walk.ensures.reads.same))
    ∙ sym (c.in_ok-compared.ensures.value told))
