use Rattle.std.proofs.Common.{inl, inr, ⊎_elim}
use Rattle.std.proofs.lemmas.Result.{err_from_is_err_and}
use Rattle.cluster_tree.specs.PathOrder.{path_eq}
use Rattle.file_edits.specs.Edits.{laid}
use Rattle.file_edits.proofs.AnswerLemmas.{does-unchanged}
use Rattle.file_edits.proofs.OwnLemmas.{own-on, own-wider}
use Rattle.file_edits.proofs.WayLemmas.{way-own}
use Rattle.file_edits.proofs.EditLemmas.{edited-stays, edited-unchanged, laid-exact}
use Rattle.file_edits.proofs.SparingLemmas.{padded-spares, spared-on}
use Rattle.file_edits.proofs.editing.lay.Goals as goal

pub returns-in_err-there-clause-exact : goal.returns-in_err-there-clause-exact
returns-in_err-there-clause-exact g c told =
    let p = err_from_is_err_and c.from_residual.result c.from_residual.ensures.1 in
    rw (p.1, p.2) (⊎_elim (λ free. inl free) (λ is. inr (edited-stays c.args.root.now c.args.path.now (laid c.args.size c.args.at c.args.bytes.now) (g.F.Tree.contents c.args.tree.now) _ is)) (c.in_err-there.ensures.exact told))

pub returns-in_err-pad_to-clause-own : goal.returns-in_err-pad_to-clause-own
returns-in_err-pad_to-clause-own g c told =
    own-on g.F.Tree.calls _ _ _ _ (c.ensure_file.ensures.own told)
    (own-wider g.F.Tree.calls (λ q. path_eq q c.args.path.now) _ _ _ (way-own c.args.root.now c.args.path.now) (c.pad_to.ensures.own told))

pub returns-clause-exact : goal.returns-clause-exact
returns-clause-exact g c told =
    laid-exact c.args.root.now c.args.path.now c.args.size c.args.at c.args.bytes.now (g.F.Tree.contents c.args.tree.now) (g.F.Tree.contents c.ensure_file.new.tree) (g.F.Tree.contents c.pad_to.new.tree) (g.F.Tree.contents c.write.new.tree) c.write.result
    (c.in_ok-there.ensures.exact told) (c.in_ok-pad_to.ensures.exact told (c.in_ok-there.ensures.size told)) c.requires.within (c.write.ensures.exact told)

pub returns-clause-own : goal.returns-clause-own
returns-clause-own g c told =
    own-on g.F.Tree.calls _ _ _ _ (c.ensure_file.ensures.own told)
    (own-on g.F.Tree.calls _ _ _ _
    (own-wider g.F.Tree.calls (λ q. path_eq q c.args.path.now) _ _ _ (way-own c.args.root.now c.args.path.now) (c.pad_to.ensures.own told))
    (own-wider g.F.Tree.calls (λ q. path_eq q c.args.path.now) _ _ _ (way-own c.args.root.now c.args.path.now) (c.write.ensures.own told)))

pub returns-clause-changed : goal.returns-clause-changed
returns-clause-changed g c told p =
    does-unchanged _ _ c.write.result (returns-clause-exact g c told) (edited-unchanged c.args.root.now c.args.path.now (laid c.args.size c.args.at c.args.bytes.now) (g.F.Tree.contents c.args.tree.now)) p

pub returns-in_err-pad_to-clause-spares : goal.returns-in_err-pad_to-clause-spares
returns-in_err-pad_to-clause-spares g c told piece is =
    padded-spares g.F.Tree piece c.args.path.now _ _ _ _ (c.ensure_file.ensures.spares told piece) (c.in_ok-there.ensures.size told) (c.pad_to.ensures.spares told piece)

pub returns-clause-spares : goal.returns-clause-spares
returns-clause-spares g c told piece is =
    spared-on g.F.Tree piece _ _ _
    (padded-spares g.F.Tree piece c.args.path.now _ _ _ _ (c.ensure_file.ensures.spares told piece) (c.in_ok-there.ensures.size told) (c.pad_to.ensures.spares told piece))
    (c.write.ensures.spares told piece is)

pub returns-in_err-there-clause-spares : goal.returns-in_err-there-clause-spares
returns-in_err-there-clause-spares g c told piece is = c.ensure_file.ensures.spares told piece
