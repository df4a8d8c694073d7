use Rattle.std.proofs.Common.{ap, ◌∙◌, inl, ⊎_elim, Ok}
use Rattle.std.proofs.lemmas.Result.{err_from_is_err_and}
use Rattle.cluster_tree.specs.PathOrder.{path_eq}
use Rattle.file_edits.proofs.OwnLemmas.{own-read, own-on, own-wider}
use Rattle.file_edits.proofs.WayLemmas.{way-own}
use Rattle.file_edits.proofs.EditLemmas.{new-unrefused}
use Rattle.file_edits.proofs.SparingLemmas.{spared-on, spared-read}
use Rattle.file_edits.proofs.editing.ensure_file.Goals as goal

pub returns-in_err-make_file-in-None-clause-exact : goal.returns-in_err-make_file-in-None-clause-exact
returns-in_err-make_file-in-None-clause-exact g c told =
    let p = err_from_is_err_and c.from_residual-in_err-make_file-in-None.result c.from_residual-in_err-make_file-in-None.ensures.1 in
    let absent = c.in_ok-found.ensures.exact told ∙ ap (λ o. Ok o) c.in-None.is in
    let made = rw c.file_size.ensures.frame.same at (c.in_ok-make_way-in-None.ensures.exact told) in
    let none = new-unrefused c.args.root.now c.args.path.now (g.F.Tree.contents c.args.tree.now) (g.F.Tree.contents c.make_way.new.tree) c.requires.held c.requires.deeper absent made in
    rw (p.1, p.2) (⊎_elim (λ free. inl free) (λ no. absurd cc) (c.in_err-make_file-in-None.ensures.exact told none))

pub returns-in_err-make_file-in-None-clause-own : goal.returns-in_err-make_file-in-None-clause-own
returns-in_err-make_file-in-None-clause-own g c told =
    own-on g.F.Tree.calls _ _ _ _ (own-read g.F.Tree _ _ _ c.file_size.ensures.frame)
    (own-on g.F.Tree.calls _ _ _ _ (c.make_way.ensures.own told)
    (own-wider g.F.Tree.calls (λ q. path_eq q c.args.path.now) _ _ _ (way-own c.args.root.now c.args.path.now) (c.make_file.ensures.own told)))

pub returns-in_ok-make_file-in-None-clause-own : goal.returns-in_ok-make_file-in-None-clause-own
returns-in_ok-make_file-in-None-clause-own g c told =
    own-on g.F.Tree.calls _ _ _ _ (own-read g.F.Tree _ _ _ c.file_size.ensures.frame)
    (own-on g.F.Tree.calls _ _ _ _ (c.make_way.ensures.own told)
    (own-wider g.F.Tree.calls (λ q. path_eq q c.args.path.now) _ _ _ (way-own c.args.root.now c.args.path.now) (c.make_file.ensures.own told)))

pub returns-in_err-make_file-in-None-clause-spares : goal.returns-in_err-make_file-in-None-clause-spares
returns-in_err-make_file-in-None-clause-spares g c told piece =
    spared-on g.F.Tree piece _ _ _ (spared-read g.F.Tree piece _ _ c.file_size.ensures.frame)
    (spared-on g.F.Tree piece _ _ _ (c.make_way.ensures.spares told piece) (c.make_file.ensures.spares told piece))

pub returns-in_ok-make_file-in-None-clause-spares : goal.returns-in_ok-make_file-in-None-clause-spares
returns-in_ok-make_file-in-None-clause-spares g c told piece =
    spared-on g.F.Tree piece _ _ _ (spared-read g.F.Tree piece _ _ c.file_size.ensures.frame)
    (spared-on g.F.Tree piece _ _ _ (c.make_way.ensures.spares told piece) (c.make_file.ensures.spares told piece))

pub returns-in_err-make_way-in-None-clause-spares : goal.returns-in_err-make_way-in-None-clause-spares
returns-in_err-make_way-in-None-clause-spares g c told piece =
    spared-on g.F.Tree piece _ _ _ (spared-read g.F.Tree piece _ _ c.file_size.ensures.frame) (c.make_way.ensures.spares told piece)
