use Rattle.std.proofs.Common.{Ok, ap, sym, ◌∙◌, subst}
use Rattle.std.proofs.lemmas.Result.{err_from_is_err_and}
use Rattle.file_edits.proofs.OwnLemmas.{own-read, own-on}
use Rattle.file_edits.specs.Edits.{on_way}
use Rattle.file_edits.specs.Own.{OnOwn}
use Rattle.file_edits.proofs.AnswerLemmas.{handed-on}
use Rattle.storage_databases.proofs.WholeLemmas.{made-refused, made-there, made-new}
use Rattle.storage_databases.proofs.SparingLemmas.{apart-write}
use Rattle.file_edits.proofs.SparingLemmas.{spared-on, spared-read}
use Rattle.cluster_tree.specs.PathOrder.{path_eq}
use Rattle.cluster_tree.specs.PathValue.{PathValue}
use Rattle.storage_databases.proofs.databases.make_database.Goals as goal

pub returns-in_err-found-clause-exact : goal.returns-in_err-found-clause-exact
returns-in_err-found-clause-exact g c told =
    handed-on _ _ c.from_residual-in_err-found.result _ (err_from_is_err_and c.from_residual-in_err-found.result c.from_residual-in_err-found.ensures.1)
    (made-refused c.args.root.now c.in_ok-path.path c.args.database (g.F.Tree.contents c.args.tree.now) c.in_ok-path.ensures.value _ (c.in_err-found.ensures.exact told))

pub returns-in-Some-clause-exact : goal.returns-in-Some-clause-exact
returns-in-Some-clause-exact g c told =
    made-there c.args.root.now c.in_ok-path.path c.args.database (g.F.Tree.contents c.args.tree.now) c.in_ok-path.ensures.value _ (c.in_ok-found.ensures.exact told ∙ ap (λ o. Ok o) c.in-Some.is)
    ∙ ap (λ x. Ok x) (sym c.file_size.ensures.frame.same)

pub returns-clause-exact : goal.returns-clause-exact
returns-clause-exact g c told =
    made-new c.args.root.now c.in_ok-path.path c.args.database (g.F.Tree.contents c.args.tree.now) c.in_ok-path.ensures.value (g.F.Tree.contents c.file_size.new.tree) (g.F.Tree.contents c.lay.new.tree) c.lay.result
    (c.in_ok-found.ensures.exact told ∙ ap (λ o. Ok o) c.in-None.is) c.file_size.ensures.frame.same (c.lay.ensures.exact told)

pub returns-clause-own : goal.returns-clause-own
returns-clause-own g c told =
    own-on g.F.Tree.calls _ _ _ _ (own-read g.F.Tree _ _ _ c.file_size.ensures.frame)
    (subst (λ p. OnOwn g.F.Tree.calls (on_way c.args.root.now p) c.file_size.new.tree c.lay.new.tree) c.in_ok-path.ensures.value (c.lay.ensures.own told))

pub returns-clause-spares : goal.returns-clause-spares
returns-clause-spares g c told piece away = spared-on g.F.Tree piece _ _ _ (spared-read g.F.Tree piece _ _ c.file_size.ensures.frame) (c.lay.ensures.spares told piece (apart-write piece c.in_ok-path.path 0 3 (ap (λ (p : PathValue). path_eq piece.path p) c.in_ok-path.ensures.value ∙ away)))
