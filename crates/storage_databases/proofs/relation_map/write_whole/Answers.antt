use Rattle.std.proofs.Common.{rules}
use Rattle.std.proofs.lemmas.Result.{err_from_is_err_and}
use Rattle.cluster_tree.specs.PathOrder.{path_eq}
use Rattle.file_edits.specs.Edits.{on_way}
use Rattle.file_edits.proofs.OwnLemmas.{own-on, own-wider}
use Rattle.file_edits.proofs.WayLemmas.{way-own}
use Rattle.file_edits.proofs.AnswerLemmas.{handed-on}
use Rattle.storage_databases.proofs.WholeLemmas.{whole-exact, whole-refused}
use Rattle.storage_databases.proofs.SparingLemmas.{apart-write, apart-cut}
use Rattle.file_edits.proofs.SparingLemmas.{spared-on}
use Rattle.storage_databases.proofs.relation_map.write_whole.Goals as goal

pub returns-in_err-lay-clause-exact : goal.returns-in_err-lay-clause-exact
returns-in_err-lay-clause-exact g c told =
    handed-on _ _ c.from_residual.result _ (err_from_is_err_and c.from_residual.result c.from_residual.ensures.1)
    (whole-refused c.args.root.now c.args.path.now c.args.bytes.now (g.F.Tree.contents c.args.tree.now) _ (c.in_err-lay.ensures.exact told))

pub returns-clause-exact : goal.returns-clause-exact
returns-clause-exact g c told =
    whole-exact c.args.root.now c.args.path.now _ c.args.bytes.now (g.F.Tree.contents c.args.tree.now) (g.F.Tree.contents c.lay.new.tree) (g.F.Tree.contents c.shorten.new.tree) c.shorten.result
    (search rules) (c.in_ok-lay.ensures.exact told) (c.shorten.ensures.exact told)

pub returns-clause-own : goal.returns-clause-own
returns-clause-own g c told =
    own-on g.F.Tree.calls _ _ _ _ (c.lay.ensures.own told)
    (own-wider g.F.Tree.calls (λ q. path_eq q c.args.path.now) (on_way c.args.root.now c.args.path.now) _ _ (way-own c.args.root.now c.args.path.now) (c.shorten.ensures.own told))

pub returns-in_err-lay-clause-spares : goal.returns-in_err-lay-clause-spares
returns-in_err-lay-clause-spares g c told piece away = c.lay.ensures.spares told piece (apart-write piece c.args.path.now _ _ away)

pub returns-clause-spares : goal.returns-clause-spares
returns-clause-spares g c told piece away = spared-on g.F.Tree piece _ _ _ (c.lay.ensures.spares told piece (apart-write piece c.args.path.now _ _ away)) (c.shorten.ensures.spares told piece (apart-cut piece c.args.path.now _ away))
