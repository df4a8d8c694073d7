use Rattle.std.proofs.lemmas.Result.{err_from_is_err_and}
use Rattle.file_edits.proofs.AnswerLemmas.{handed-on}
use Rattle.file_effects.proofs.DoneLemmas.{ended-then, own-refused, subs-refused}
use Rattle.std.proofs.Common.{refl}
use Rattle.storage_replay.specs.Sparing.{piece_of}
use Rattle.file_edits.proofs.SparingLemmas.{spared-on}
use Rattle.file_effects.proofs.ending.end_transaction.Goals as goal

pub returns-in_err-set_own-clause-exact : goal.returns-in_err-set_own-clause-exact
returns-in_err-set_own-clause-exact g c told =
    handed-on _ _ c.from_residual.result _ (err_from_is_err_and c.from_residual.result c.from_residual.ensures.1)
    (own-refused c.args.at.now.root c.args.xid c.args.outcome c.args.end.now c.status_of-status.result c.status_of-status.ensures.value (g.F.Tree.contents c.args.tree.now) _ (c.in_err-set_own.ensures.exact told))

pub returns-in_err-set_statuses-clause-exact : goal.returns-in_err-set_statuses-clause-exact
returns-in_err-set_statuses-clause-exact g c told =
    handed-on _ _ c.from_residual-in_err-set_statuses.result _ (err_from_is_err_and c.from_residual-in_err-set_statuses.result c.from_residual-in_err-set_statuses.ensures.1)
    (subs-refused c.args.at.now.root c.args.xid c.args.outcome c.args.end.now c.status_of-status.result c.status_of-status.ensures.value (g.F.Tree.contents c.args.tree.now) (g.F.Tree.contents c.set_own.new.tree) _
    (c.in_ok-set_own.ensures.exact told) (c.in_err-set_statuses.ensures.exact told))

pub returns-clause-exact : goal.returns-clause-exact
returns-clause-exact g c told =
    ended-then c.args.at.now.root c.args.xid c.args.outcome c.args.end.now c.status_of-status.result c.status_of-status.ensures.value (g.F.Tree.contents c.args.tree.now) (g.F.Tree.contents c.set_own.new.tree) (g.F.Tree.contents c.set_statuses.new.tree) (g.F.Tree.contents c.drop_relations.new.tree) c.drop_relations.result
    (c.in_ok-set_own.ensures.exact told) (c.in_ok-set_statuses.ensures.exact told) (c.drop_relations.ensures.exact told)

pub returns-in_err-set_own-clause-spares : goal.returns-in_err-set_own-clause-spares
returns-in_err-set_own-clause-spares g c told name is free = c.set_own.ensures.spares told name is refl

pub returns-in_err-set_statuses-clause-spares : goal.returns-in_err-set_statuses-clause-spares
returns-in_err-set_statuses-clause-spares g c told name is free = spared-on g.F.Tree (piece_of c.args.at.now.root c.args.at.now.per_file name) _ _ _ (c.set_own.ensures.spares told name is refl) (c.set_statuses.ensures.spares told name is refl)

pub returns-clause-spares : goal.returns-clause-spares
returns-clause-spares g c told name is free = spared-on g.F.Tree (piece_of c.args.at.now.root c.args.at.now.per_file name) _ _ _ (spared-on g.F.Tree (piece_of c.args.at.now.root c.args.at.now.per_file name) _ _ _ (c.set_own.ensures.spares told name is refl) (c.set_statuses.ensures.spares told name is refl)) (c.drop_relations.ensures.spares told name is free)
