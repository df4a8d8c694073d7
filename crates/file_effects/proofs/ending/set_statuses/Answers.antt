use Rattle.std.proofs.Common.{sym, ◌∙◌, arith}
use Rattle.std.proofs.lemmas.Result.{err_from_is_err_and}
use Rattle.file_edits.proofs.AnswerLemmas.{handed-on, why-is}
use Rattle.file_edits.proofs.OwnLemmas.{came-on, own-on, own-wider}
use Rattle.slru_replay.specs.Area.{is_of_area}
use Rattle.slru_replay.specs.Status.{status_set}
use Rattle.slru_replay.specs.declared.area.Area.TheVariants.{Status}
use Rattle.file_effects.specs.Own.{is_replayed}
use Rattle.file_effects.proofs.DoneLemmas.{each-end, each-more, each-refused}
use Rattle.file_effects.proofs.OwnLemmas.{area-replayed}
use Rattle.storage_replay.specs.Sparing.{piece_of}
use Rattle.file_edits.proofs.SparingLemmas.{spared-on, spared-own}
use Rattle.file_effects.proofs.SparingLemmas.{area-away}
use Rattle.file_effects.proofs.ending.set_statuses.Goals as goal

pub returns-in_err-set_status-clause-exact : goal.returns-in_err-set_status-clause-exact
returns-in_err-set_status-clause-exact g c told =
    handed-on _ _ c.from_residual.result _ (err_from_is_err_and c.from_residual.result c.from_residual.ensures.1)
    (why-is _ _ _ (sym (c.loop-place.invariant.meant told))
    (each-refused (λ xid. status_set c.args.at.now.root xid c.args.status) c.args.xids.now c.loop-place.place c.item_at-xid.result (g.F.Tree.contents c.loop-place.tree) _ c.item_at-xid.ensures (c.in_err-set_status.ensures.exact told)))

pub returns-in_err-set_status-clause-own : goal.returns-in_err-set_status-clause-own
returns-in_err-set_status-clause-own g c told =
    own-on g.F.Tree.calls _ _ _ _ (c.loop-place.invariant.own told)
    (own-wider g.F.Tree.calls (is_of_area c.args.at.now.root Status) (is_replayed c.args.at.now.root) _ _ (area-replayed c.args.at.now.root Status) (c.set_status.ensures.own told))

pub loop-place-preserved : goal.loop-place-preserved
loop-place-preserved g c = record {
  frame = came-on g.F.Tree _ _ _ c.loop-place.invariant.frame c.set_status.ensures.frame;
  own = λ told. own-on g.F.Tree.calls _ _ _ _ (c.loop-place.invariant.own told)
      (own-wider g.F.Tree.calls (is_of_area c.args.at.now.root Status) (is_replayed c.args.at.now.root) _ _ (area-replayed c.args.at.now.root Status) (c.set_status.ensures.own told));
  spares = λ told name is free. spared-on g.F.Tree (piece_of c.args.at.now.root c.args.at.now.per_file name) _ _ _ (c.loop-place.invariant.spares told name is free) (spared-own g.F.Tree (is_of_area c.args.at.now.root Status) (piece_of c.args.at.now.root c.args.at.now.per_file name) _ _ (area-away c.args.at.now.root c.args.at.now.per_file c.requires.fit.some name is Status) c.set_status.ensures.frame (c.set_status.ensures.own told));
  meant = λ told.
      sym (each-more (λ xid. status_set c.args.at.now.root xid c.args.status) c.args.xids.now c.loop-place.place c.item_at-xid.result (g.F.Tree.contents c.loop-place.tree) (g.F.Tree.contents c.set_status.new.tree) c.item_at-xid.ensures (c.in_ok-set_status.ensures.exact told))
      ∙ c.loop-place.invariant.meant told;
}

pub returns-clause-exact : goal.returns-clause-exact
returns-clause-exact g c told =
    sym (c.loop-place.invariant.meant told) ∙ each-end (λ xid. status_set c.args.at.now.root xid c.args.status) c.args.xids.now c.loop-place.place (g.F.Tree.contents c.loop-place.tree) (omega arith)

pub returns-in_err-set_status-clause-spares : goal.returns-in_err-set_status-clause-spares
returns-in_err-set_status-clause-spares g c told name is free = spared-on g.F.Tree (piece_of c.args.at.now.root c.args.at.now.per_file name) _ _ _ (c.loop-place.invariant.spares told name is free) (spared-own g.F.Tree (is_of_area c.args.at.now.root Status) (piece_of c.args.at.now.root c.args.at.now.per_file name) _ _ (area-away c.args.at.now.root c.args.at.now.per_file c.requires.fit.some name is Status) c.set_status.ensures.frame (c.set_status.ensures.own told))
