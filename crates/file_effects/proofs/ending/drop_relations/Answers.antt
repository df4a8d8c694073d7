use Rattle.std.proofs.Common.{sym, ◌∙◌, arith}
use Rattle.std.proofs.lemmas.Result.{err_from_is_err_and}
use Rattle.file_edits.proofs.AnswerLemmas.{handed-on, why-is}
use Rattle.file_edits.proofs.OwnLemmas.{came-on, own-on, own-wider}
use Rattle.storage_replay.specs.Changes.{relation_dropped}
use Rattle.storage_replay.specs.Files.{is_of_relation}
use Rattle.file_effects.specs.Own.{is_replayed}
use Rattle.file_effects.proofs.DoneLemmas.{each-end, each-more, each-refused}
use Rattle.file_effects.proofs.OwnLemmas.{relation-replayed}
use Rattle.storage_replay.specs.Sparing.{piece_of}
use Rattle.file_edits.proofs.SparingLemmas.{spared-on}
use Rattle.file_effects.proofs.SparingLemmas.{one-dropped, relation-away}
use Rattle.std.proofs.Common.{rules}
use Rattle.file_effects.proofs.ending.drop_relations.Goals as goal

pub returns-in_err-drop_relation-clause-exact : goal.returns-in_err-drop_relation-clause-exact
returns-in_err-drop_relation-clause-exact g c told =
    handed-on _ _ c.from_residual.result _ (err_from_is_err_and c.from_residual.result c.from_residual.ensures.1)
    (why-is _ _ _ (sym (c.loop-place.invariant.meant told))
    (each-refused (relation_dropped c.args.at.now.root) c.args.rels.now c.loop-place.place c.item_at-rel.result (g.F.Tree.contents c.loop-place.tree) _ c.item_at-rel.ensures (c.in_err-drop_relation.ensures.exact told)))

pub returns-in_err-drop_relation-clause-own : goal.returns-in_err-drop_relation-clause-own
returns-in_err-drop_relation-clause-own g c told =
    own-on g.F.Tree.calls _ _ _ _ (c.loop-place.invariant.own told)
    (own-wider g.F.Tree.calls (is_of_relation c.args.at.now.root c.item_at-rel.result) (is_replayed c.args.at.now.root) _ _ (relation-replayed c.args.at.now.root c.item_at-rel.result) (c.drop_relation.ensures.own told))

pub loop-place-preserved : goal.loop-place-preserved
loop-place-preserved g c = record {
  frame = came-on g.F.Tree _ _ _ c.loop-place.invariant.frame c.drop_relation.ensures.frame;
  own = λ told. own-on g.F.Tree.calls _ _ _ _ (c.loop-place.invariant.own told)
      (own-wider g.F.Tree.calls (is_of_relation c.args.at.now.root c.item_at-rel.result) (is_replayed c.args.at.now.root) _ _ (relation-replayed c.args.at.now.root c.item_at-rel.result) (c.drop_relation.ensures.own told));
  spares = λ told name is free. spared-on g.F.Tree (piece_of c.args.at.now.root c.args.at.now.per_file name) _ _ _ (c.loop-place.invariant.spares told name is free) (c.drop_relation.ensures.spares told (piece_of c.args.at.now.root c.args.at.now.per_file name) (relation-away c.args.at.now.root c.args.at.now.per_file c.requires.fit.some name is c.item_at-rel.result (record { database = search rules; relation = search rules }) (one-dropped c.args.rels.now name c.loop-place.place c.item_at-rel.result free c.item_at-rel.ensures)));
  meant = λ told.
      sym (each-more (relation_dropped c.args.at.now.root) c.args.rels.now c.loop-place.place c.item_at-rel.result (g.F.Tree.contents c.loop-place.tree) (g.F.Tree.contents c.drop_relation.new.tree) c.item_at-rel.ensures (c.in_ok-drop_relation.ensures.exact told))
      ∙ c.loop-place.invariant.meant told;
}

pub returns-clause-exact : goal.returns-clause-exact
returns-clause-exact g c told =
    sym (c.loop-place.invariant.meant told) ∙ each-end (relation_dropped c.args.at.now.root) c.args.rels.now c.loop-place.place (g.F.Tree.contents c.loop-place.tree) (omega arith)

pub returns-in_err-drop_relation-clause-spares : goal.returns-in_err-drop_relation-clause-spares
returns-in_err-drop_relation-clause-spares g c told name is free = spared-on g.F.Tree (piece_of c.args.at.now.root c.args.at.now.per_file name) _ _ _ (c.loop-place.invariant.spares told name is free) (c.drop_relation.ensures.spares told (piece_of c.args.at.now.root c.args.at.now.per_file name) (relation-away c.args.at.now.root c.args.at.now.per_file c.requires.fit.some name is c.item_at-rel.result (record { database = search rules; relation = search rules }) (one-dropped c.args.rels.now name c.loop-place.place c.item_at-rel.result free c.item_at-rel.ensures)))
