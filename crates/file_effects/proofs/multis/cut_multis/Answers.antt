use Rattle.std.proofs.lemmas.Result.{err_from_is_err_and}
use Rattle.file_edits.proofs.AnswerLemmas.{handed-on}
use Rattle.file_edits.proofs.OwnLemmas.{own-on, own-wider}
use Rattle.slru_replay.specs.Area.{is_of_area}
use Rattle.slru_replay.specs.declared.area.Area.TheVariants.{Offsets, Members}
use Rattle.file_effects.specs.Own.{is_replayed}
use Rattle.file_effects.proofs.DoneLemmas.{members-then, offsets-refused}
use Rattle.file_effects.proofs.OwnLemmas.{area-replayed}
use Rattle.storage_replay.specs.Sparing.{piece_of}
use Rattle.file_edits.proofs.SparingLemmas.{spared-on, spared-own}
use Rattle.file_effects.proofs.SparingLemmas.{area-away}
use Rattle.file_effects.proofs.multis.cut_multis.Goals as goal

pub returns-in_err-cut_before-clause-exact : goal.returns-in_err-cut_before-clause-exact
returns-in_err-cut_before-clause-exact g c told =
    handed-on _ _ c.from_residual.result _ (err_from_is_err_and c.from_residual.result c.from_residual.ensures.1)
    (offsets-refused c.args.at.now.root c.args.cut c.page_before-page.result c.page_before-page.ensures (g.F.Tree.contents c.args.tree.now) _ (c.in_err-cut_before.ensures.exact told))

pub returns-in_err-cut_before-clause-own : goal.returns-in_err-cut_before-clause-own
returns-in_err-cut_before-clause-own g c told =
    own-wider g.F.Tree.calls (is_of_area c.args.at.now.root Offsets) (is_replayed c.args.at.now.root) _ _ (area-replayed c.args.at.now.root Offsets) (c.cut_before.ensures.own told)

pub returns-clause-exact : goal.returns-clause-exact
returns-clause-exact g c told =
    members-then c.args.at.now.root c.args.cut c.page_before-page.result c.page_before-page.ensures (g.F.Tree.contents c.args.tree.now) (g.F.Tree.contents c.cut_before.new.tree) (g.F.Tree.contents c.cut_before-2.new.tree) c.cut_before-2.result
    (c.in_ok-cut_before.ensures.exact told) (c.cut_before-2.ensures.exact told)

pub returns-clause-own : goal.returns-clause-own
returns-clause-own g c told =
    own-on g.F.Tree.calls _ _ _ _
    (own-wider g.F.Tree.calls (is_of_area c.args.at.now.root Offsets) (is_replayed c.args.at.now.root) _ _ (area-replayed c.args.at.now.root Offsets) (c.cut_before.ensures.own told))
    (own-wider g.F.Tree.calls (is_of_area c.args.at.now.root Members) (is_replayed c.args.at.now.root) _ _ (area-replayed c.args.at.now.root Members) (c.cut_before-2.ensures.own told))

pub returns-in_err-cut_before-clause-spares : goal.returns-in_err-cut_before-clause-spares
returns-in_err-cut_before-clause-spares g c told name is free = spared-own g.F.Tree (is_of_area c.args.at.now.root Offsets) (piece_of c.args.at.now.root c.args.at.now.per_file name) _ _ (area-away c.args.at.now.root c.args.at.now.per_file c.requires.fit.some name is Offsets) c.cut_before.ensures.frame (c.cut_before.ensures.own told)

pub returns-clause-spares : goal.returns-clause-spares
returns-clause-spares g c told name is free = spared-on g.F.Tree (piece_of c.args.at.now.root c.args.at.now.per_file name) _ _ _ (spared-own g.F.Tree (is_of_area c.args.at.now.root Offsets) (piece_of c.args.at.now.root c.args.at.now.per_file name) _ _ (area-away c.args.at.now.root c.args.at.now.per_file c.requires.fit.some name is Offsets) c.cut_before.ensures.frame (c.cut_before.ensures.own told)) (spared-own g.F.Tree (is_of_area c.args.at.now.root Members) (piece_of c.args.at.now.root c.args.at.now.per_file name) _ _ (area-away c.args.at.now.root c.args.at.now.per_file c.requires.fit.some name is Members) c.cut_before-2.ensures.frame (c.cut_before-2.ensures.own told))
