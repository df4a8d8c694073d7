use Rattle.std.proofs.Common.{Ok, ap, ◌∙◌, sym}
use Rattle.std.proofs.lemmas.Result.{err_from_is_err_and}
use Rattle.file_edits.proofs.OwnLemmas.{own-read, own-on}
use Rattle.file_edits.proofs.AnswerLemmas.{handed-on}
use Rattle.storage_replay.proofs.EditLemmas.{map-refused, map-absent, map-there}
use Rattle.file_edits.proofs.SparingLemmas.{spared-on, spared-read}
use Rattle.storage_replay.proofs.visibility.edit_map.Goals as goal

pub returns-in_err-has_block-clause-exact : goal.returns-in_err-has_block-clause-exact
returns-in_err-has_block-clause-exact g c told =
    handed-on _ _ c.from_residual.result _ (err_from_is_err_and c.from_residual.result c.from_residual.ensures.1)
    (map-refused c.args.at.now.root c.args.at.now.per_file c.args.rel c.args.block c.args.edit (g.F.Tree.contents c.args.tree.now) c.map_page-page.result c.map_page-page.ensures _ (c.in_err-has_block.ensures.exact told))

pub returns-then-branch-clause-exact : goal.returns-then-branch-clause-exact
returns-then-branch-clause-exact g c told =
    map-there c.args.at.now.root c.args.at.now.per_file c.args.rel c.args.block c.args.edit (g.F.Tree.contents c.args.tree.now) c.map_page-page.result c.map_page-page.ensures (g.F.Tree.contents c.has_block.new.tree) (g.F.Tree.contents c.edit_in_file.new.tree) c.edit_in_file.result _
    (c.in_ok-has_block.ensures.exact told) c.if-branch.true c.has_block.ensures.frame.same (c.edit_in_file.ensures.exact told)

pub returns-then-branch-clause-own : goal.returns-then-branch-clause-own
returns-then-branch-clause-own g c told = own-on g.F.Tree.calls _ _ _ _ (own-read g.F.Tree _ _ _ c.has_block.ensures.frame) (c.edit_in_file.ensures.own told)

pub returns-else-branch-clause-exact : goal.returns-else-branch-clause-exact
returns-else-branch-clause-exact g c told =
    map-absent c.args.at.now.root c.args.at.now.per_file c.args.rel c.args.block c.args.edit (g.F.Tree.contents c.args.tree.now) c.map_page-page.result c.map_page-page.ensures _ (c.in_ok-has_block.ensures.exact told) c.if-branch.false
    ∙ ap (λ x. Ok x) (sym c.has_block.ensures.frame.same)

pub returns-then-branch-clause-spares : goal.returns-then-branch-clause-spares
returns-then-branch-clause-spares g c told piece apart = spared-on g.F.Tree piece _ _ _ (spared-read g.F.Tree piece _ _ c.has_block.ensures.frame) (c.edit_in_file.ensures.spares told piece apart)
