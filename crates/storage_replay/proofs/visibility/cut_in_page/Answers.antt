use Rattle.std.proofs.lemmas.Result.{err_from_is_err_and}
use Rattle.file_edits.proofs.AnswerLemmas.{handed-on}
use Rattle.storage_replay.proofs.EditLemmas.{page-refused, page-cut}
use Rattle.storage_replay.proofs.SparingLemmas.{fork-keeps}
use Rattle.block_refs.specs.declared.names.Fork.TheVariants.{Visibility}
use Rattle.std.proofs.Common.{rules}
use Rattle.file_edits.proofs.SparingLemmas.{spared-on}
use Rattle.storage_replay.proofs.visibility.cut_in_page.Goals as goal

pub returns-in_err-edit_map-clause-exact : goal.returns-in_err-edit_map-clause-exact
returns-in_err-edit_map-clause-exact g c told =
    handed-on _ _ c.from_residual.result _ (err_from_is_err_and c.from_residual.result c.from_residual.ensures.1)
    (page-refused c.args.at.now.root c.args.at.now.per_file c.args.rel c.args.blocks (g.F.Tree.contents c.args.tree.now) _ (c.in_err-edit_map.ensures.exact told))

pub returns-clause-exact : goal.returns-clause-exact
returns-clause-exact g c told =
    page-cut c.args.at.now.root c.args.at.now.per_file c.args.rel c.args.blocks (g.F.Tree.contents c.args.tree.now) c.map_page-pages.result (g.F.Tree.contents c.edit_map.new.tree) (g.F.Tree.contents c.cut_fork.new.tree) c.cut_fork.result
    c.map_page-pages.ensures (c.in_ok-edit_map.ensures.exact told) (c.cut_fork.ensures.exact told)

pub returns-in_err-edit_map-clause-spares : goal.returns-in_err-edit_map-clause-spares
returns-in_err-edit_map-clause-spares g c told piece apart = c.edit_map.ensures.spares told piece apart

pub returns-clause-spares : goal.returns-clause-spares
returns-clause-spares g c told piece apart = spared-on g.F.Tree piece _ _ _ (c.edit_map.ensures.spares told piece apart) (c.cut_fork.ensures.spares told piece (fork-keeps c.args.at.now.root c.args.at.now.per_file c.args.rel Visibility _ piece (search rules) (search rules) apart))
