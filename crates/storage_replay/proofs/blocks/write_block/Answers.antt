use Rattle.std.proofs.lemmas.Result.{err_from_is_err_and}
use Rattle.file_edits.proofs.AnswerLemmas.{handed-on}
use Rattle.storage_replay.proofs.BlockLemmas.{block-refused, block-then}
use Rattle.file_edits.proofs.SparingLemmas.{spared-on}
use Rattle.file_edits.specs.Sparing.{spares}
use Rattle.cluster_tree.specs.declared.tree.ChangeCall.TheVariants as call
use Rattle.relation_files.specs.Paths.{relation_file}
use Rattle.std.proofs.Common.{◌*◌, ◌/◌, ◌%◌, ap, ◌∙◌, rules}
use Rattle.storage_replay.proofs.blocks.write_block.Goals as goal

pub returns-in_err-fill_files-clause-exact : goal.returns-in_err-fill_files-clause-exact
returns-in_err-fill_files-clause-exact g c told =
    handed-on _ _ c.from_residual.result _ (err_from_is_err_and c.from_residual.result c.from_residual.ensures.1)
    (block-refused c.args.at.now.root c.args.at.now.per_file c.args.name c.args.page.now (g.F.Tree.contents c.args.tree.now) _ (c.in_err-fill_files.ensures.exact told))

pub returns-clause-exact : goal.returns-clause-exact
returns-clause-exact g c told =
    block-then c.args.at.now.root c.args.at.now.per_file c.args.name c.args.page.now (g.F.Tree.contents c.args.tree.now) (g.F.Tree.contents c.fill_files.new.tree) (g.F.Tree.contents c.put_in_file.new.tree) c.put_in_file.result
    (c.in_ok-fill_files.ensures.exact told) (rw c.bytes.ensures.value at (c.put_in_file.ensures.exact told))

pub returns-in_err-fill_files-clause-spares : goal.returns-in_err-fill_files-clause-spares
returns-in_err-fill_files-clause-spares g c told piece ends is = c.fill_files.ensures.spares told piece ends

pub returns-clause-spares : goal.returns-clause-spares
returns-clause-spares g c told piece ends is = spared-on g.F.Tree piece _ _ _ (c.fill_files.ensures.spares told piece ends) (c.put_in_file.ensures.spares told piece ends (ap (λ n. spares piece (call.Write (relation_file c.args.at.now.root c.args.name.rel c.args.name.fork (c.args.name.block / c.args.at.now.per_file)) (c.args.name.block % c.args.at.now.per_file * 8192) n)) (search rules) ∙ is))
