use Rattle.std.proofs.lemmas.Result.{err_from_is_err_and}
use Rattle.file_edits.proofs.AnswerLemmas.{handed-on}
use Rattle.storage_replay.proofs.BlockLemmas.{put-refused, put-laid}
use Rattle.file_edits.proofs.SparingLemmas.{spared-on}
use Rattle.file_edits.specs.Sparing.{spares}
use Rattle.cluster_tree.specs.declared.tree.ChangeCall.TheVariants as call
use Rattle.std.proofs.Common.{◌*◌, ap, ◌∙◌, length}
use Rattle.storage_replay.proofs.blocks.put_block.Goals as goal

pub returns-in_err-grow_file-clause-exact : goal.returns-in_err-grow_file-clause-exact
returns-in_err-grow_file-clause-exact g c told =
    handed-on _ _ c.from_residual.result _ (err_from_is_err_and c.from_residual.result c.from_residual.ensures.1)
    (put-refused c.args.root.now c.args.path.now c.args.place c.args.page.now (g.F.Tree.contents c.args.tree.now) _ (c.in_err-grow_file.ensures.exact told))

pub returns-clause-exact : goal.returns-clause-exact
returns-clause-exact g c told =
    put-laid c.args.root.now c.args.path.now c.args.place c.from-start.result c.args.page.now (g.F.Tree.contents c.args.tree.now) (g.F.Tree.contents c.grow_file.new.tree) (g.F.Tree.contents c.lay.new.tree) c.lay.result
    (c.in_ok-grow_file.ensures.exact told) c.from-start.ensures (c.lay.ensures.exact told)

pub returns-in_err-grow_file-clause-spares : goal.returns-in_err-grow_file-clause-spares
returns-in_err-grow_file-clause-spares g c told piece ends is = c.grow_file.ensures.spares told piece ends

pub returns-clause-spares : goal.returns-clause-spares
returns-clause-spares g c told piece ends is = spared-on g.F.Tree piece _ _ _ (c.grow_file.ensures.spares told piece ends) (c.lay.ensures.spares told piece (ap (λ n. spares piece (call.Write c.args.path.now (n * 8192) (length c.args.page.now))) c.from-start.ensures ∙ is))
