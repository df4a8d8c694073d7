use Rattle.std.proofs.lemmas.Result.{err_from_is_err_and}
use Rattle.file_edits.proofs.AnswerLemmas.{handed-on}
use Rattle.storage_replay.proofs.CutLemmas.{files-refused, files-then}
use Rattle.file_edits.proofs.SparingLemmas.{spared-on}
use Rattle.file_edits.specs.Sparing.{spares}
use Rattle.cluster_tree.specs.declared.tree.ChangeCall.TheVariants as call
use Rattle.relation_files.specs.Paths.{relation_file}
use Rattle.storage_replay.proofs.SparingLemmas.{keeps-cut}
use Rattle.std.proofs.Common.{◌*◌, ◌/◌, ap, ◌∙◌}
use Rattle.storage_replay.proofs.cutting.cut_files.Goals as goal

pub returns-in_err-cut_file-clause-exact : goal.returns-in_err-cut_file-clause-exact
returns-in_err-cut_file-clause-exact g c told =
    handed-on _ _ c.from_residual.result _ (err_from_is_err_and c.from_residual.result c.from_residual.ensures.1)
    (files-refused c.args.at.now.root c.args.at.now.per_file c.args.rel c.args.fork c.args.blocks (g.F.Tree.contents c.args.tree.now) _
    (rw c.from-size.ensures at (c.in_err-cut_file.ensures.exact told)))

pub returns-clause-exact : goal.returns-clause-exact
returns-clause-exact g c told =
    files-then c.args.at.now.root c.args.at.now.per_file c.args.rel c.args.fork c.args.blocks (g.F.Tree.contents c.args.tree.now) (g.F.Tree.contents c.cut_file.new.tree) (g.F.Tree.contents c.sweep_files.new.tree) c.sweep_files.result
    (rw c.from-size.ensures at (c.in_ok-cut_file.ensures.exact told)) (c.sweep_files.ensures.exact told)

pub returns-in_err-cut_file-clause-spares : goal.returns-in_err-cut_file-clause-spares
returns-in_err-cut_file-clause-spares g c told piece keeps = c.cut_file.ensures.spares told piece (ap (λ n. spares piece (call.Cut (relation_file c.args.at.now.root c.args.rel c.args.fork (c.args.blocks / c.args.at.now.per_file)) (n * 8192))) c.from-size.ensures ∙ (keeps-cut c.args.at.now.root c.args.at.now.per_file c.args.rel c.args.fork c.args.blocks piece keeps).0)

pub returns-clause-spares : goal.returns-clause-spares
returns-clause-spares g c told piece keeps = spared-on g.F.Tree piece _ _ _ (c.cut_file.ensures.spares told piece (ap (λ n. spares piece (call.Cut (relation_file c.args.at.now.root c.args.rel c.args.fork (c.args.blocks / c.args.at.now.per_file)) (n * 8192))) c.from-size.ensures ∙ (keeps-cut c.args.at.now.root c.args.at.now.per_file c.args.rel c.args.fork c.args.blocks piece keeps).0)) (c.sweep_files.ensures.spares told piece (keeps-cut c.args.at.now.root c.args.at.now.per_file c.args.rel c.args.fork c.args.blocks piece keeps).1)
