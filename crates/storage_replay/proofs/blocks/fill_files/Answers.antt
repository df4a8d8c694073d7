use Rattle.std.proofs.Common.{sym, ◌∙◌, arith}
use Rattle.std.proofs.lemmas.Result.{err_from_is_err_and}
use Rattle.file_edits.proofs.OwnLemmas.{own-on, came-on}
use Rattle.file_edits.proofs.AnswerLemmas.{handed-on}
use Rattle.storage_replay.proofs.BlockLemmas.{filled-more, filled-refused, filled-end}
use Rattle.file_edits.proofs.SparingLemmas.{spared-on}
use Rattle.storage_replay.proofs.blocks.fill_files.Goals as goal

pub returns-in_err-fill_file-clause-exact : goal.returns-in_err-fill_file-clause-exact
returns-in_err-fill_file-clause-exact g c told =
    handed-on _ _ c.from_residual.result _ (err_from_is_err_and c.from_residual.result c.from_residual.ensures.1)
    (filled-refused c.args.at.now.root c.args.at.now.per_file c.args.rel c.args.fork c.args.files c.loop-file.file (g.F.Tree.contents c.loop-file.tree) _ _ (omega arith) (c.loop-file.invariant.meant told) (c.in_err-fill_file.ensures.exact told))

pub loop-file-preserved : goal.loop-file-preserved
loop-file-preserved g c = record {
  frame = came-on g.F.Tree _ _ _ c.loop-file.invariant.frame c.fill_file.ensures.frame;
  own = λ told. own-on g.F.Tree.calls _ _ _ _ (c.loop-file.invariant.own told) (c.fill_file.ensures.own told);
  spares = λ told piece ends. spared-on g.F.Tree piece _ _ _ (c.loop-file.invariant.spares told piece ends) (c.fill_file.ensures.spares told piece ends);
  meant = λ told.
      filled-more c.args.at.now.root c.args.at.now.per_file c.args.rel c.args.fork c.args.files c.loop-file.file (g.F.Tree.contents c.loop-file.tree) (g.F.Tree.contents c.fill_file.new.tree) (omega arith) (c.in_ok-fill_file.ensures.exact told)
      ∙ c.loop-file.invariant.meant told;
}

pub returns-clause-exact : goal.returns-clause-exact
returns-clause-exact g c told =
    sym (c.loop-file.invariant.meant told) ∙ filled-end c.args.at.now.root c.args.at.now.per_file c.args.rel c.args.fork c.args.files c.loop-file.file (g.F.Tree.contents c.loop-file.tree) (omega arith)

pub returns-in_err-fill_file-clause-spares : goal.returns-in_err-fill_file-clause-spares
returns-in_err-fill_file-clause-spares g c told piece ends = spared-on g.F.Tree piece _ _ _ (c.loop-file.invariant.spares told piece ends) (c.fill_file.ensures.spares told piece ends)
