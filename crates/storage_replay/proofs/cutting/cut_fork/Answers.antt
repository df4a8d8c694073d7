use Rattle.std.proofs.Common.{Ok, ap, sym, ◌∙◌}
use Rattle.std.proofs.lemmas.Result.{err_from_is_err_and}
use Rattle.file_edits.proofs.OwnLemmas.{own-read, own-on}
use Rattle.file_edits.proofs.AnswerLemmas.{handed-on}
use Rattle.storage_replay.proofs.CutLemmas.{fork-refused, fork-short, fork-longer}
use Rattle.file_edits.proofs.SparingLemmas.{spared-on, spared-read}
use Rattle.storage_replay.proofs.cutting.cut_fork.Goals as goal

pub returns-in_err-there-clause-exact : goal.returns-in_err-there-clause-exact
returns-in_err-there-clause-exact g c told =
    handed-on _ _ c.from_residual.result _ (err_from_is_err_and c.from_residual.result c.from_residual.ensures.1)
    (fork-refused c.args.at.now.root c.args.at.now.per_file c.args.rel c.args.fork c.args.blocks (g.F.Tree.contents c.args.tree.now) _ (c.in_err-there.ensures.exact told))

pub returns-then-not-is_longer-clause-exact : goal.returns-then-not-is_longer-clause-exact
returns-then-not-is_longer-clause-exact g c told =
    fork-short c.args.at.now.root c.args.at.now.per_file c.args.rel c.args.fork c.args.blocks (g.F.Tree.contents c.args.tree.now) c.in_ok-there.there (c.in_ok-there.ensures.exact told) (sym c.if-not-is_longer.ensures)
    ∙ ap (λ x. Ok x) (sym c.length.ensures.frame.same)

pub returns-clause-exact : goal.returns-clause-exact
returns-clause-exact g c told =
    fork-longer c.args.at.now.root c.args.at.now.per_file c.args.rel c.args.fork c.args.blocks (g.F.Tree.contents c.args.tree.now) c.in_ok-there.there (g.F.Tree.contents c.length.new.tree) (g.F.Tree.contents c.cut_files.new.tree) c.cut_files.result
    (c.in_ok-there.ensures.exact told) (sym c.if-not-is_longer.ensures) c.length.ensures.frame.same (c.cut_files.ensures.exact told)

pub returns-clause-own : goal.returns-clause-own
returns-clause-own g c told =
    own-on g.F.Tree.calls _ _ _ _ (own-read g.F.Tree _ _ _ c.length.ensures.frame) (c.cut_files.ensures.own told)

pub returns-clause-spares : goal.returns-clause-spares
returns-clause-spares g c told piece keeps = spared-on g.F.Tree piece _ _ _ (spared-read g.F.Tree piece _ _ c.length.ensures.frame) (c.cut_files.ensures.spares told piece keeps)
