use Rattle.std.proofs.Common.{rules}
use Rattle.std.proofs.lemmas.Result.{err_from_is_err_and}
use Rattle.file_edits.proofs.AnswerLemmas.{handed-on}
use Rattle.storage_replay.proofs.ChangeLemmas.{truncated-refused, truncated-unset, truncated-then}
use Rattle.file_edits.proofs.SparingLemmas.{spared-on}
use Rattle.storage_replay.proofs.relations.truncate.Goals as goal

pub returns-in_err-cut_main-clause-exact : goal.returns-in_err-cut_main-clause-exact
returns-in_err-cut_main-clause-exact g c told =
    handed-on _ _ c.from_residual.result _ (err_from_is_err_and c.from_residual.result c.from_residual.ensures.1)
    (truncated-refused c.args.at.now.root c.args.at.now.per_file c.args.rel c.args.blocks (g.F.Tree.contents c.args.tree.now) c.args.flags _ (c.in_err-cut_main.ensures.exact told))

pub returns-then-not-cuts_map-clause-exact : goal.returns-then-not-cuts_map-clause-exact
returns-then-not-cuts_map-clause-exact g c told =
    truncated-unset c.args.at.now.root c.args.at.now.per_file c.args.rel c.args.blocks (g.F.Tree.contents c.args.tree.now) c.args.flags (g.F.Tree.contents c.cut_main.new.tree) (search rules) (c.in_ok-cut_main.ensures.exact told)

pub returns-clause-exact : goal.returns-clause-exact
returns-clause-exact g c told =
    truncated-then c.args.at.now.root c.args.at.now.per_file c.args.rel c.args.blocks (g.F.Tree.contents c.args.tree.now) c.args.flags (g.F.Tree.contents c.cut_main.new.tree) (g.F.Tree.contents c.cut_map.new.tree) c.cut_map.result
    (search rules) (c.in_ok-cut_main.ensures.exact told) (c.cut_map.ensures.exact told)

pub returns-in_err-cut_main-clause-spares : goal.returns-in_err-cut_main-clause-spares
returns-in_err-cut_main-clause-spares g c told piece keeps apart = c.cut_main.ensures.spares told piece keeps

pub returns-then-not-cuts_map-clause-spares : goal.returns-then-not-cuts_map-clause-spares
returns-then-not-cuts_map-clause-spares g c told piece keeps apart = c.cut_main.ensures.spares told piece keeps

pub returns-clause-spares : goal.returns-clause-spares
returns-clause-spares g c told piece keeps apart = spared-on g.F.Tree piece _ _ _ (c.cut_main.ensures.spares told piece keeps) (c.cut_map.ensures.spares told piece apart)
