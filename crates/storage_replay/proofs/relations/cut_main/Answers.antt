use Rattle.std.proofs.Common.{rules}
use Rattle.std.proofs.lemmas.Result.{err_from_is_err_and}
use Rattle.file_edits.proofs.AnswerLemmas.{handed-on}
use Rattle.storage_replay.proofs.ChangeLemmas.{main-unset, main-refused, main-then}
use Rattle.file_edits.proofs.SparingLemmas.{spared-on}
use Rattle.storage_replay.proofs.SparingLemmas.{cuts-then}
use Rattle.storage_replay.specs.Changes.{cuts_main}
use Rattle.storage_replay.specs.Sparing.{keeps_piece}
use Rattle.block_refs.specs.declared.names.Fork.TheVariants.{Main}
use Rattle.storage_replay.proofs.relations.cut_main.Goals as goal

pub returns-then-not-cuts_main-clause-exact : goal.returns-then-not-cuts_main-clause-exact
returns-then-not-cuts_main-clause-exact g c told = main-unset c.args.at.now.root c.args.at.now.per_file c.args.rel c.args.blocks (g.F.Tree.contents c.args.tree.now) c.args.flags (search rules)

pub returns-in_err-create-clause-exact : goal.returns-in_err-create-clause-exact
returns-in_err-create-clause-exact g c told =
    handed-on _ _ c.from_residual.result _ (err_from_is_err_and c.from_residual.result c.from_residual.ensures.1)
    (main-refused c.args.at.now.root c.args.at.now.per_file c.args.rel c.args.blocks (g.F.Tree.contents c.args.tree.now) c.args.flags (search rules) _ (c.in_err-create.ensures.exact told))

pub returns-clause-exact : goal.returns-clause-exact
returns-clause-exact g c told =
    main-then c.args.at.now.root c.args.at.now.per_file c.args.rel c.args.blocks (g.F.Tree.contents c.args.tree.now) c.args.flags (search rules) (g.F.Tree.contents c.create.new.tree) (g.F.Tree.contents c.cut_fork.new.tree) c.cut_fork.result
    (c.in_ok-create.ensures.exact told) (c.cut_fork.ensures.exact told)

pub returns-in_err-create-clause-spares : goal.returns-in_err-create-clause-spares
returns-in_err-create-clause-spares g c told piece keeps = c.create.ensures.spares told piece

pub returns-clause-spares : goal.returns-clause-spares
returns-clause-spares g c told piece keeps = spared-on g.F.Tree piece _ _ _ (c.create.ensures.spares told piece) (c.cut_fork.ensures.spares told piece (cuts-then (cuts_main c.args.flags) (keeps_piece c.args.at.now.root c.args.at.now.per_file c.args.rel Main c.args.blocks piece) keeps (search rules)))
