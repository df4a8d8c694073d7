use Rattle.std.proofs.lemmas.Result.{err_from_is_err_and}
use Rattle.storage_replay.proofs.ReadLemmas.{handed-read, read-refused, read-absent, read-there}
use Rattle.storage_replay.proofs.blocks.read_block.Goals as goal

pub returns-in_err-has_block-clause-exact : goal.returns-in_err-has_block-clause-exact
returns-in_err-has_block-clause-exact g c told =
    handed-read _ _ c.from_residual.result _ (err_from_is_err_and c.from_residual.result c.from_residual.ensures.1)
    (read-refused c.args.at.now.root c.args.at.now.per_file c.args.name (g.F.Tree.contents c.args.tree.now) c.args.into.now _ (c.in_err-has_block.ensures.exact told))

pub returns-then-branch-clause-exact : goal.returns-then-branch-clause-exact
returns-then-branch-clause-exact g c told =
    read-there c.args.at.now.root c.args.at.now.per_file c.args.name (g.F.Tree.contents c.args.tree.now) c.args.into.now (g.F.Tree.contents c.has_block.new.tree) c.read_in_file.new.into c.read_in_file.result _
    (c.in_ok-has_block.ensures.exact told) c.if-branch.true c.has_block.ensures.frame.same (c.read_in_file.ensures.exact told)

pub returns-else-branch-clause-exact : goal.returns-else-branch-clause-exact
returns-else-branch-clause-exact g c told =
    read-absent c.args.at.now.root c.args.at.now.per_file c.args.name (g.F.Tree.contents c.args.tree.now) c.args.into.now _ (c.in_ok-has_block.ensures.exact told) c.if-branch.false
