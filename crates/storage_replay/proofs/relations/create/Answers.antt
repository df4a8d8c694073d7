use Rattle.std.proofs.Common.{rules}
use Rattle.storage_replay.proofs.BlockLemmas.{own-at}
use Rattle.storage_replay.proofs.relations.create.Goals as goal

pub returns-in_err-ensure_file-clause-own : goal.returns-in_err-ensure_file-clause-own
returns-in_err-ensure_file-clause-own g c told =
    own-at g.F.Tree.calls c.args.at.now.root c.in_ok-path.path c.args.rel c.args.fork 0 _ _ c.in_ok-path.ensures.value (search rules) (search rules) (c.ensure_file.ensures.own told)

pub returns-clause-own : goal.returns-clause-own
returns-clause-own g c told =
    own-at g.F.Tree.calls c.args.at.now.root c.in_ok-path.path c.args.rel c.args.fork 0 _ _ c.in_ok-path.ensures.value (search rules) (search rules) (c.ensure_file.ensures.own told)
