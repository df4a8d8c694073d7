use Rattle.std.proofs.Common.{◌≡◌, IfOk, string_bytes, subst}
use Rattle.cmd_pair.proofs.TouchedLemmas.{line-counted}
use Rattle.cmd_pair.proofs.line.pair_line.Goals as goal

pub returns : goal.returns
returns c =
    subst (λ l. IfOk c.line_of.result (λ line. string_bytes line ≡ l))
    (line-counted c.args.seed c.args.blocks c.insert_count-target.result c.insert_count-source.result c.requires c.insert_count-target.ensures c.insert_count-source.ensures) c.line_of.ensures
