use Rattle.std.proofs.Common.{Ok, ap, ◌∙◌}
use Rattle.cmd_walcompare.proofs.SameLemmas.{same-compared}
use Rattle.cmd_walcompare.proofs.compares.verdict_of.Goals as goal

pub returns-in-Ok-clause-same : goal.returns-in-Ok-clause-same
returns-in-Ok-clause-same g c t is =
    let parts = c.in-Ok.ensures.parts t in
    same-compared (g.F.Tree.contents c.args.tree.now) c.args.words.now parts.0 parts.1 (c.in-Ok.ensures.exact t ∙ ap Ok is)
