use Rattle.replay_copies.proofs.MarkLemmas.{off-gate}
use Rattle.replay_copies.proofs.CallLemmas.{gate-at}
use Rattle.replay_copies.proofs.marking.open_mark.Goals as goal

pub returns-clause-elsewhere : goal.returns-clause-elsewhere
returns-clause-elsewhere g c = λ told none p other. (c.open_gate-done.ensures.carries told none).runs.elsewhere p (off-gate c.args.mark.now p c.args.gate other)

pub returns-clause-calls : goal.returns-clause-calls
returns-clause-calls g c = λ told none. gate-at c.args.mark.now _ _ (g.F.Tree.contents c.args.tree.now) _ _ c.args.gate (c.open_gate-done.ensures.carries told none).runs
