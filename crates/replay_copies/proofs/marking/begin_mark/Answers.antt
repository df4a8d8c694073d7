use Rattle.replay_copies.proofs.MarkLemmas.{off-head}
use Rattle.replay_copies.specs.Laid.{mark_head}
use Rattle.replay_copies.proofs.CallLemmas.{head-at}
use Rattle.replay_copies.proofs.marking.begin_mark.Goals as goal

pub returns-clause-elsewhere : goal.returns-clause-elsewhere
returns-clause-elsewhere g c = λ told none p other. (c.lay_head-done.ensures.carries told none).runs.elsewhere p (off-head (g.F.Tree.contents c.args.tree.now) c.args.mark.now p mark_head other)

pub returns-clause-calls : goal.returns-clause-calls
returns-clause-calls g c = λ told none. head-at c.args.mark.now _ _ (g.F.Tree.contents c.args.tree.now) _ _ mark_head (c.lay_head-done.ensures.carries told none).runs
