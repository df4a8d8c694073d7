use Rattle.replay_copies.proofs.MarkLemmas.{off-text}
use Rattle.replay_copies.proofs.CallLemmas.{text-at}
use Rattle.replay_copies.proofs.marking.fill_mark.Goals as goal

pub returns-clause-elsewhere : goal.returns-clause-elsewhere
returns-clause-elsewhere g c = λ told none p other. (c.lay_text-done.ensures.carries told none).runs.elsewhere p (off-text c.args.mark.now p 18 c.args.text.now other)

pub returns-clause-calls : goal.returns-clause-calls
returns-clause-calls g c = λ told none. text-at c.args.mark.now _ _ (g.F.Tree.contents c.args.tree.now) _ _ 18 c.args.text.now (c.lay_text-done.ensures.carries told none).runs
