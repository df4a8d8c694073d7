use Rattle.cluster_tree.specs.Frame.{moment_of}
use Rattle.replay_copies.proofs.BeginLemmas.{begun-still, left-still}
use Rattle.replay_copies.proofs.EndLemmas.{kept-unchanged}
use Rattle.file_edits.specs.Own.{Same}
use Rattle.replay_copies.proofs.begin.begin_copies.Goals as goal

pub returns-in_err-text-clause-stops : goal.returns-in_err-text-clause-stops
returns-in_err-text-clause-stops g c = λ told ready synced. left-still c.args.root.now c.args.listed.now (moment_of g.F.Tree c.args.tree.now) ready synced

pub returns-in_err-text-clause-marked : goal.returns-in_err-text-clause-marked
returns-in_err-text-clause-marked g c = λ told ready. begun-still c.args.root.now c.args.listed.now (moment_of g.F.Tree c.args.tree.now)

pub returns-in_err-mark-clause-stops : goal.returns-in_err-mark-clause-stops
returns-in_err-mark-clause-stops g c = λ told ready synced. left-still c.args.root.now c.args.listed.now (moment_of g.F.Tree c.args.tree.now) ready synced

pub returns-in_err-mark-clause-marked : goal.returns-in_err-mark-clause-marked
returns-in_err-mark-clause-marked g c = λ told ready. begun-still c.args.root.now c.args.listed.now (moment_of g.F.Tree c.args.tree.now)

pub returns-clause-changed : goal.returns-clause-changed
returns-clause-changed g c = λ told ready p. kept-unchanged c.args.root.now (g.F.Tree.contents c.args.tree.now) c.begin.result p (c.begin.ensures.begins told ready).refused

pub returns-in_err-text-clause-calls : goal.returns-in_err-text-clause-calls
returns-in_err-text-clause-calls g c = λ told there. Same

pub returns-in_err-mark-clause-calls : goal.returns-in_err-mark-clause-calls
returns-in_err-mark-clause-calls g c = λ told there. Same
