use Rattle.cluster_tree.specs.Frame.{moment_of}
use Rattle.replay_copies.proofs.EndLemmas.{end-still, kept-unchanged}
use Rattle.file_edits.specs.Own.{Same}
use Rattle.replay_copies.proofs.end.end_copies.Goals as goal

pub returns-in_err-mark-clause-stops : goal.returns-in_err-mark-clause-stops
returns-in_err-mark-clause-stops g c = λ told has synced. end-still c.args.root.now (moment_of g.F.Tree c.args.tree.now) has synced

pub returns-in_err-folder-clause-stops : goal.returns-in_err-folder-clause-stops
returns-in_err-folder-clause-stops g c = λ told has synced. end-still c.args.root.now (moment_of g.F.Tree c.args.tree.now) has synced

pub returns-clause-changed : goal.returns-clause-changed
returns-clause-changed g c = λ told has p. kept-unchanged c.args.root.now (g.F.Tree.contents c.args.tree.now) c.end.result p (c.end.ensures.ends told has).refused

pub returns-in_err-mark-clause-calls : goal.returns-in_err-mark-clause-calls
returns-in_err-mark-clause-calls g c = λ told there. Same

pub returns-in_err-folder-clause-calls : goal.returns-in_err-folder-clause-calls
returns-in_err-folder-clause-calls g c = λ told there. Same
