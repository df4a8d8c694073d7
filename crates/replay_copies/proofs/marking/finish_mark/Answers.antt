use Rattle.cluster_tree.specs.Frame.{moment_of}
use Rattle.cluster_tree.proofs.RunLemmas.{course_of}
use Rattle.gated_marks.proofs.EndLemmas.{end-left}
use Rattle.replay_copies.proofs.MarkLemmas.{off-end}
use Rattle.replay_copies.proofs.CallLemmas.{end-at}
use Rattle.replay_copies.proofs.marking.finish_mark.Goals as goal

pub returns-clause-elsewhere : goal.returns-clause-elsewhere
returns-clause-elsewhere g c = λ told none p other. (c.finish-done.ensures.carries told none).runs.elsewhere p (off-end c.args.mark.now p other)

pub returns-clause-any_moment : goal.returns-clause-any_moment
returns-clause-any_moment g c = λ told none. end-left c.args.mark.now (moment_of g.F.Tree c.args.tree.now) (moment_of g.F.Tree c.finish-done.new.tree) _ (course_of g.F.Tree _ _ c.finish-done.ensures.frame) (c.finish-done.ensures.carries told none).runs

pub returns-clause-calls : goal.returns-clause-calls
returns-clause-calls g c = λ told none. end-at c.args.mark.now _ _ (g.F.Tree.contents c.args.tree.now) _ _ (c.finish-done.ensures.carries told none).runs
