use Rattle.std.proofs.Common.{length}
use Rattle.gated_marks.proofs.LaidLemmas.{sync-left}
use Rattle.gated_marks.proofs.steps.lay_text.Goals as goal

pub returns-then-is_empty-clause-any_moment : goal.returns-then-is_empty-clause-any_moment
returns-then-is_empty-clause-any_moment g c = λ told none. sync-left g.F.Tree told c.args.mark.now c.args.at (length c.args.text.now) _ _ _ c.sync.ensures.took
