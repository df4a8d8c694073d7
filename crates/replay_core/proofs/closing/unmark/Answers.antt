use Rattle.std.proofs.Common.{ap, Err}
use Rattle.marked_runs.specs.Runs.{ended}
use Rattle.marked_runs.proofs.CarriedLemmas.{performs-broken, performs-done}
use Rattle.replay_core.proofs.closing.unmark.Goals as goal

pub returns-in-Ok-clause-performs : goal.returns-in-Ok-clause-performs
returns-in-Ok-clause-performs g c = performs-done g.F.Tree (ended c.args.mark) _ _ _ c.in-Ok.ensures.carries

pub returns-in-Err-clause-performs : goal.returns-in-Err-clause-performs
returns-in-Err-clause-performs g c = performs-broken g.F.Tree (ended c.args.mark) _ _ c.in-Err.fault c.args.mark _ (ap Err c.about.ensures) c.in-Err.ensures.carries
