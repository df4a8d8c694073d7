use Rattle.replay_law.proofs.SmallLogs.{one_history}
use Rattle.replay_law.proofs.examples.a_state_that_fits_none_differs.Goals as goal

pub returns-clause-others : goal.returns-clause-others
returns-clause-others c = one_history
