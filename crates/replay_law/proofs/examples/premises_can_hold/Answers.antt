use Rattle.std.proofs.Common.{inl}
use Rattle.replay_law.proofs.SmallLogs.{two_history, gone_history}
use Rattle.replay_law.proofs.examples.premises_can_hold.Goals as goal

pub returns-clause-history : goal.returns-clause-history
returns-clause-history c = two_history

pub returns-clause-gone_history : goal.returns-clause-gone_history
returns-clause-gone_history c = gone_history

pub returns-clause-gone_fits : goal.returns-clause-gone_fits
returns-clause-gone_fits c = inl (3, tt)
