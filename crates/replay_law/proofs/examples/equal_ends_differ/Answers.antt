use Rattle.replay_law.proofs.SmallLogs.{equal_others, equal_fits}
use Rattle.replay_law.proofs.examples.equal_ends_differ.Goals as goal

pub returns-clause-others : goal.returns-clause-others
returns-clause-others c = equal_others

pub returns-clause-fits : goal.returns-clause-fits
returns-clause-fits c = equal_fits
