use Rattle.replay_law.proofs.SmallLogs.{keeps_others, keeps_respects, keeps_fits}
use Rattle.replay_law.proofs.examples.a_change_without_its_lsn_differs.Goals as goal

pub returns-clause-others : goal.returns-clause-others
returns-clause-others c = keeps_others

pub returns-clause-respects : goal.returns-clause-respects
returns-clause-respects c = keeps_respects

pub returns-clause-fits : goal.returns-clause-fits
returns-clause-fits c = keeps_fits
