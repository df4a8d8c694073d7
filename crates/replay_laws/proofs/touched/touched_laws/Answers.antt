use Rattle.replay_laws.proofs.TouchedLemmas.{log-touches, start-touches, touches-effect}
use Rattle.replay_laws.proofs.touched.touched_laws.Goals as goal

pub returns-clause-by_record : goal.returns-clause-by_record
returns-clause-by_record c = touches-effect

pub returns-clause-by_log : goal.returns-clause-by_log
returns-clause-by_log c = log-touches

pub returns-clause-by_start : goal.returns-clause-by_start
returns-clause-by_start c = start-touches
