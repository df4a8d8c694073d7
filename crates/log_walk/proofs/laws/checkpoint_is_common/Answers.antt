use Rattle.log_walk.proofs.ChainLemmas.{found_is, is_found, is_none, none_is}
use Rattle.log_walk.proofs.laws.checkpoint_is_common.Goals as goal

pub returns-clause-found : goal.returns-clause-found
returns-clause-found c = λ log files fork found. (found_is log files fork found, is_found log files fork found)

pub returns-clause-none : goal.returns-clause-none
returns-clause-none c = λ log files fork at. (none_is log files fork at, is_none log files fork at)
