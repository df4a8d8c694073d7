use Rattle.log_folder.proofs.LeastLemmas.{least_is_least, none_is_none}
use Rattle.log_folder.proofs.laws.the_least_segment_is_told.Goals as goal

pub returns-clause-some : goal.returns-clause-some
returns-clause-some c = least_is_least

pub returns-clause-none : goal.returns-clause-none
returns-clause-none c = none_is_none
