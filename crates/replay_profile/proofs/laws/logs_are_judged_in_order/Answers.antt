use Rattle.replay_profile.proofs.LogLemmas.{found_stays, next_decides}
use Rattle.replay_profile.proofs.laws.logs_are_judged_in_order.Goals as goal

pub returns-clause-found : goal.returns-clause-found
returns-clause-found c = found_stays

pub returns-clause-next : goal.returns-clause-next
returns-clause-next c = next_decides
