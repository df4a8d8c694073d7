use Rattle.stored_laws.proofs.PlanLemmas.{stored-of_target, stored-readable, stored-unmarked}
use Rattle.stored_laws.proofs.laws.stored_plans_are_sound.Goals as goal

pub returns-clause-of_target : goal.returns-clause-of_target
returns-clause-of_target c = stored-of_target

pub returns-clause-mark : goal.returns-clause-mark
returns-clause-mark c = stored-unmarked

pub returns-clause-readable : goal.returns-clause-readable
returns-clause-readable c = stored-readable
