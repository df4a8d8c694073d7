use Rattle.replay_laws.proofs.RefusalLemmas.{log-refused, not-refused_at, record-refused}
use Rattle.replay_laws.proofs.refusals.refusal_laws.Goals as goal

pub returns-clause-step : goal.returns-clause-step
returns-clause-step c = λ custom sound root per rec parts start name why w some is whole e. record-refused custom sound root per some start name why rec parts w is whole e

pub returns-clause-run : goal.returns-clause-run
returns-clause-run c = λ custom sound root per from records start name why w some taken whole e. log-refused custom sound root per some start name why from records w taken whole e

pub returns-clause-fits : goal.returns-clause-fits
returns-clause-fits c = not-refused_at
