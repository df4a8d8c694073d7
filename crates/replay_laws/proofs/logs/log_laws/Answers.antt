use Rattle.replay_laws.proofs.LogLemmas.{log-runs, log-whole}
use Rattle.replay_laws.proofs.logs.log_laws.Goals as goal

pub returns-clause-runs : goal.returns-clause-runs
returns-clause-runs c = λ custom sound root per start records name w v some are main whole made. log-runs custom sound root per some start records name w v are main whole made

pub returns-clause-whole : goal.returns-clause-whole
returns-clause-whole c = λ custom sound root per start records w v some are whole made. log-whole custom sound root per some start records w v are whole made
