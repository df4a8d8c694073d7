use Rattle.cluster_laws.proofs.unlogged.ConvergeLemmas.{gone-forgets}
use Rattle.cluster_laws.proofs.unlogged.RecordLemmas.{init-goes}
use Rattle.cluster_laws.proofs.unlogged.init_forks_go_whole.Goals as goal

pub returns-clause-record : goal.returns-clause-record
returns-clause-record c = λ custom root per rec parts name w v is main made loses. init-goes custom root per rec parts name w v is main made loses.had loses.lost

pub returns-clause-log : goal.returns-clause-log
returns-clause-log c = λ custom root per start records name w v a b taken main made loses. gone-forgets custom root per start records name w v a b taken main made loses.had loses.lost
