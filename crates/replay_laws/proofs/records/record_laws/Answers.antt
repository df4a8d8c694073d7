use Rattle.replay_laws.proofs.RecordLemmas.{record-steps, record-whole}
use Rattle.replay_laws.proofs.records.record_laws.Goals as goal

pub returns-clause-projects : goal.returns-clause-projects
returns-clause-projects c = λ custom sound root per rec parts name w v some is main whole made. record-steps custom sound root per rec parts w v some is whole made name main

pub returns-clause-whole : goal.returns-clause-whole
returns-clause-whole c = record-whole
