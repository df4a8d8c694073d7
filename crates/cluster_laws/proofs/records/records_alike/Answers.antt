use Rattle.cluster_laws.proofs.RecordLemmas.{log-agree, record-agree}
use Rattle.cluster_laws.proofs.records.records_alike.Goals as goal

pub returns-clause-record : goal.returns-clause-record
returns-clause-record c = λ custom sound root other per_file rec parts w x some is both. record-agree custom sound root other per_file some rec parts is w x both

pub returns-clause-log : goal.returns-clause-log
returns-clause-log c = λ custom sound root other per_file start records w x some taken both. log-agree custom sound root other per_file some start records w x taken both
