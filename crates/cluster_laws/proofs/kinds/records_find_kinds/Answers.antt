use Rattle.cluster_laws.proofs.kinds.RecordLemmas.{log-finds, record-finds}
use Rattle.cluster_laws.proofs.kinds.records_find_kinds.Goals as goal

pub returns-clause-record : goal.returns-clause-record
returns-clause-record c = λ custom root per_file rec parts w has. record-finds custom root per_file rec parts w has

pub returns-clause-log : goal.returns-clause-log
returns-clause-log c = λ custom root per_file records w has. log-finds custom root per_file records w has
