use Rattle.replayed_bytes.proofs.RecordLemmas.{log-keeps_blocks, record-ends}
use Rattle.replayed_bytes.proofs.records.records_keep_blocks.Goals as goal

pub returns-clause-record : goal.returns-clause-record
returns-clause-record c = λ custom sound root per_file rec parts w v some is whole made has at to main.
    (record-ends custom sound root per_file some rec parts w v is whole made).blocks at to main (has at to main)

pub returns-clause-log : goal.returns-clause-log
returns-clause-log c = λ custom sound root per_file start records w v some taken whole made has. log-keeps_blocks custom sound root per_file some start records w v taken whole made has
