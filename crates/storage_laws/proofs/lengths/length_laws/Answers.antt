use Rattle.storage_laws.proofs.ForkLemmas.{cut-length, written-length}
use Rattle.storage_laws.proofs.LengthLemmas.{length-is, read-is, read-whole}
use Rattle.storage_laws.proofs.lengths.length_laws.Goals as goal

pub returns-clause-length : goal.returns-clause-length
returns-clause-length c = λ root per rel fork there d some made. length-is root per rel fork d some there made

pub returns-clause-reads : goal.returns-clause-reads
returns-clause-reads c = λ root per name d old reading some made. read-is root per name d old reading some made

pub returns-clause-whole : goal.returns-clause-whole
returns-clause-whole c = read-whole

pub returns-clause-written : goal.returns-clause-written
returns-clause-written c = written-length

pub returns-clause-cut : goal.returns-clause-cut
returns-clause-cut c = cut-length
