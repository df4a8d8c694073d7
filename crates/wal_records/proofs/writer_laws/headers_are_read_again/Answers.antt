use Rattle.wal_records.proofs.AgainLemmas.{records_again, pages_again}
use Rattle.wal_records.proofs.writer_laws.headers_are_read_again.Goals as goal

pub returns-clause-records : goal.returns-clause-records
returns-clause-records c = λ before r n. records_again before r n

pub returns-clause-pages : goal.returns-clause-pages
returns-clause-pages c = λ log origin at left rest fa fr of. pages_again log origin at left rest fa fr of
