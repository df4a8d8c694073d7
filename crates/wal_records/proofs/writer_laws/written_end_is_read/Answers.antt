use Rattle.wal_records.proofs.EndLemmas.{ends_at_page, ends_in_page}
use Rattle.wal_records.proofs.writer_laws.written_end_is_read.Goals as goal

pub returns-clause-page : goal.returns-clause-page
returns-clause-page c = λ log files start size at before bytes holds p e. ends_at_page log files start size at before bytes holds p e

pub returns-clause-length : goal.returns-clause-length
returns-clause-length c = λ log files o bytes before place holds of low w. ends_in_page log files o bytes before place holds of low w
