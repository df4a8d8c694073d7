use Rattle.wal_records.proofs.RunLemmas.{log_read}
use Rattle.wal_records.proofs.writer_laws.written_log_is_read.Goals as goal

pub returns : goal.returns
returns c = λ log files o records s new holds of low. log_read log files o records s new holds of low
