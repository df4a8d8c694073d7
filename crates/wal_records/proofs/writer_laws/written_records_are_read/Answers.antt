use Rattle.wal_records.proofs.RunLemmas.{all_read}
use Rattle.wal_records.proofs.writer_laws.written_records_are_read.Goals as goal

pub returns : goal.returns
returns c = λ log files bytes records w holds of low all. all_read log files bytes records w holds of low all
