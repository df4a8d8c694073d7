use Rattle.wal_records.proofs.PlacedLemmas.{placed}
use Rattle.wal_records.proofs.writer_laws.written_record_is_read.Goals as goal

pub returns : goal.returns
returns c = λ log files o bytes before at r holds of low new w ends. placed log files o bytes before at r holds of low new w ends
