use Rattle.wal_records.proofs.BackLemmas.{read_back}
use Rattle.wal_records.proofs.writer_laws.written_log_is_read_back.Goals as goal

pub returns : goal.returns
returns c = λ log contents w records wrote path stored. read_back log contents w records wrote path stored
