use Rattle.wal_records.proofs.NextLemmas.{sound_after}
use Rattle.wal_records.proofs.StateLemmas.{begun_sound, written_at}
use Rattle.wal_records.proofs.writer_laws.appended_record_stands.Goals as goal

pub returns-clause-begun : goal.returns-clause-begun
returns-clause-begun c = λ o s. begun_sound o s

pub returns-clause-stands : goal.returns-clause-stands
returns-clause-stands c = λ w r all after s e. written_at w r all after s e

pub returns-clause-stays : goal.returns-clause-stays
returns-clause-stays c = λ w r s new. sound_after w r s new
