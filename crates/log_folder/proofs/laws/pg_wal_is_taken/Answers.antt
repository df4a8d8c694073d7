use Rattle.log_folder.proofs.LawLemmas.{wal_found}
use Rattle.log_folder.proofs.laws.pg_wal_is_taken.Goals as goal

pub returns : goal.returns
returns c = wal_found
