use Rattle.std.proofs.Common.{arith}
use Rattle.wal_records.proofs.StandsLemmas.{pages_stand}
use Rattle.wal_records.proofs.writer_laws.further_pages_are_read_again.Goals as goal

pub returns : goal.returns
returns c = λ log files o bytes b page left after holds of fits few p from low e. pages_stand log files o bytes b left page left after holds of (omega arith) fits few p from low e
