use Rattle.std.proofs.Common.{arith}
use Rattle.wal_base.specs.Segment.{bytes_of}
use Rattle.wal_records.proofs.LogLemmas.{log_next}
use Rattle.wal_records.proofs.laws.log_goes_on.Goals as goal

pub returns : goal.returns
returns c = λ pages size before place low. log_next pages (bytes_of size) place before (omega (arith, size.is_size.least)) low
