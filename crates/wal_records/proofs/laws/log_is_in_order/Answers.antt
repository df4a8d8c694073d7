use Rattle.std.proofs.Common.{None, arith}
use Rattle.wal_base.specs.Segment.{bytes_of}
use Rattle.wal_records.specs.Place.{place_at}
use Rattle.wal_records.proofs.LogLemmas.{log_in_order}
use Rattle.wal_records.proofs.PlaceLemmas.{place_at_up}
use Rattle.wal_records.proofs.laws.log_is_in_order.Goals as goal

pub returns-clause-from_place : goal.returns-clause-from_place
returns-clause-from_place c = λ pages size before from place low. log_in_order pages (bytes_of size) from place before (omega (arith, size.is_size.least)) low

pub returns-clause-whole : goal.returns-clause-whole
returns-clause-whole c = λ pages size start.
    log_in_order pages (bytes_of size) start (place_at (bytes_of size) start) None (omega (arith, size.is_size.least)) (place_at_up (bytes_of size) start)
