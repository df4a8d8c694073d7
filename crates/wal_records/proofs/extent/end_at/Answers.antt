use Rattle.std.proofs.Common.{arith}
use Rattle.wal_base.specs.Segment.{bytes_of}
use Rattle.wal_records.proofs.ExtentLemmas.{end_up}
use Rattle.wal_records.proofs.extent.end_at.Goals as goal

pub returns-in-None-clause-up : goal.returns-in-None-clause-up
returns-in-None-clause-up c = end_up (bytes_of c.args.size) c.args.place c.args.total c.args.header (omega (arith, c.args.size.is_size.least)) c.requires.some

pub returns-in-Some-clause-up : goal.returns-in-Some-clause-up
returns-in-Some-clause-up c = end_up (bytes_of c.args.size) c.args.place c.args.total c.args.header (omega (arith, c.args.size.is_size.least)) c.requires.some
