use Rattle.std.proofs.Common.{◌≡◌, take}
use Rattle.wal_base.specs.Segment.{bytes_of}
use Rattle.reset_numbers.specs.Names.{greatest_named}
use Rattle.reset_numbers.proofs.names.greatest_named.Given as goal

abbrev pub invariant-loop-at : goal.invariant-loop-at
invariant-loop-at l = l.greatest ≡ greatest_named (bytes_of l.size) l.least (take l.at l.names)
