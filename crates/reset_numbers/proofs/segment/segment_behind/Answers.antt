use Rattle.wal_base.specs.Segment.{bytes_of}
use Rattle.reset_numbers.specs.Names.{next_number}
use Rattle.reset_numbers.proofs.SegmentLemmas.{next_is_past, no_segment}
use Rattle.reset_numbers.proofs.segment.segment_behind.Goals as goal

pub returns-in_default-clause-value : goal.returns-in_default-clause-value
returns-in_default-clause-value c =
    no_segment c.args.given c.args.tli (bytes_of c.args.old) c.args.size c.args.greatest
    (next_is_past (bytes_of c.args.size) (next_number (bytes_of c.args.old) (bytes_of c.args.size) c.args.greatest) c.args.given c.in_default.ensures.none)
