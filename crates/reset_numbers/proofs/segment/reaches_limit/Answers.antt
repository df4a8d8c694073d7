use Rattle.std.proofs.Common.{◌∙◌}
use Rattle.wal_base.specs.Segment.{bytes_of}
use Rattle.reset_numbers.proofs.SegmentLemmas.{reach}
use Rattle.reset_numbers.proofs.segment.reaches_limit.Goals as goal

pub returns : goal.returns
returns c = reach (bytes_of c.args.size) c.from.result c.args.number c.args.size.is_size (c.from.ensures ∙ c.bytes.ensures.value)
