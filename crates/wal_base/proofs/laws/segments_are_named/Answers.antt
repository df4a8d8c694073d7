use Rattle.wal_base.proofs.SegmentLemmas.{named_by_reading, read_by_naming}
use Rattle.wal_base.proofs.laws.segments_are_named.Goals as goal

pub returns : goal.returns
returns c = λ size text segment. (named_by_reading size text segment, read_by_naming size text segment)
