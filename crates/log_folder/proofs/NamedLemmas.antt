-- The segments that names give.
use Rattle.std.proofs.Common.{◌≡◌, ℕ, ◌*◌, ◌^◌, ◌<◌, List, Some, sym, subst}
use Rattle.wal_base.specs.Segment.{bytes_of, segment_named}
use Rattle.wal_base.proofs.SegmentLemmas.{named_by_reading}
use Rattle.wal_base.specs.declared.seg_size.SegSize.{SegSize}
use Rattle.wal_base.specs.declared.segment.Segment.{Segment}

-- a segment that a name gives lies within the log
pub within_named : (size : SegSize) (text : List ℕ) (segment : Segment) → segment_named size text ≡ Some segment → segment.number * bytes_of segment.size < 2 ^ 64
within_named size text segment is =
    let named = named_by_reading size text segment is in
    subst (λ (s : SegSize). segment.number * bytes_of s < 2 ^ 64) (sym named.sized) named.within

pub ruleset named_steps = (within_named)
