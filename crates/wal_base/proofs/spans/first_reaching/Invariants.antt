use Rattle.std.proofs.Common.{◌≡◌, drop, find}
use Rattle.wal_base.specs.Segment.{bytes_of}
use Rattle.wal_base.specs.Spans.{reaches, segment_end}
use Rattle.wal_base.proofs.spans.first_reaching.Given as goal

abbrev pub invariant-loop-span : goal.invariant-loop-span
invariant-loop-span l =
    find (reaches (segment_end (bytes_of l.size) l.number)) (drop l.span-index l.spans) ≡ find (reaches (segment_end (bytes_of l.size) l.number)) l.spans
