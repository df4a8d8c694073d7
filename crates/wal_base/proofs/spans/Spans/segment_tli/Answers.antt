use Rattle.std.proofs.Common.{refl}
use Rattle.wal_base.specs.Spans.{segment_end}
use Rattle.wal_base.specs.Segment.{bytes_of}
use Rattle.wal_base.proofs.SpanLemmas.{some_reaches}
use Rattle.wal_base.proofs.spans.Spans.segment_tli.Goals as goal

pub unwrap-requires : goal.unwrap-requires
unwrap-requires c =
    let h = some_reaches (segment_end (bytes_of c.args.size) c.args.number) c.self.inside.items.items c.self.invariant in
    rw (c.first_reaching.ensures, c.deref.ensures.value, h.1) refl
