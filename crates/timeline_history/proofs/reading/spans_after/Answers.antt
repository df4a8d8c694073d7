use Rattle.timeline_history.proofs.HistoryLemmas.{all_end, first_span}
use Rattle.timeline_history.proofs.reading.spans_after.Goals as goal
use Rattle.std.proofs.Common.{None, ◌∷◌}

pub loop-entry-init : goal.loop-entry-init
loop-entry-init c =
    let ends = all_end c.args.tli None (c.args.first ∷ c.args.later.now) c.requires.rising in
    record {
      whole = rw c.in_ok-spans.ensures.ok (first_span c.args.tli c.args.first c.args.later.now);
      ends = ends.0;
      later = ends.1;
    }
