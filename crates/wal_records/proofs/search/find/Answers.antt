use Rattle.std.proofs.Common.{ap, sym, ◌∙◌, arith}
use Rattle.wal_base.specs.Segment.{bytes_of}
use Rattle.wal_records.specs.declared.why.Stop.TheVariants.{Ends, Dropped}
use Rattle.wal_records.specs.Place.{place_at}
use Rattle.wal_records.specs.Further.{pages_of}
use Rattle.wal_records.specs.Reading.{Spelled, Stopped, record_of}
use Rattle.wal_records.specs.Log.{log_from}
use Rattle.wal_records.proofs.TurnLemmas.{turned_on}
use Rattle.wal_records.proofs.LogLemmas.{log_on}
use Rattle.wal_records.proofs.search.find.Goals as goal

pub returns-in-Record-clause-found : goal.returns-in-Record-clause-found
returns-in-Record-clause-found g c = λ tells knows.
    let log = c.args.pages.now.log in
    let read = rw (c.in-Record.is, c.pages.invariant.turns.log, c.pages.invariant.turns.reads.same) at (c.in_ok-end.ensures.read tells (c.pages.invariant.turns.knows tells knows)) in
    c.pages.invariant.on tells knows
    ∙ log_on (pages_of log (g.F.Tree.contents c.args.tree.now)) (bytes_of log.size) c.pages.place c.args.before (Spelled (record_of c.pages.place c.in-Record.end c.read_record.new.bytes.items))
    (omega (arith, log.size.is_size.least)) c.pages.invariant.low read

pub returns-in-Stopped-Ends-clause-found : goal.returns-in-Stopped-Ends-clause-found
returns-in-Stopped-Ends-clause-found g c = λ tells knows.
    let log = c.args.pages.now.log in
    let read = rw (c.in-Stopped-Ends.is, c.in-Stopped-Ends.field-0-is, c.pages.invariant.turns.log, c.pages.invariant.turns.reads.same) at (c.in_ok-end.ensures.read tells (c.pages.invariant.turns.knows tells knows)) in
    c.pages.invariant.on tells knows
    ∙ log_on (pages_of log (g.F.Tree.contents c.args.tree.now)) (bytes_of log.size) c.pages.place c.args.before (Stopped (Ends c.in-Stopped-Ends.why))
    (omega (arith, log.size.is_size.least)) c.pages.invariant.low read

pub pages-preserved : goal.pages-preserved
pages-preserved g c =
    let log = c.args.pages.now.log in
    let from = (rw (c.in-Stopped-Dropped.is, c.in-Stopped-Dropped.field-0-is) at c.in_ok-end.ensures).from in
    record {
      turns = turned_on g.F.Tree _ _ _ _ _ _ c.pages.invariant.turns c.read_record.ensures.turns;
      up = omega (arith, from, c.place_at-place.ensures.up, c.pages.invariant.up);
      low = omega arith;
      on = λ tells knows.
          let read = rw (c.in-Stopped-Dropped.is, c.in-Stopped-Dropped.field-0-is, c.pages.invariant.turns.log, c.pages.invariant.turns.reads.same) at (c.in_ok-end.ensures.read tells (c.pages.invariant.turns.knows tells knows)) in
          c.pages.invariant.on tells knows
          ∙ log_on (pages_of log (g.F.Tree.contents c.args.tree.now)) (bytes_of log.size) c.pages.place c.args.before (Stopped (Dropped c.in-Stopped-Dropped.page))
          (omega (arith, log.size.is_size.least)) c.pages.invariant.low read
          ∙ ap (log_from (pages_of log (g.F.Tree.contents c.args.tree.now)) (bytes_of log.size) c.args.before)
          (sym (c.place_at-place.ensures.value ∙ ap (λ s. place_at (bytes_of s) c.in-Stopped-Dropped.page) c.size-size.ensures.value));
    }
