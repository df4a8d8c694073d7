use Rattle.std.proofs.Common.{◌≡◌, ℕ, ◌+◌, ◌-◌, ◌*◌, min, ap, sym, ◌∙◌, arith, refl}
use Rattle.wal_base.specs.Segment.{bytes_of}
use Rattle.wal_records.specs.declared.why.Stop.TheVariants.{Ends}
use Rattle.wal_records.specs.declared.why.Why.TheVariants as why
use Rattle.wal_records.specs.Further.{pages_of, room, Gathered}
use Rattle.wal_records.proofs.TurnLemmas.{turned_on}
use Rattle.wal_records.proofs.FurtherLemmas.{gathered_stop, gathered_more, gathered_end, gathered_at, past_end}
use Rattle.wal_records.proofs.PartLemmas.{grows_on}
use Rattle.wal_records.proofs.further.add_rest.Goals as goal

pub returns-then-number-eq-PAGES-clause-gathered : goal.returns-then-number-eq-PAGES-clause-gathered
returns-then-number-eq-PAGES-clause-gathered g c = λ tells knows.
    let log = c.args.pages.now.log in
    let contents = g.F.Tree.contents c.args.tree.now in
    ap (λ (x : Gathered). x.stop) (sym (c.loop-left.invariant.on tells knows))
    ∙ gathered_stop (pages_of log contents) (bytes_of log.size) (c.loop-left.number * 8192) c.loop-left.left c.loop-left.bytes.items (Ends why.NoSegment) (omega arith)
    (past_end log contents (c.loop-left.number * 8192) c.loop-left.left (omega arith))

pub returns-in-Some-clause-gathered : goal.returns-in-Some-clause-gathered
returns-in-Some-clause-gathered g c = λ tells knows.
    let log = c.args.pages.now.log in
    let contents = g.F.Tree.contents c.args.tree.now in
    let added = rw (c.in-Some.is, c.loop-left.invariant.turns.log, c.loop-left.invariant.turns.reads.same) at (c.in_ok-stop.ensures.added tells (c.loop-left.invariant.turns.knows tells knows)) in
    ap (λ (x : Gathered). x.stop) (sym (c.loop-left.invariant.on tells knows))
    ∙ gathered_stop (pages_of log contents) (bytes_of log.size) (c.loop-left.number * 8192) c.loop-left.left c.loop-left.bytes.items c.in-Some.stop (omega arith) added.stop_is

pub loop-left-preserved : goal.loop-left-preserved
loop-left-preserved g c =
    let log = c.args.pages.now.log in
    let contents = g.F.Tree.contents c.args.tree.now in
    let page : ℕ = c.loop-left.number * 8192 in
    let room_is : c.room_of.result ≡ room (bytes_of log.size) page = c.room_of.ensures.value ∙ ap (λ s. room (bytes_of s) page) c.size-size.ensures.value in
    let after : c.saturating_sub-left.result ≡ c.loop-left.left - room (bytes_of log.size) page = omega (arith, room_is, c.saturating_sub-left.ensures) in
    let more = rw c.loop-left.invariant.turns.log at (c.in_ok-stop.ensures.grows c.in-None.is) in
    record {
      turns = turned_on g.F.Tree _ _ _ _ _ _ c.loop-left.invariant.turns c.add_page.ensures.turns;
      fewer = omega (arith, after, c.loop-left.invariant.fewer);
      grows = grows_on c.args.bytes.now.items c.loop-left.bytes.items c.add_page.new.bytes.items
          (c.args.left - c.loop-left.left) (min c.loop-left.left (room (bytes_of log.size) page)) (c.args.left - c.saturating_sub-left.result)
          c.loop-left.invariant.grows more (omega (arith, after, c.loop-left.invariant.fewer));
      later = omega (arith, c.loop-left.invariant.later);
      within = omega arith;
      on = λ tells knows.
          let added = rw (c.in-None.is, c.loop-left.invariant.turns.log, c.loop-left.invariant.turns.reads.same) at (c.in_ok-stop.ensures.added tells (c.loop-left.invariant.turns.knows tells knows)) in
          let next : (c.loop-left.number + 1) * 8192 ≡ page + 8192 = omega arith in
          gathered_at (pages_of log contents) (bytes_of log.size) _ _ _ _ _ _ (added.bytes refl) next after
          ∙ sym (gathered_more (pages_of log contents) (bytes_of log.size) page c.loop-left.left c.loop-left.bytes.items (omega arith) added.stop_is)
          ∙ c.loop-left.invariant.on tells knows;
    }

pub returns-clause-gathered : goal.returns-clause-gathered
returns-clause-gathered g c = λ tells knows.
    let log = c.args.pages.now.log in
    sym (c.loop-left.invariant.on tells knows)
    ∙ gathered_end (pages_of log (g.F.Tree.contents c.args.tree.now)) (bytes_of log.size) (c.loop-left.number * 8192) c.loop-left.left c.loop-left.bytes.items (omega arith)
