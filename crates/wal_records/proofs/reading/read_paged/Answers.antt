use Rattle.std.proofs.Common.{◌≡◌, ℕ, ◌+◌, ◌-◌, ◌*◌, ◌/◌, min, length, IfOk, ap, sym, ◌∙◌, subst, arith, refl}
use Rattle.wal_base.specs.Segment.{bytes_of}
use Rattle.wal_records.specs.declared.why.Stop.TheVariants.{Ends}
use Rattle.wal_records.specs.declared.why.Why.TheVariants as why
use Rattle.wal_records.specs.Further.{pages_of, further_page, room}
use Rattle.wal_records.specs.Reading.{Reading}
use Rattle.wal_records.specs.Steps.{Gives}
use Rattle.wal_records.proofs.FurtherLemmas.{past_end, same_further}
use Rattle.wal_records.proofs.PlaceLemmas.{next_page}
use Rattle.wal_records.proofs.ReadingLemmas.{first_whole, first_reaches, front_stops, front_on, header_at}
use Rattle.wal_records.proofs.PartLemmas.{part_grows, part_of}
use Rattle.wal_records.proofs.reading.read_paged.Goals as goal

pub returns-in-Stopped-clause-read : goal.returns-in-Stopped-clause-read
returns-in-Stopped-clause-read g c = λ tells knows. (rw c.in-Stopped.is at c.in_ok-stop.ensures).read tells knows c.args.before

pub returns-then-len-ge-HEADER_SIZE-clause-read : goal.returns-then-len-ge-HEADER_SIZE-clause-read
returns-then-len-ge-HEADER_SIZE-clause-read g c = λ tells knows.
    let log = c.args.pages.now.log in
    let pages = pages_of log (g.F.Tree.contents c.args.tree.now) in
    let size = bytes_of log.size in
    let total = c.in-Total.total in
    let bytes = c.begin.new.bytes.items in
    let page : ℕ = (c.args.place / 8192 + 1) * 8192 in
    let left : ℕ = total - c.len.result in
    let begun = rw c.in-Total.is at c.in_ok-stop.ensures in
    let held = rw (c.begin.ensures.turns.log, c.begin.ensures.turns.reads.same) at (c.read_body.ensures.read tells (c.begin.ensures.turns.knows tells knows)) in
    let sum : total ≡ length bytes + left = omega (arith, begun.fits.first, c.len.ensures) in
    let is = begun.read tells knows c.args.before
    ∙ first_whole pages size c.args.place total page left c.args.before bytes (omega arith) (next_page c.args.place) (omega arith)
    ∙ header_at pages size c.args.place total (length bytes + left) c.args.before _ _ bytes bytes sum refl refl in
    let P : Reading → Type 0 = λ r. IfOk c.read_body.result (λ found. Gives c.args.place found c.read_body.new.bytes.items r) in
    subst P (sym is) held

pub returns-then-number-eq-PAGES-clause-read : goal.returns-then-number-eq-PAGES-clause-read
returns-then-number-eq-PAGES-clause-read g c = λ tells knows.
    let log = c.args.pages.now.log in
    let contents = g.F.Tree.contents c.args.tree.now in
    let pages = pages_of log contents in
    let total = c.in-Total.total in
    let bytes = c.begin.new.bytes.items in
    let page : ℕ = (c.args.place / 8192 + 1) * 8192 in
    let left : ℕ = total - c.len.result in
    let begun = rw c.in-Total.is at c.in_ok-stop.ensures in
    begun.read tells knows c.args.before
    ∙ first_reaches pages (bytes_of log.size) c.args.place total page left c.args.before bytes (omega arith) (next_page c.args.place) (omega arith)
    ∙ front_stops pages (bytes_of log.size) c.args.place total c.args.before (further_page page left) bytes (Ends why.NoSegment) (past_end log contents page left (omega arith))

pub returns-in-Some-clause-read : goal.returns-in-Some-clause-read
returns-in-Some-clause-read g c = λ tells knows.
    let log = c.args.pages.now.log in
    let pages = pages_of log (g.F.Tree.contents c.args.tree.now) in
    let total = c.in-Total.total in
    let bytes = c.begin.new.bytes.items in
    let page : ℕ = (c.args.place / 8192 + 1) * 8192 in
    let left : ℕ = total - c.len.result in
    let begun = rw c.in-Total.is at c.in_ok-stop.ensures in
    let added = rw (c.in-Some.is, c.begin.ensures.turns.log, c.begin.ensures.turns.reads.same) at (c.in_ok-stop-2.ensures.added tells (c.begin.ensures.turns.knows tells knows)) in
    begun.read tells knows c.args.before
    ∙ first_reaches pages (bytes_of log.size) c.args.place total page left c.args.before bytes (omega arith) (next_page c.args.place) (omega arith)
    ∙ front_stops pages (bytes_of log.size) c.args.place total c.args.before (further_page page left) bytes c.in-Some.stop added.stop_is

pub read_body-requires-2-clause-part : goal.read_body-requires-2-clause-part
read_body-requires-2-clause-part g c =
    let log = c.args.pages.now.log in
    let total = c.in-Total.total in
    let bytes = c.begin.new.bytes.items in
    let page : ℕ = (c.args.place / 8192 + 1) * 8192 in
    let left : ℕ = total - c.len.result in
    let begun = rw c.in-Total.is at c.in_ok-stop.ensures in
    let grows = rw c.begin.ensures.turns.log at (c.in_ok-stop-2.ensures.grows c.in-None.is) in
    let room_is : c.room_of.result ≡ room (bytes_of log.size) page = c.room_of.ensures.value ∙ ap (λ s. room (bytes_of s) page) c.size-size.ensures.value in
    let sum : total ≡ length c.add_page.new.bytes.items + c.saturating_sub-left.result = omega (arith, grows.size, room_is, begun.fits.first, c.len.ensures, c.saturating_sub-left.ensures) in
    part_of total _ c.add_page.new.bytes.items sum (part_grows total (min left (room (bytes_of log.size) page)) bytes c.add_page.new.bytes.items begun.fits.part grows)

pub returns-clause-read : goal.returns-clause-read
returns-clause-read g c = λ tells knows.
    let log = c.args.pages.now.log in
    let pages = pages_of log (g.F.Tree.contents c.args.tree.now) in
    let size = bytes_of log.size in
    let total = c.in-Total.total in
    let bytes = c.begin.new.bytes.items in
    let all = c.add_page.new.bytes.items in
    let page : ℕ = (c.args.place / 8192 + 1) * 8192 in
    let left : ℕ = total - c.len.result in
    let begun = rw c.in-Total.is at c.in_ok-stop.ensures in
    let grows = rw c.begin.ensures.turns.log at (c.in_ok-stop-2.ensures.grows c.in-None.is) in
    let added = rw (c.in-None.is, c.begin.ensures.turns.log, c.begin.ensures.turns.reads.same) at (c.in_ok-stop-2.ensures.added tells (c.begin.ensures.turns.knows tells knows)) in
    let room_is : c.room_of.result ≡ room size page = c.room_of.ensures.value ∙ ap (λ s. room (bytes_of s) page) c.size-size.ensures.value in
    let sum : total ≡ length all + c.saturating_sub-left.result = omega (arith, grows.size, room_is, begun.fits.first, c.len.ensures, c.saturating_sub-left.ensures) in
    let after : left - room size page ≡ c.saturating_sub-left.result = omega (arith, room_is, c.saturating_sub-left.ensures) in
    let next : page + 8192 ≡ (c.args.place / 8192 + 1 + 1) * 8192 = omega arith in
    let held = rw (c.add_page.ensures.turns.log, c.begin.ensures.turns.log, c.add_page.ensures.turns.reads.same, c.begin.ensures.turns.reads.same) at (c.read_body-2.ensures.read tells (c.add_page.ensures.turns.knows tells (c.begin.ensures.turns.knows tells knows))) in
    let is = begun.read tells knows c.args.before
    ∙ first_reaches pages size c.args.place total page left c.args.before bytes (omega arith) (next_page c.args.place) (omega arith)
    ∙ front_on pages size c.args.place total c.args.before (further_page page left) bytes added.stop_is
    ∙ header_at pages size c.args.place total (length all + c.saturating_sub-left.result) c.args.before _ _ _ all sum (same_further size _ _ _ _ next after) (sym (added.bytes refl)) in
    let P : Reading → Type 0 = λ r. IfOk c.read_body-2.result (λ found. Gives c.args.place found c.read_body-2.new.bytes.items r) in
    subst P (sym is) held
