use Rattle.std.proofs.Common.{◌≡◌, ℕ, Some, sym, ◌∙◌}
use Rattle.wal_base.specs.Segment.{bytes_of}
use Rattle.wal_records.specs.Further.{pages_of}
use Rattle.waldump_core.specs.FirstPlace.{header_in, place_on}
use Rattle.waldump_core.proofs.PlaceLemmas.{place_found}
use Rattle.waldump_core.proofs.first_place.first_place.Goals as goal

pub returns-in-Some-place_on-clause-place : goal.returns-in-Some-place_on-clause-place
returns-in-Some-place_on-clause-place g c = λ tells.
    let log = c.args.pages.now.log in
    let contents = g.F.Tree.contents c.args.tree.now in
    let at : ℕ = c.pages.at in
    let read = c.in_ok-header.ensures.header tells in
    let header : header_in (pages_of log contents at) ≡ Some c.in-Some.header = cc (read, c.in-Some.is) in
    let on : place_on (bytes_of log.size) at c.in-Some.header ≡ Some c.in-Some-place_on.place = cc (c.place_on.ensures, c.in-Some-place_on.is) in
    sym (place_found (pages_of log contents) (bytes_of log.size) at c.in-Some-place_on.place c.in-Some.header c.pages.invariant.within c.pages.invariant.whole header on) ∙ c.pages.invariant.place tells
