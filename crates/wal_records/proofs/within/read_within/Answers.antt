use Rattle.std.proofs.Common.{◌≡◌, ◌++◌, Ok, ap, sym, subst, ◌∙◌}
use Rattle.wal_base.specs.Segment.{bytes_of}
use Rattle.wal_pages.specs.Header.{page_of}
use Rattle.wal_records.specs.Further.{pages_of}
use Rattle.wal_records.specs.Reading.{Spelled, record_of}
use Rattle.wal_records.specs.Steps.{IsLinkedAll}
use Rattle.wal_records.proofs.WithinLemmas.{known_at, within_read, within_all}
use Rattle.wal_records.proofs.within.read_within.Goals as goal

pub returns-clause-read : goal.returns-clause-read
returns-clause-read c = λ contents known.
    let pages = c.args.pages.now in
    let bytes = c.in-Some-bytes_within.record.now in
    let all : c.add_piece.new.bytes.items ≡ bytes = c.in_ok-add_piece.ensures.items ∙ ap (λ b. b ++ bytes) c.requires.empty in
    within_read (pages_of pages.log contents) (bytes_of pages.log.size) c.args.place c.in-Some-end_within.end c.args.before c.in-Some.page.now bytes
    (known_at pages contents (page_of c.args.place) c.in-Some.ensures.held known ∙ ap Ok (sym c.in-Some.ensures.page))
    c.in-Some-bytes_within.ensures.within c.in-Some-end_within.ensures.ends
    ∙ ap (λ b. Spelled (record_of c.args.place c.in-Some-end_within.end b)) (sym all)

pub returns-clause-fits : goal.returns-clause-fits
returns-clause-fits c =
    let bytes = c.in-Some-bytes_within.record.now in
    let all : c.add_piece.new.bytes.items ≡ bytes = c.in_ok-add_piece.ensures.items ∙ ap (λ b. b ++ bytes) c.requires.empty in
    subst (IsLinkedAll c.args.before c.args.place c.in-Some-end_within.end) (sym all)
    (within_all c.args.place c.in-Some-end_within.end c.args.before c.in-Some.page.now bytes c.in-Some-bytes_within.ensures.within c.in-Some-end_within.ensures.ends)
