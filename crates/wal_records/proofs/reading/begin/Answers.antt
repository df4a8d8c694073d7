use Rattle.std.proofs.Common.{◌≡◌, ◌%◌, ◌++◌, Some, take, drop, ap, sym, ◌∙◌, true, false}
use Rattle.layout.specs.Readers.{u32_at}
use Rattle.wal_base.specs.Segment.{bytes_of}
use Rattle.wal_pages.specs.declared.header.PageHeader.{PageHeader}
use Rattle.wal_pages.specs.Header.{header_of as page_header}
use Rattle.wal_records.specs.Place.{is_place}
use Rattle.wal_records.specs.Header.{length_fault}
use Rattle.wal_records.specs.Further.{pages_of}
use Rattle.wal_records.specs.Reading.{continues_at}
use Rattle.wal_records.proofs.ReadingLemmas.{read_no_place, read_refused, read_continues, read_on, read_first}
use Rattle.wal_records.proofs.PartLemmas.{first_part}
use Rattle.wal_records.proofs.reading.begin.Goals as goal

pub returns-then-not-is_place-clause-read : goal.returns-then-not-is_place-clause-read
returns-then-not-is_place-clause-read g c = λ tells knows before.
    let log = c.args.pages.now.log in
    let here : is_place (bytes_of log.size) c.args.place ≡ false = sym (ap (λ s. is_place (bytes_of s) c.args.place) c.size-size.ensures.value) ∙ sym c.is_place.ensures.value ∙ c.if-not-is_place.true in
    read_no_place (pages_of log (g.F.Tree.contents c.args.tree.now)) (bytes_of log.size) c.args.place before here

pub returns-in-Refused-clause-read : goal.returns-in-Refused-clause-read
returns-in-Refused-clause-read g c = λ tells knows before.
    let log = c.args.pages.now.log in
    let here : is_place (bytes_of log.size) c.args.place ≡ true = sym (ap (λ s. is_place (bytes_of s) c.args.place) c.size-size.ensures.value) ∙ sym c.is_place.ensures.value ∙ c.if-not-is_place.false in
    read_refused (pages_of log (g.F.Tree.contents c.args.tree.now)) (bytes_of log.size) c.args.place before c.in-Refused.why here
    ((rw c.in-Refused.is at c.in_ok-header.ensures).opened tells knows)

pub returns-then-continues_at-clause-read : goal.returns-then-continues_at-clause-read
returns-then-continues_at-clause-read g c = λ tells knows before.
    let log = c.args.pages.now.log in
    let page = c.open_page.new.pages.page in
    let here : is_place (bytes_of log.size) c.args.place ≡ true = sym (ap (λ s. is_place (bytes_of s) c.args.place) c.size-size.ensures.value) ∙ sym c.is_place.ensures.value ∙ c.if-not-is_place.false in
    let opened = rw c.in-Page.is at c.in_ok-header.ensures in
    let on : continues_at (bytes_of log.size) c.args.place (page_header page).info ≡ true =
    sym (c.continues_at.ensures.value ∙ ap (λ s. continues_at (bytes_of s) c.args.place c.in-Page.header.info) c.size-size.ensures.value
    ∙ ap (λ (h : PageHeader). continues_at (bytes_of log.size) c.args.place h.info) opened.page.1) ∙ c.if-continues_at.true in
    read_continues (pages_of log (g.F.Tree.contents c.args.tree.now)) (bytes_of log.size) c.args.place before page here (opened.opened tells knows) on

pub returns-in-Some-clause-read : goal.returns-in-Some-clause-read
returns-in-Some-clause-read g c = λ tells knows before.
    let log = c.args.pages.now.log in
    let page = c.open_page.new.pages.page in
    let here : is_place (bytes_of log.size) c.args.place ≡ true = sym (ap (λ s. is_place (bytes_of s) c.args.place) c.size-size.ensures.value) ∙ sym c.is_place.ensures.value ∙ c.if-not-is_place.false in
    let opened = rw c.in-Page.is at c.in_ok-header.ensures in
    let on : continues_at (bytes_of log.size) c.args.place (page_header page).info ≡ false =
    sym (c.continues_at.ensures.value ∙ ap (λ s. continues_at (bytes_of s) c.args.place c.in-Page.header.info) c.size-size.ensures.value
    ∙ ap (λ (h : PageHeader). continues_at (bytes_of log.size) c.args.place h.info) opened.page.1) ∙ c.if-continues_at.false in
    let total : c.u32_at-total.result ≡ u32_at (c.args.place % 8192) page = c.u32_at-total.ensures ∙ ap (u32_at (c.args.place % 8192)) c.page.ensures.value in
    let fault : length_fault (u32_at (c.args.place % 8192) page) ≡ Some c.in-Some.why = sym (ap length_fault total) ∙ sym c.length_fault.ensures.value ∙ c.in-Some.is in
    read_on (pages_of log (g.F.Tree.contents c.args.tree.now)) (bytes_of log.size) c.args.place before page (Some c.in-Some.why) here (opened.opened tells knows) on fault

pub returns-clause-read : goal.returns-clause-read
returns-clause-read g c = λ tells knows before.
    let log = c.args.pages.now.log in
    let page = c.open_page.new.pages.page in
    let here : is_place (bytes_of log.size) c.args.place ≡ true = sym (ap (λ s. is_place (bytes_of s) c.args.place) c.size-size.ensures.value) ∙ sym c.is_place.ensures.value ∙ c.if-not-is_place.false in
    let opened = rw c.in-Page.is at c.in_ok-header.ensures in
    let on : continues_at (bytes_of log.size) c.args.place (page_header page).info ≡ false =
    sym (c.continues_at.ensures.value ∙ ap (λ s. continues_at (bytes_of s) c.args.place c.in-Page.header.info) c.size-size.ensures.value
    ∙ ap (λ (h : PageHeader). continues_at (bytes_of log.size) c.args.place h.info) opened.page.1) ∙ c.if-continues_at.false in
    let total : c.u32_at-total.result ≡ u32_at (c.args.place % 8192) page = c.u32_at-total.ensures ∙ ap (u32_at (c.args.place % 8192)) c.page.ensures.value in
    read_first (pages_of log (g.F.Tree.contents c.args.tree.now)) (bytes_of log.size) c.args.place before page c.u32_at-total.result _ here (opened.opened tells knows) on
    (sym c.length_fault.ensures.value ∙ c.in-None.is) total
    (c.in_ok-add_piece.ensures.items ∙ ap (λ b. b ++ c.piece_of.result.now) c.requires.empty ∙ c.piece_of.ensures.value ∙ ap (λ p. take c.u32_at-total.result (drop (c.args.place % 8192) p)) c.page-2.ensures.value)

pub returns-clause-fits : goal.returns-clause-fits
returns-clause-fits g c =
    let page = c.open_page.new.pages.page in
    let opened = rw c.in-Page.is at c.in_ok-header.ensures in
    let total : c.u32_at-total.result ≡ u32_at (c.args.place % 8192) page = c.u32_at-total.ensures ∙ ap (u32_at (c.args.place % 8192)) c.page.ensures.value in
    first_part c.args.place c.u32_at-total.result page _ opened.page.0 (c.is_place.ensures.whole c.if-not-is_place.false) c.in-None.ensures.least c.in-None.ensures.greatest total
    (c.in_ok-add_piece.ensures.items ∙ ap (λ b. b ++ c.piece_of.result.now) c.requires.empty ∙ c.piece_of.ensures.value ∙ ap (λ p. take c.u32_at-total.result (drop (c.args.place % 8192) p)) c.page-2.ensures.value)
