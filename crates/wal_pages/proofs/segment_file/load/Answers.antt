use Rattle.std.proofs.Common.{◌≡◌, ◌%◌, Ok, inr, ap, sym, ◌∙◌, arith}
use Rattle.wal_base.specs.Segment.{bytes_of}
use Rattle.wal_pages.specs.Page.{answer_of, unless_bad}
use Rattle.wal_pages.proofs.PageLemmas.{file_bytes, page_read, refused_meets, from_meets, row_names}
use Rattle.wal_pages.proofs.ValidLemmas.{unbroken_valid}
use Rattle.wal_pages.proofs.segment_file.load.Goals as goal

pub returns-in_err-read_from-clause-exact : goal.returns-in_err-read_from-clause-exact
returns-in_err-read_from-clause-exact g c = λ tells.
    let is = c.requires.here in
    let offset : c.args.at.0 % c.from.result ≡ c.args.at.0 % bytes_of c.args.log.now.size = ap (λ n. c.args.at.0 % n) (c.from.ensures ∙ c.bytes.ensures.value) in
    let there = file_bytes c.args.log.now _ c.args.file.now.path c.args.file.now.segment c.args.at.0 (omega arith) is c.requires.file.path in
    let e = c.in_err-read_from.field-0.0 in
    from_meets c.from_residual.result e _ c.from_residual.ensures.0 c.from_residual.ensures.1
    (refused_meets c.args.log.now _ c.args.at.0 _ c.args.file.now.segment _ e is offset there (c.in_err-read_from.ensures.refused tells))

pub returns-in-Some-clause-exact : goal.returns-in-Some-clause-exact
returns-in-Some-clause-exact g c = λ tells.
    let is = c.requires.here in
    let offset : c.args.at.0 % c.from.result ≡ c.args.at.0 % bytes_of c.args.log.now.size = ap (λ n. c.args.at.0 % n) (c.from.ensures ∙ c.bytes.ensures.value) in
    let there = file_bytes c.args.log.now _ c.args.file.now.path c.args.file.now.segment c.args.at.0 (omega arith) is c.requires.file.path in
    let found = c.in_ok-read_from.ensures.found tells in
    let read = page_read c.args.log.now _ c.args.at.0 _ c.args.file.now.segment _ c.read_from.new.page is offset there found in
    inr (ap answer_of (read ∙ ap (unless_bad c.args.at.0 c.read_from.new.page) (sym c.in-Some.ensures.value)))

pub returns-in-None-clause-exact : goal.returns-in-None-clause-exact
returns-in-None-clause-exact g c = λ tells.
    let is = c.requires.here in
    let offset : c.args.at.0 % c.from.result ≡ c.args.at.0 % bytes_of c.args.log.now.size = ap (λ n. c.args.at.0 % n) (c.from.ensures ∙ c.bytes.ensures.value) in
    let there = file_bytes c.args.log.now _ c.args.file.now.path c.args.file.now.segment c.args.at.0 (omega arith) is c.requires.file.path in
    let found = c.in_ok-read_from.ensures.found tells in
    let read = page_read c.args.log.now _ c.args.at.0 _ c.args.file.now.segment _ c.read_from.new.page is offset there found in
    ap answer_of (read ∙ ap (unless_bad c.args.at.0 c.read_from.new.page) (sym c.in-None.ensures.value)) ∙ ap Ok (sym c.header_of.ensures.value)

pub returns-in-None-clause-page : goal.returns-in-None-clause-page
returns-in-None-clause-page g c = λ tells.
    let is = c.requires.here in
    let offset : c.args.at.0 % c.from.result ≡ c.args.at.0 % bytes_of c.args.log.now.size = ap (λ n. c.args.at.0 % n) (c.from.ensures ∙ c.bytes.ensures.value) in
    let there = file_bytes c.args.log.now _ c.args.file.now.path c.args.file.now.segment c.args.at.0 (omega arith) is c.requires.file.path in
    let found = c.in_ok-read_from.ensures.found tells in
    let read = page_read c.args.log.now _ c.args.at.0 _ c.args.file.now.segment _ c.read_from.new.page is offset there found in
    read ∙ ap (unless_bad c.args.at.0 c.read_from.new.page) (sym c.in-None.ensures.value)

pub returns-in_err-read_from-clause-names : goal.returns-in_err-read_from-clause-names
returns-in_err-read_from-clause-names g c = row_names c.from_residual.result c.in_err-read_from.field-0.0 c.args.log.now c.args.at.0 c.args.file.now.segment c.requires.here c.from_residual.ensures.1 c.in_err-read_from.ensures.row

pub returns-in-None-clause-valid : goal.returns-in-None-clause-valid
returns-in-None-clause-valid g c = unbroken_valid c.args.log.now c.args.at.0 c.read_from.new.page (sym c.in-None.ensures.value)
