use Rattle.std.proofs.Common.{ap, sym, ◌∙◌, length, arith}
use Rattle.wal_records.specs.Writer.{lead}
use Rattle.wal_records.specs.Zeros.{with_bytes}
use Rattle.wal_records.proofs.ZerosLemmas.{with_none}
use Rattle.wal_records.proofs.WriterLemmas.{lead_first, lead_page, lead_none, length-page_header}
use Rattle.wal_records.proofs.new_pages.add_lead.Goals as goal
use Rattle.wal_records.proofs.new_pages.add_lead.Goals.{else-at-origin-via-then-at-origin+else-at-eq0, else-at-origin-via-else-at-origin}

pub add_header-requires : goal.add_header-requires
add_header-requires c =
    let size = ap length (lead_page c.args.origin c.args.at c.if-at-origin.true c.if-at-eq0.true) in
    record { room = omega (arith, size, length-page_header c.args.origin c.args.at 0, c.requires.room) }

pub returns-then-at-eq0 : goal.returns-then-at-eq0
returns-then-at-eq0 c = c.add_header.ensures ∙ ap (with_bytes c.args.pages.now) (sym (lead_page c.args.origin c.args.at c.if-at-origin.true c.if-at-eq0.true))

pub returns-else-at-origin : goal.returns-else-at-origin
returns-else-at-origin c =
    elim c.else-at-origin.branch [
      | else-at-origin-via-then-at-origin+else-at-eq0 w ↦ with_none c.args.pages.now (lead c.args.origin c.args.at) (lead_none c.args.origin c.args.at w.if-at-eq0.false)
      | else-at-origin-via-else-at-origin w ↦ with_none c.args.pages.now (lead c.args.origin c.args.at) (lead_first c.args.origin c.args.at w.if-at-origin.false)
    ]
