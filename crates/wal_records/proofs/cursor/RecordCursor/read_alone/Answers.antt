use Rattle.std.proofs.Common.{◌≡◌, None, ap, sym, ◌∙◌, subst, refl, arith}
use Rattle.wal_records.specs.Reading.{LogRecord, record_of}
use Rattle.wal_records.specs.Cursor.{CursorView, IsWhole}
use Rattle.wal_records.proofs.PartLemmas.{whole_record, link_of_record, same_but_read}
use Rattle.wal_records.proofs.cursor.RecordCursor.read_alone.Goals as goal

pub invariant_of-self : goal.invariant_of-self
invariant_of-self g c =
    let fits = (rw c.in-Ok-Record.field-0-is at c.in-Ok-Record.ensures).fits in
    subst IsWhole (sym c.new.ensures.value) (whole_record c.args.place.0 c.in-Ok-Record.end c.read_record.new.bytes.items fits.all)

pub returns-in-Ok-Record-clause-stands : goal.returns-in-Ok-Record-clause-stands
returns-in-Ok-Record-clause-stands g c =
    let fits = (rw c.in-Ok-Record.field-0-is at c.in-Ok-Record.ensures).fits in
    let bytes = c.read_record.new.bytes.items in
    let is : c.new.result ≡ record_of c.args.place.0 c.in-Ok-Record.end bytes = c.new.ensures.value in
    let start = ap (λ (r : LogRecord). r.start) is in
    let end = ap (λ (r : LogRecord). r.end) is in
    let total = ap (λ (r : LogRecord). r.header.total) is in
    let log = c.read_record.ensures.turns.log ∙ ap (λ (v : CursorView). v.log) c.self.view_is in
    let before = ap (λ (v : CursorView). v.before) c.self.view_is in
    let place = ap (λ (v : CursorView). v.place) c.self.view_is in
    let ended = ap (λ (v : CursorView). v.ended) c.self.view_is in (
      record {
        whole = subst IsWhole (sym is) (whole_record c.args.place.0 c.in-Ok-Record.end bytes fits.all);
        start = start;
        longer = omega (arith, fits.all.longer, fits.all.total, start, end, total);
        linked = link_of_record None None c.args.place.0 c.in-Ok-Record.end bytes c.new.result is refl fits.linked;
      },
      same_but_read _ c.args.self.now _ _ c.self.inside.before c.self.inside.place c.self.inside.ended _ log before place ended,
    )
