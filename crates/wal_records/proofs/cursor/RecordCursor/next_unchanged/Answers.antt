use Rattle.std.proofs.Common.{◌≡◌, Some, ap, sym, ◌∙◌, subst, arith}
use Rattle.wal_base.specs.Segment.{bytes_of}
use Rattle.wal_pages.specs.declared.log_path.LogPath.{LogPath}
use Rattle.wal_records.specs.Place.{place_at}
use Rattle.wal_records.specs.Reading.{LogRecord, record_of}
use Rattle.wal_records.specs.Cursor.{CursorView, IsWhole}
use Rattle.wal_records.proofs.PartLemmas.{whole_record, link_of_record}
use Rattle.wal_records.proofs.cursor.RecordCursor.next_unchanged.Goals as goal

pub returns-in-Ok-Record-clause-moves : goal.returns-in-Ok-Record-clause-moves
returns-in-Ok-Record-clause-moves g c =
    let fits = (rw c.in-Ok-Record.field-0-is at c.in-Ok-Record.ensures).fits in
    let is : c.new.result ≡ record_of c.in-Ok-Record.start c.in-Ok-Record.end c.find.new.bytes.items = c.new.ensures.value in
    let view = ap (λ (v : CursorView). v.place) c.self.view_is in
    let start = ap (λ (r : LogRecord). r.start) is in
    let end = ap (λ (r : LogRecord). r.end) is in
    let total = ap (λ (r : LogRecord). r.header.total) is in
    record {
      whole = subst IsWhole (sym is) (whole_record c.in-Ok-Record.start c.in-Ok-Record.end c.find.new.bytes.items fits.found.all);
      later = omega (arith, fits.later, view, start);
      longer = omega (arith, fits.found.all.longer, fits.found.all.total, start, end, total);
      linked = link_of_record c.self.inside.before c.args.self.now.before c.in-Ok-Record.start c.in-Ok-Record.end c.find.new.bytes.items c.new.result is
          (ap (λ (v : CursorView). v.before) c.self.view_is) fits.found.linked;
      up = omega (arith, fits.later, view, fits.found.all.longer, fits.found.all.least, c.place_at.ensures.up);
      before = ap (λ n. Some n) (sym start);
      place =
          c.place_at.ensures.value
          ∙ ap (λ s. place_at (bytes_of s) c.in-Ok-Record.end) (c.size-size.ensures.value ∙ ap (λ (l : LogPath). l.size) (c.find.ensures.turns.log ∙ ap (λ (v : CursorView). v.log) c.self.view_is))
          ∙ ap (place_at (bytes_of c.args.self.now.log.size)) (sym end);
      within = omega arith;
      opened = c.in-None.is;
    }

pub invariant_of-self-in-Ok-Record : goal.invariant_of-self-in-Ok-Record
invariant_of-self-in-Ok-Record g c =
    let fits = (rw c.in-Ok-Record.field-0-is at c.in-Ok-Record.ensures).fits in
    subst IsWhole (sym c.new.ensures.value) (whole_record c.in-Ok-Record.start c.in-Ok-Record.end c.find.new.bytes.items fits.found.all)
