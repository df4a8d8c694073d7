use Rattle.std.proofs.Common.{ap, ◌∙◌}
use Rattle.wal_records.specs.Writer.{Written, in_pages}
use Rattle.wal_records.proofs.AppendLemmas.{filled, in_pages_is}
use Rattle.wal_records.proofs.writer.LogWriter.bytes.Goals as goal

pub returns-clause-value : goal.returns-clause-value
returns-clause-value c =
    c.as_slice.ensures
    ∙ in_pages_is c.self.inside.pages.bytes c.self.inside.pages.zeros (filled c.self.inside.origin c.self.inside.end c.self.inside.pages c.self.invariant)
    ∙ ap (λ (w : Written). in_pages w.bytes) c.self.view_is

pub returns-clause-log : goal.returns-clause-log
returns-clause-log c = λ origin records e. returns-clause-value c ∙ ap (λ (w : Written). in_pages w.bytes) e
