use Rattle.std.proofs.Common.{ap, arith}
use Rattle.wal_records.specs.Writer.{Written}
use Rattle.wal_records.proofs.NearLemmas.{ends_near}
use Rattle.wal_records.proofs.writer.LogWriter.position.Goals as goal

pub returns-clause-near : goal.returns-clause-near
returns-clause-near c = λ r fits.
    omega (arith, ends_near c.args.self.now.origin c.args.self.now.before c.args.self.now.end r fits, ap (λ (w : Written). w.end) c.self.view_is)
