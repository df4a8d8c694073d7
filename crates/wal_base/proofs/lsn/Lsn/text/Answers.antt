use Rattle.std.proofs.Common.{ap, ◌∙◌, arith}
use Rattle.wal_base.specs.Lsn.{lsn_of}
use Rattle.wal_base.proofs.LsnLemmas.{lsn_of-lsn_text}
use Rattle.wal_base.proofs.lsn.Lsn.text.Goals as goal

pub returns-clause-again : goal.returns-clause-again
returns-clause-again c = ap lsn_of (c.from.ensures ∙ c.in_ok-to_string.ensures.ok) ∙ lsn_of-lsn_text c.args.self.0 (omega arith)
