use Rattle.std.proofs.Common.{rules, length, ap, ◌∙◌}
use Rattle.wal_records.specs.Writer.{new_record, record_bytes}
use Rattle.wal_records.proofs.WriterLemmas.{length_record_bytes}
use Rattle.wal_records.proofs.new_record.record_bytes.Goals as goal

pub returns-clause-value : goal.returns-clause-value
unfolding record_bytes
returns-clause-value c = search rules

pub returns-clause-size : goal.returns-clause-size
returns-clause-size c = ap length (returns-clause-value c) ∙ length_record_bytes c.args.before (new_record c.args.xid c.args.info c.args.manager c.args.body.now)
