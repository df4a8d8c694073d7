use Rattle.std.proofs.Common.{arith}
use Rattle.wal_base.proofs.CrcTable.{passed_at}
use Rattle.wal_base.proofs.slices.passed.Goals as goal

pub returns : goal.returns
returns c = passed_at c.args.after c.args.byte c.requires (omega arith)
