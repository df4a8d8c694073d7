use Rattle.std.proofs.Common.{arith}
use Rattle.wal_base.proofs.CrcTable.{table_byte}
use Rattle.wal_base.proofs.plain.add_byte.Goals as goal

pub returns : goal.returns
returns c = table_byte c.args.state c.args.byte (omega arith)
