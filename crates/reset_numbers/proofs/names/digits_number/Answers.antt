use Rattle.std.proofs.Common.{◌-◌, length}
use Rattle.wal_base.proofs.SegmentLemmas.{hex_part}
use Rattle.reset_numbers.proofs.names.digits_number.Goals as goal

pub hex_value-requires-clause-hex : goal.hex_value-requires-clause-hex
hex_value-requires-clause-hex c = hex_part c.args.digits.now 8 8 c.requires

pub hex_value-requires-2-clause-hex : goal.hex_value-requires-2-clause-hex
hex_value-requires-2-clause-hex c = hex_part c.args.digits.now 16 (length c.args.digits.now - 16) c.requires
