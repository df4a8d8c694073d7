use Rattle.std.proofs.Common.{◌≡◌, take}
use Rattle.wal_base.specs.Hex.{hex_value}
use Rattle.reset_numbers.proofs.names.hex_value.Given as goal

abbrev pub invariant-loop-digit : goal.invariant-loop-digit
invariant-loop-digit l = l.value ≡ hex_value (take l.digit-index l.digits)
