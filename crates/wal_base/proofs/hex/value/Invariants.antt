use Rattle.std.proofs.Common.{◌≡◌, take}
use Rattle.wal_base.specs.Hex.{hex_value}
use Rattle.wal_base.proofs.hex.value.Given as goal

abbrev pub invariant-loop-digit : goal.invariant-loop-digit
invariant-loop-digit l = l.value ≡ hex_value (take l.digit-index l.digits)
